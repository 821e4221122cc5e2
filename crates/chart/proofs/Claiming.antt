-- Claims in turn, and a claim as the code stores it. Assumes nothing.
use mathlib.Core.Path.{◌≡◌, refl, sym, ap, ap₂, ◌∙◌}
use mathlib.Core.Bool.{Bool, true, false, cond}
use mathlib.Core.List.{List, [], ◌∷◌, ◌++◌, append-nil, append_assoc}
use Prim.Native.Nat.{ℕ, zero, suc, ◌+◌, ◌*◌, ◌-◌, ◌/◌, ◌%◌, ◌≤◌, ◌<◌}
use native.Mathlib.Nat.{mod-eq_of_lt, mul-zero, mul_comm, mul_assoc, mul-div_cancel, div-le_self}
use native.Mathlib.Decide.{dec_lt}
use native.Mathlib.Numerals.{add-one}
use native.Mathlib.Omega.{arith}
use lib.Dec.{eqb, ltb}
use lib.ListN.{length, take, drop, get_or, set, length-take, length-append, get_or-eq_default}
use lib.Seq.{sets, sets-eq, drop-drop, take-take, set-append_seam}
use borrow.Rule.Slice.PartMut.{put_mid}
use borrow.Author.Tests.{eq-eqb, ne_eqb, ltb-true}
use Rattle.words.specs.Bytes.{part, fill, zeros, bitmap}
use Rattle.words.proofs.Parts.{length_part}
use Rattle.words.proofs.Numbers.{length-fill, take-filled}
use Rattle.schema.proofs.Table.{agree}
use Rattle.answers.specs.declared.Path.{Path}
use Rattle.answers.specs.Paths.{path_of}
use Rattle.answers.proofs.PathLaws.{length-path}
use Rattle.chart.specs.Claims.{Claim, words, claim, claim_all, taken, held, steps_at, up_to, padding, byte_line, byte_lines, slot_word, slot_line, slot_lines}
use Rattle.chart.specs.Labels.{header, child_lines}
use Rattle.chart.specs.Room.{Long, Neat, PathAt}

-- ---- claims in turn

claim-append : (xs ys : List Claim) (m : List ℕ) → claim_all (xs ++ ys) m ≡ claim_all ys (claim_all xs m)
unfolding claim_all
claim-append [] ys m = refl
claim-append (c ∷ xs) ys m = claim-append xs ys (claim c m)

claimed-then : (xs ys : List Claim) (m₀ : List ℕ) {m m' : List ℕ} → m ≡ claim_all xs m₀ → m' ≡ claim_all ys m → m' ≡ claim_all (xs ++ ys) m₀
claimed-then xs ys m₀ e f = f ∙ ap (claim_all ys) e ∙ sym (claim-append xs ys m₀)

pub claimed-one : (c : Claim) (m : List ℕ) {m' : List ℕ} → m' ≡ claim c m → m' ≡ claim_all (c ∷ []) m
unfolding claim_all
claimed-one c m e = e

-- a header, and what comes behind it
pub claimed-head : (c : Claim) (cs : List Claim) (m₀ : List ℕ) {m m' : List ℕ} → m ≡ claim c m₀ → m' ≡ claim_all cs m → m' ≡ claim_all (c ∷ cs) m₀
unfolding claim_all
claimed-head c cs m₀ e f = f ∙ ap (claim_all cs) e

module _ (f : ℕ → List Claim) (m₀ : List ℕ) where
  pub turn-none : m₀ ≡ claim_all (up_to f 0) m₀
  unfolding up_to claim_all
  turn-none = refl

  pub turn : (i : ℕ) {m m' : List ℕ} → m ≡ claim_all (up_to f i) m₀ → m' ≡ claim_all (f i) m → m' ≡ claim_all (up_to f (i + 1)) m₀
  unfolding up_to
  turn i e g = rw (add-one i) (claimed-then (up_to f i) (f i) m₀ e g)

  pub turn-all : (i n : ℕ) {m : List ℕ} → m ≡ claim_all (up_to f i) m₀ → i ≤ n → n ≤ i → m ≡ claim_all (up_to f n) m₀
  turn-all i n e a b = let k : i ≡ n = omega arith in rw k at e

-- ---- one claim as the code stores it

-- nobody has a line behind the chart's end
pub past-free : (m : List ℕ) (line : ℕ) → Long m → 2048 ≤ line → false ≡ taken m line
past-free m line l h = let z : get_or m (18 * line) 0 ≡ 0 = get_or-eq_default m 0 (omega arith) in rw (eq-eqb (get_or m (18 * line) 0) 0 z)

module _ (m : List ℕ) (line what : ℕ) (p : Path) where
  -- the line is another's
  pub claim-taken : (get_or m (18 * line) 0 ≡ 0 → ⊥) → m ≡ claim (header line what (path_of p)) m
  unfolding claim
  claim-taken h = rw (ne_eqb (get_or m (18 * line) 0) 0 h)

  pub claim-made : Neat p → get_or m (18 * line) 0 ≡ 0 → (m' : List ℕ)
      → m' ≡ sets (set (set m (18 * line) what) (18 * line + 1) p.len) (18 * line + 2) p.steps
      → m' ≡ claim (header line what (path_of p)) m
  unfolding claim words
  claim-made n h m' e =
      let one : 18 * line + 1 ≡ suc (18 * line) = omega arith in
      let two : 18 * line + 2 ≡ suc (suc (18 * line)) = omega arith in
      rw (eq-eqb (get_or m (18 * line) 0) 0 h, length-path p, ← n.rest) (e ∙ rw (one, two))

-- the steps are stored in one run
put_mid-sets : (b v : List ℕ) (at k : ℕ) → length v ≡ k → at + k ≤ length b → put_mid at k b v ≡ sets b at v
put_mid-sets b v at k e h =
    sym (append_assoc (take at b) v _) ∙ ap (λ (t : List ℕ). take at b ++ v ++ t) (drop-drop k at b ∙ ap (λ (n : ℕ). drop (at + n) b) (sym e))
    ∙ sym (sets-eq v b at (omega arith))

pub steps-stored : (out u steps : List ℕ) (at : ℕ) → u ≡ steps → length steps ≡ 16 → at + 18 ≤ length out
    → put_mid (at + 2) (at + 18 - (at + 2)) out u ≡ sets out (at + 2) steps
steps-stored out u steps at e h room =
    let long : length u ≡ 16 = ap length e ∙ h in
    put_mid-sets out u (at + 2) (at + 18 - (at + 2)) (omega arith) (omega arith) ∙ ap (sets out (at + 2)) e

-- ---- paths

pub neat-long : (p : Path) → Neat p → length p.steps ≡ 16
neat-long p n = ap length n.rest ∙ length-fill 16 (path_of p) (rw (length-path p) n.few)

module _ (P : List ℕ) where
  fill-whole : fill (length P) P ≡ P
  unfolding fill
  fill-whole = let z : length P - length P ≡ 0 = omega arith in rw z (append-nil P)

  -- a step more
  fill-set : (i : ℕ) → length P < 16 → set (fill 16 P) (length P) i ≡ fill 16 (P ++ (i ∷ []))
  unfolding fill
  fill-set i h =
      let a : 16 - length P ≡ suc (15 - length P) = omega arith in
      let b : 16 - (length P + 1) ≡ 15 - length P = omega arith in
      rw (a, set-append_seam P 0 (zeros (15 - length P)) i, length-append P (i ∷ []), b, append_assoc P (i ∷ []) (zeros (15 - length P)))

  -- a path with zeros behind its steps
  pub path-is : (q : Path) → q.len ≡ length P → q.steps ≡ fill 16 P → path_of q ≡ P
  unfolding path_of
  path-is q l e = rw (l, e, take-filled 16 P) fill-whole

  pub neat-is : (q : Path) → length P ≤ 16 → q.len ≡ length P → q.steps ≡ fill 16 P → Neat q
  neat-is q h l e = record { few = rw l h; rest = e ∙ ap (fill 16) (sym (path-is q l e)) }

pub neat-front : (p : Path) → Neat p → take p.len p.steps ≡ path_of p
neat-front p n = ap₂ (λ (k : ℕ) (u : List ℕ). take k u) (sym (length-path p)) n.rest ∙ take-filled 16 (path_of p)

-- the path of child i of a place at the path p, where q has p's steps but for the one behind them
module _ (p : Path) (n : Neat p) (h : p.len < 16) (q : Path) (i : ℕ) (l : q.len ≡ p.len + 1)
    (e : set q.steps p.len i ≡ set p.steps p.len i) where
  abbrev child : Path
  child = record { steps = set q.steps p.len i; len = q.len }

  child-len : q.len ≡ length (path_of p ++ (i ∷ []))
  child-len = l ∙ rw (length-append, length-path p)

  child-steps : set q.steps p.len i ≡ fill 16 (path_of p ++ (i ∷ []))
  child-steps =
      e
      ∙ ap₂ (λ (u : List ℕ) (k : ℕ). set u k i) n.rest (sym (length-path p))
      ∙ fill-set (path_of p) i (rw (length-path p) h)

  pub child-path : path_of child ≡ path_of p ++ (i ∷ [])
  child-path = path-is (path_of p ++ (i ∷ [])) child child-len child-steps

  pub child-neat : Neat child
  child-neat = neat-is (path_of p ++ (i ∷ [])) child (rw (length-append, length-path p) (omega arith)) child-len child-steps

-- ---- runs of lines

pub padding-few : (size j : ℕ) → padding size j ≤ 8
padding-few size j = go (ltb size (8 * j + 8))
  where
    go : (b : Bool) → cond b 8 0 ≤ 8
    go true = omega arith
    go false = omega arith

pub word-few : (w : ℕ) → slot_word w ≤ 5
word-few w = go (eqb w 8)
  where
    go : (b : Bool) → cond b 4 5 ≤ 5
    go true = omega arith
    go false = omega arith

-- ---- slots of w bytes that fill a line

abbrev slots_on : ℕ → ℕ
slots_on w = cond (eqb w 8) 1 (cond (eqb w 4) 2 (cond (eqb w 2) 4 8))

wide-slots : (w : ℕ) → 8 < w → 8 % w ≡ 0 → ⊥
wide-slots w l e = absurd (omega (arith, mod-eq_of_lt l))

-- computed for each width
filled : (w : ℕ) → w < 9 → cond (eqb (8 % w) 0) (slots_on w * w) 8 ≡ 8
filled = agree (λ w. cond (eqb (8 % w) 0) (slots_on w * w) 8) (λ w. 8) 9 refl

pub slots-fill : (w : ℕ) → 8 % w ≡ 0 → slots_on w * w ≡ 8
slots-fill w e = go (dec_lt 8 w)
  where
    go : Dec (8 < w) → slots_on w * w ≡ 8
    go (yes l) = absurd (wide-slots w l e)
    go (no l) = rw (eq-eqb (8 % w) 0 e) at (filled w (omega arith))

-- the first slot on the line j
first_slot : (w each j : ℕ) → each * w ≡ 8 → each * j ≡ 8 * j / w
first_slot zero each j e = absurd (omega (arith, mul-zero each))
first_slot (suc w) each j e =
    sym (ap (λ (x : ℕ). x * j / suc w) (sym e) ∙ ap (λ (x : ℕ). x / suc w) (mul_assoc each (suc w) j ∙ ap (λ (x : ℕ). each * x) (mul_comm (suc w) j)
    ∙ sym (mul_assoc each j (suc w))) ∙ mul-div_cancel (each * j) (omega arith))

pub first-few : (w each j : ℕ) → each * w ≡ 8 → each * j ≤ 8 * j
first-few w each j e = rw (first_slot w each j e) (div-le_self (8 * j) w)

module _ (l size : ℕ) (m : List ℕ) (j x : ℕ) (e : x ≡ padding size j) where
  pub byte-turn : (what : ℕ) (p : List ℕ) {m' : List ℕ} → m' ≡ claim (header (l + j) (what + x) p) m → m' ≡ claim_all (byte_line l size what p j) m
  byte-turn what p g = claimed-one _ m (rw e at g)

  pub slot_turn : (w word each : ℕ) (p q : List ℕ) {m' : List ℕ} → each * w ≡ 8 → word ≡ slot_word w → q ≡ p ++ (each * j ∷ [])
      → m' ≡ claim (header (l + j) (word + x) q) m → m' ≡ claim_all (slot_line l w size p j) m
  slot_turn w word each p q h f k g = claimed-one _ m (rw (e, f, k, first_slot w each j h) at g)

-- the bitmap, and the slots behind it
pub child-all : (l w n b : ℕ) (p m₀ : List ℕ) {m m' : List ℕ} → b ≡ bitmap n → m ≡ claim_all (byte_lines l b 1 p) m₀
    → m' ≡ claim_all (slot_lines (l + b / 8) w (n * w) p) m → m' ≡ claim_all (child_lines l w n p) m₀
unfolding child_lines
child-all l w n b p m₀ e f g = claimed-then (byte_lines l (bitmap n) 1 p) (slot_lines (l + bitmap n / 8) w (n * w) p) m₀ (rw e at f) (rw e at g)

-- ---- the words of a line read back

steps_front : (p : Path) → length p.steps ≡ 16 → p.len ≤ 16 → path_of p ≡ take p.len p.steps
unfolding path_of fill
steps_front p e h =
    let z : p.len - length (take p.len p.steps) ≡ 0 = rw length-take (omega arith) in
    rw z (append-nil (take p.len p.steps))

pub held-few : (n : ℕ) → held n ≤ 16
held-few n = go (ltb n 16) refl
  where
    go : (b : Bool) → ltb n 16 ≡ b → cond b n 16 ≤ 16
    go true e = omega (arith, ltb-true n 16 e)
    go false e = omega arith

pub copied : (p : Path) (m : List ℕ) (line : ℕ) → Long m → line < 2048
    → p.steps ≡ take (18 * line + 18 - (18 * line + 2)) (drop (18 * line + 2) m) → p.len ≡ held (get_or m (18 * line + 1) 0) → PathAt m line p
unfolding steps_at
copied p m line long h e l =
    let few : p.len ≤ 16 = rw l (held-few (get_or m (18 * line + 1) 0)) in
    let sixteen : 18 * line + 18 - (18 * line + 2) ≡ 16 = omega arith in
    let all : p.steps ≡ part m (18 * line + 2) 16 = e ∙ ap (λ (k : ℕ). take k (drop (18 * line + 2) m)) sixteen in
    let full : length p.steps ≡ 16 = ap length all ∙ length_part m (18 * line + 2) 16 (omega arith) in
    record {
      few = few;
      is = steps_front p full few ∙ ap (take p.len) all ∙ take-take p.len 16 (drop (18 * line + 2) m) few ∙ ap (part m (18 * line + 2)) l;
    }
