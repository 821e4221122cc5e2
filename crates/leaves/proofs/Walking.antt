-- The walk: a place's own text, and the texts of the places below it one behind the other. Assumes nothing.
use mathlib.Core.Path.{◌≡◌, refl, sym, ap, ap₂, ◌∙◌}
use mathlib.Core.List.{List, [], ◌∷◌, ◌++◌, append-nil}
use Prim.Native.Nat.{ℕ, zero, suc, ◌+◌, ◌-◌, ◌≤◌, ◌<◌}
use native.Mathlib.Nat.{zero-add, suc-add}
use native.Mathlib.Numerals.{add-one}
use native.Mathlib.Omega.{arith}
use lib.ListN.{length, take, set, length-take, length-append, length-set}
use lib.Seq.{take-suc-set, take-set-le}
use Rattle.words.specs.Bytes.{fill}
use Rattle.layout.specs.Entries.{read_of}
use Rattle.table.specs.Tables.{schema_of}
use Rattle.answers.specs.declared.Path.{Path}
use Rattle.answers.specs.Paths.{path_of}
use Rattle.lettering.specs.Text.{Puts}
use Rattle.lettering.specs.Held.{Spilt, Walked}
use Rattle.lettering.proofs.Putting.{puts_none, puts_then, puts-as, at-used}
use Rattle.leaves.specs.Places.{below, text_at, ShowRoom, Shows}
use Rattle.leaves.specs.declared.Shown.{Shown}
use Rattle.leaves.specs.Whole.{in_order, card_from, card_of, card_at, WalkRoom}

-- ---- paths

path-of : (p : Path) → p.len ≤ 16 → length p.steps ≡ 16 → path_of p ≡ take p.len p.steps
unfolding path_of fill
path-of p h e =
    let z : p.len - length (take p.len p.steps) ≡ 0 = rw length-take (omega arith) in
    rw z (append-nil (take p.len p.steps))

-- the path of child i
abbrev pub child_at : Path → ℕ → ℕ → Path
child_at child n i = record { steps = set child.steps n i; len = child.len }

-- where the first n steps are the holder's
child-path : (child : Path) (steps : List ℕ) (n i : ℕ) → length child.steps ≡ 16 → n < 16 → child.len ≡ n + 1
    → take n child.steps ≡ take n steps → path_of (child_at child n i) ≡ take n steps ++ (i ∷ [])
child-path child steps n i e h l same =
    path-of (child_at child n i) (omega arith) (length-set child.steps n i ∙ e)
    ∙ ap (λ (k : ℕ). take k (set child.steps n i)) (l ∙ add-one n)
    ∙ take-suc-set child.steps n i (rw e h)
    ∙ ap (λ (t : List ℕ). t ++ (i ∷ [])) same

-- ---- texts one behind the other

module _ (f : List ℕ → List ℕ) (p : List ℕ) where
  in-order-more : (n : ℕ) → in_order f p n ++ f (p ++ (n ∷ [])) ≡ in_order f p (n + 1)
  unfolding in_order
  in-order-more n = rw (add-one n)

  grows : (k i : ℕ) → length (in_order f p i) ≤ length (in_order f p (k + i))
  unfolding in_order
  grows zero i = rw (zero-add i) (omega arith)
  grows (suc k) i = rw (suc-add k i, length-append) (omega (arith, grows k i))

  in-order-grows : (i n : ℕ) → i ≤ n → length (in_order f p i) ≤ length (in_order f p n)
  in-order-grows i n h = let e : n - i + i ≡ n = omega arith in rw e at (grows (n - i) i)

  in-order-none : (out : List ℕ) (at : ℕ) → Puts out at (in_order f p 0) at out
  unfolding in_order
  in-order-none out at = puts_none out at

-- ---- the walk

-- the text of a place right below one of n steps
abbrev beneath : List ℕ → List ℕ → ℕ → List ℕ → List ℕ
beneath s row n q = card_from (15 - n) s row q

-- the texts of the first i places below p, a path of n steps
abbrev passed : List ℕ → List ℕ → ℕ → Path → ℕ → List ℕ
passed s row n p i = in_order (beneath s row n) (take n p.steps) i

-- in the loop over the count places below one: the first i of them stand behind its own text, which ends at next₀
pub record Children (s row : List ℕ) (n count : ℕ) (p : Path) (out₀ : List ℕ) (next₀ : ℕ) (child : Path) (out : List ℕ) (next i : ℕ) : Type 0 where
  pub long : length out ≡ length out₀
  pub within : next ≤ length out₀
  pub len : child.len ≡ n + 1
  pub steps : length child.steps ≡ 16
  pub front : take n child.steps ≡ take n p.steps
  pub held : next₀ + length (passed s row n p count) ≤ 229000 → Puts out₀ next₀ (passed s row n p i) next out

pub children-start : {s row out : List ℕ} {n count next : ℕ} (child : Path) → child.len ≡ n + 1 → length child.steps ≡ 16 → next ≤ length out
    → Children s row n count child out next child out next 0
children-start {out = out} {next = next} child l e h =
    record { long = refl; within = h; len = l; steps = e; front = refl; held = λ x. in-order-none _ _ out next }

module _ {s row : List ℕ} {n count : ℕ} {p : Path} {out₀ : List ℕ} {next₀ : ℕ} {child : Path} {out : List ℕ} {next i : ℕ}
    (K : Children s row n count p out₀ next₀ child out next i) (h : n < 16) where
  -- the walk may go on below
  pub child-room : {t : List ℕ} {path : Path} {out₁ : List ℕ} {used : ℕ} → WalkRoom t row path out₁ used → length out₀ ≡ length out₁
      → WalkRoom t row (child_at child n i) out next
  child-room q e = record {
    opened = q.opened;
    few = omega (arith, K.len);
    steps = length-set child.steps n i ∙ K.steps;
    room = K.long ∙ e ∙ q.room;
    within = omega (arith, K.within, K.long);
  }

  -- the text of child i behind those before it, where the whole is held
  one-more : let f = beneath s row n in let P = take n p.steps in in_order f P i ++ card_at s row (child_at child n i) ≡ in_order f P (i + 1)
  one-more =
      let f = beneath s row n in
      let P = take n p.steps in
      let d : 16 - child.len ≡ 15 - n = omega (arith, K.len) in
      let same = child-path child p.steps n i K.steps h K.len K.front in
      let t : card_at s row (child_at child n i) ≡ f (P ++ (i ∷ [])) = ap₂ (λ (k : ℕ) (x : List ℕ). card_from k s row x) d same in
      ap (λ (x : List ℕ). in_order f P i ++ x) t ∙ in-order-more f P i

  pub child-fits : i < count → next₀ + length (passed s row n p count) ≤ 229000 → next + length (card_at s row (child_at child n i)) ≤ 229000
  child-fits l fits =
      let f = beneath s row n in
      let P = take n p.steps in
      let A = K.held fits in
      let long : length (in_order f P (i + 1)) ≡ length (in_order f P i) + length (card_at s row (child_at child n i)) =
      ap length (sym one-more) ∙ length-append (in_order f P i) (card_at s row (child_at child n i)) in
      omega (arith, A.next, in-order-grows f P (i + 1) count (omega arith))

  -- one more child
  pub children-next : {out' : List ℕ} {r : ℕ} → i < count → Walked (card_at s row (child_at child n i)) out next r out' → length out' ≡ length out
      → Children s row n count p out₀ next₀ (child_at child n i) out' r (i + 1)
  children-next {r = r} l W g = record {
    long = g ∙ K.long;
    within = omega (arith, W.within, K.long);
    len = K.len;
    steps = length-set child.steps n i ∙ K.steps;
    front = take-set-le n child.steps n i (omega arith) ∙ K.front;
    held = λ fits. puts-as one-more (puts_then (K.held fits) (W.held (child-fits l fits)));
  }

module _ {t row out : List ℕ} {path : Path} {used at : ℕ} (q : WalkRoom t row path out used) (S : Spilt used at) where
  abbrev s : List ℕ
  s = schema_of t

  pub show-room : ShowRoom t row path out at
  show-room = record { opened = q.opened; few = q.few; room = omega (arith, q.room, S.few) }

  module _ {r : Shown} {out' : List ℕ} (G : Shows s row (path_of path) out at r out') where
    pub shown-within : length out' ≡ length out → r.next ≤ length out'
    shown-within e = omega (arith, G.most, S.few, q.room)

    -- a path of sixteen steps has nothing below it
    pub walked-last : 16 ≤ path.len → Walked (card_at s row path) out used r.next out'
    unfolding card_from
    walked-last h =
        let z : 16 - path.len ≡ 0 = omega arith in
        rw z (record { within = omega (arith, G.most, S.few, q.room); held = λ l. at-used S (omega arith) G.text })

    split : (n : ℕ) (p : List ℕ) → n < 16 → text_at s row p ++ in_order (beneath s row n) p (below (read_of s row p)) ≡ card_from (16 - n) s row p
    unfolding card_from
    split n p h = let e : 16 - n ≡ suc (15 - n) = omega arith in rw e

    -- the texts of all the children behind the place's own
    all-below : {n : ℕ} (c : Path) → n ≡ path.len → c.steps ≡ path.steps → n < 16
        → text_at s row (path_of path) ++ passed s row n c r.count ≡ card_at s row path
    all-below {n} c en ec h =
        let f = beneath s row n in
        let P = take n c.steps in
        let is : P ≡ path_of path = ap₂ take en ec ∙ sym (path-of path q.few q.steps) in
        let same : in_order f P r.count ≡ in_order f (path_of path) (below (read_of s row (path_of path))) =
        ap₂ (λ (x : List ℕ) (m : ℕ). in_order f x m) is G.count in
        ap (λ (x : List ℕ). text_at s row (path_of path) ++ x) same ∙ split n (path_of path) h
        ∙ ap (λ (m : ℕ). card_from (16 - m) s row (path_of path)) en

    pub below-fits : {n : ℕ} (c : Path) → n ≡ path.len → c.steps ≡ path.steps → n < 16 → used + length (card_at s row path) ≤ 229000
        → r.next + length (passed s row n c r.count) ≤ 229000
    below-fits {n} c en ec h l =
        let long : length (card_at s row path) ≡ length (text_at s row (path_of path)) + length (passed s row n c r.count) =
        ap length (sym (all-below c en ec h)) ∙ length-append (text_at s row (path_of path)) (passed s row n c r.count) in
        let u : used ≤ 229000 = omega arith in
        let T = at-used S u G.text in
        omega (arith, T.next)

    -- a place and all its children
    pub walked_all : {n : ℕ} {c child : Path} {i next : ℕ} {out'' : List ℕ} → n ≡ path.len → c.steps ≡ path.steps → n < 16
        → Children s row n r.count c out' r.next child out'' next i → i ≡ r.count → length out' ≡ length out
        → Walked (card_at s row path) out used next out''
    walked_all {n} {c} en ec h K k e = record {
      within = omega (arith, K.within);
      held = λ l.
          let u : used ≤ 229000 = omega arith in
          let T = at-used S u G.text in
          puts-as (all-below c en ec h) (puts_then T (puts-as (ap (passed s row n c) k) (K.held (below-fits c en ec h l))));
    }

card-root : (s row : List ℕ) (p : Path) → p.len ≡ 0 → length p.steps ≡ 16 → card_at s row p ≡ card_of s row
unfolding card_of
card-root s row p z e =
    let is = path-of p (omega arith) e ∙ ap (λ (n : ℕ). take n p.steps) z in
    ap₂ (λ (k : ℕ) (x : List ℕ). card_from k s row x) (ap (λ (n : ℕ). 16 - n) z) is

pub walked-root : (s row : List ℕ) {out out' : List ℕ} {used r : ℕ} (p : Path) → p.len ≡ 0 → length p.steps ≡ 16
    → Walked (card_at s row p) out used r out' → Walked (card_of s row) out used r out'
walked-root s row p z e W = rw (card-root s row p z e) at W

pub root-fits : (s row : List ℕ) (used : ℕ) (p : Path) → p.len ≡ 0 → length p.steps ≡ 16
    → used + length (card_of s row) ≤ 229000 → used + length (card_at s row p) ≤ 229000
root-fits s row used p z e l = rw (card-root s row p z e) l
