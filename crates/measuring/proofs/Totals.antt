-- Children measured in a loop: what is left leads to the same total. Assumes nothing.
use mathlib.Core.Path.{◌≡◌, refl, sym, ap, ◌∙◌}
use mathlib.Core.Option.{Option, none, some, none-ne-some, some-injective}
use mathlib.Core.List.{List, [], ◌∷◌, ◌++◌}
use Prim.Native.Nat.{ℕ, zero, suc, ◌+◌, ◌*◌, ◌-◌, ◌≤◌, ◌<◌, ◌^◌, ◌%◌}
use native.Mathlib.Omega.{arith}
use lib.ListN.{length, drop, replicate, length-append, length-replicate}
use Rattle.words.specs.Bytes.{Bytes, le, pad, bitmap}
use Rattle.words.proofs.Numbers.{bytes-append, bytes_drop, bytes_le, length-le, num-le}
use Rattle.schema.specs.Types.{Ty, li, ro, Tys, end, ◌then◌, count, mark}
use Rattle.layout.specs.Reader.{◌>>=◌}
use Rattle.layout.specs.Cells.{Cell, node}
use Rattle.layout.specs.Layout.{Kid, kid, kid_tail, slot_of, tails, array, struct, codec, kids, AllFit}
use Rattle.layout.specs.Listing.{Script, item, run_get, list_script, element, script, scripts}
use Rattle.layout.proofs.Reader.{When, refused, yields, when-bind, when-some, cut-back}
use Rattle.layout.proofs.Cells.{parts-node}
use Rattle.layout.proofs.Children.{all-length}
use Rattle.layout.proofs.Containers.{repeat, body-length, kids-lawful, element-lawful, kids-count}
use Rattle.layout.proofs.Items.{Listed, RunListed, run-forth}
use Rattle.layout.proofs.Listed.{script-lawful, scripts-lawful}
use Rattle.measuring.specs.Measure.{Gives, size, Goes}

-- the bytes behind the slots of all children that were read
unfoldable pub total_of : List Kid → Option (List Cell × List ℕ) → Option (ℕ × List ℕ)
total_of ks none = none
total_of ks (some (cs, r)) = some (length (tails ks cs), r)

-- with u bytes counted before
unfoldable pub added : ℕ → Option (ℕ × List ℕ) → Option (ℕ × List ℕ)
added u none = none
added u (some (n, r)) = some (u + n, r)

added_none : (o : Option (ℕ × List ℕ)) → added 0 o ≡ o
unfolding added
added_none none = refl
added_none (some (n, r)) = ap (λ (j : ℕ). some (j, r)) (omega arith)

abbrev pub join : Cell → Option (List Cell × List ℕ) → Option (List Cell × List ℕ)
join c none = none
join c (some (cs, r)) = some (c ∷ cs, r)

run-one : (k : Kid) (ks : List Kid) (c : Cell) (u : ℕ) (o : Option (List Cell × List ℕ))
    → added u (total_of (k ∷ ks) (join c o)) ≡ added (u + length (kid_tail k c)) (total_of ks o)
unfolding added total_of tails
run-one k ks c u none = refl
run-one k ks c u (some (cs, r)) = ap (λ (j : ℕ). some (j, r)) (rw length-append (omega arith))

pub run_more : (s : Script) (ss : List Script) (b : List ℕ) (c : Cell) (r : List ℕ) → s.get b ≡ some (c, r) → run_get (s ∷ ss) b ≡ join c (run_get ss r)
unfolding run_get
run_more s ss b c r e = rw e (joined (run_get ss r))
  where
    joined : (o : Option (List Cell × List ℕ)) → (o >>= λ (cs, r'). some (c ∷ cs, r')) ≡ join c o
    joined none = refl
    joined (some (cs, r')) = refl

pub run-stop : (s : Script) (ss : List Script) (b : List ℕ) → s.get b ≡ none → run_get (s ∷ ss) b ≡ none
unfolding run_get
run-stop s ss b e = rw e

-- what a total says of the reading
pub record Read (ks : List Kid) (o : Option (List Cell × List ℕ)) (u : ℕ) (r : List ℕ) : Type 0 where
  pub cells : List Cell
  pub reads : o ≡ some (cells, r)
  pub is : u ≡ length (tails ks cells)

pub total-none : (ks : List Kid) (o : Option (List Cell × List ℕ)) → total_of ks o ≡ none → o ≡ none
unfolding total_of
total-none ks none e = refl
total-none ks (some (cs, r)) e = absurd (none-ne-some _ (sym e))

pub total-some : (ks : List Kid) (o : Option (List Cell × List ℕ)) {u : ℕ} {r : List ℕ} → total_of ks o ≡ some (u, r) → Read ks o u r
unfolding total_of
total-some ks none e = absurd (none-ne-some _ e)
total-some ks (some (cs, q)) {u} {r} e =
    let p : ◌≡◌ {A = ℕ × List ℕ} (length (tails ks cs), q) (u, r) = some-injective _ _ e in
    record {
      cells = cs;
      reads = ap (λ (x : List ℕ). some (cs, x)) (ap (λ (x : ℕ × List ℕ). x.1) p);
      is = sym (ap (λ (x : ℕ × List ℕ). x.0) p);
    }

-- ---- the loop: left of n children are still to be read, from pos on, and take their bytes to what all take

pub record Going (whole : Option (ℕ × List ℕ)) (ks : List Kid) (ss : List Script) (l : List ℕ) (n left from pos sum : ℕ) : Type 0 where
  pub same : added sum (total_of ks (run_get ss (drop pos l))) ≡ whole
  pub bytes : Bytes l
  pub goes : Goes l pos
  pub most : left ≤ n
  pub words : sum % 8 ≡ 0
  pub small : 16 * from + 32 * (n - left) + sum ≤ 16 * pos

pub going_start : (ks : List Kid) (ss : List Script) (l : List ℕ) (n from : ℕ) → Bytes l → Goes l from
    → Going (total_of ks (run_get ss (drop from l))) ks ss l n n from from 0
going_start ks ss l n from hb h = record { same = added_none _; bytes = hb; goes = h; most = omega arith; words = omega arith; small = omega arith }

module _ {whole : Option (ℕ × List ℕ)} {l : List ℕ} {n left from pos sum : ℕ} where
  module _ {k : Kid} {ks : List Kid} {s : Script} {ss : List Script} (g : Going whole (k ∷ ks) (s ∷ ss) l n left from pos sum) where
    pub going_next : 0 < left → {next m : ℕ} → Gives (s.get (drop pos l)) (λ c. length (kid_tail k c)) l (16 * pos + 32) 0 next m
        → Going whole ks ss l n (left - 1) from next (sum + m)
    going_next h {next} {m} x = record {
      same =
          ap (λ (j : ℕ). added (sum + j) (total_of ks (run_get ss (drop next l)))) x.is
          ∙ sym (run-one k ks x.thing sum (run_get ss (drop next l)))
          ∙ ap (λ o. added sum (total_of (k ∷ ks) o)) (sym (run_more s ss (drop pos l) x.thing (drop next l) x.reads))
          ∙ g.same;
      bytes = g.bytes;
      goes = record { inside = x.inside; short = g.goes.short };
      most = omega (arith, g.most);
      words = omega (arith, g.words, x.words);
      small = omega (arith, g.small, x.small, g.most);
    }

    pub going-bad : s.get (drop pos l) ≡ none → whole ≡ none
    unfolding added total_of
    going-bad e = sym g.same ∙ rw (run-stop s ss (drop pos l) e)

  pub going_end : Going whole [] [] l n left from pos sum → whole ≡ some (sum, drop pos l)
  unfolding added total_of tails run_get
  going_end g = sym g.same ∙ ap (λ (j : ℕ). some (j, drop pos l)) (omega arith)

-- ---- arrays

pub replicate_more {ℓ} : {A : Type ℓ} (n : ℕ) (x : A) → (n ≡ 0 → ⊥) → replicate n x ≡ x ∷ replicate (n - 1) x
replicate_more zero x h = absurd (h refl)
replicate_more (suc n) x h = let e : suc n - 1 ≡ n = omega arith in rw e

pub replicate-none {ℓ} : {A : Type ℓ} (n : ℕ) (x : A) → n ≡ 0 → replicate n x ≡ []
replicate-none n x e = rw e

abbrev pub element_kid : Ty → Kid
element_kid t = kid (slot_of (codec t).wide) (codec t)

abbrev pub element_script : Ty → Script
element_script t = element t (script t)

-- as many as there are scripts
run-many : (ss : List Script) (b : List ℕ) → When (λ p. length p.0 ≡ length ss) (run_get ss b)
unfolding run_get
run-many [] b = yields refl
run-many (s ∷ ss) b =
    when-bind (whatever (s.get b)) λ (c, r) _.
    when-bind (run-many ss r) λ (cs, r') e.
    yields {a = (c ∷ cs, r')} (ap suc e)
  where
    whatever : (o : Option (Cell × List ℕ)) → When (λ _. Unit {0}) o
    whatever none = refused
    whatever (some p) = yields tt

-- what is read of an array fits: with its count in front it is a list
pub array_fit : (t : Ty) (l : List ℕ) (from n : ℕ) (cs : List Cell) (r : List ℕ) → Bytes l → n < 256 ^ 4
    → run_get (replicate n (element_script t)) (drop from l) ≡ some (cs, r) → AllFit (slot_of (codec t).wide) (replicate n (element_kid t)) cs
unfolding script list_script codec array
array_fit t l from n cs r hb few e =
    let b = le 4 n ++ drop from l in
    let g : (script (li t)).get b ≡ some (node cs, r) = rw (cut-back 4 (le 4 n) (drop from l) (length-le 4 n), num-le 4 n few, e) in
    let x : Listed (codec (li t)).Fits (script (li t)).put b (node cs, r) =
    when-some {P = Listed (codec (li t)).Fits (script (li t)).put b}
    ((script-lawful (li t)).forth b (bytes-append (bytes_le 4 n) (bytes_drop from hb))) g in
    let many : length cs ≡ length (replicate n (element_script t)) =
    when-some {P = λ p. length p.0 ≡ length (replicate n (element_script t))} (run-many (replicate n (element_script t)) (drop from l)) e in
    let m : length cs ≡ n = many ∙ length-replicate n (element_script t) in
    rw (parts-node, m) at x.fits.children

pub array_size : (t : Ty) (n : ℕ) (cs : List Cell) → AllFit (slot_of (codec t).wide) (replicate n (element_kid t)) cs
    → size (li t) (node cs) ≡ 8 + bitmap n + pad (n * slot_of (codec t).wide) + length (tails (replicate n (element_kid t)) cs)
unfolding size codec array
array_size t n cs f =
    let w = slot_of (codec t).wide in
    let ks = replicate n (element_kid t) in
    let e : length cs ≡ n = all-length w ks cs f ∙ length-replicate n (element_kid t) in
    let b = rw length-replicate at (body-length 8 w ks cs (repeat w n (element_kid t) (element-lawful t)) f) in
    rw (parts-node, e, length-append, length-le) (omega arith)

-- ---- fields

pub kids-then : (t : Ty) (ts : Tys) → kids (t then ts) ≡ kid 8 (codec t) ∷ kids ts
unfolding codec
kids-then t ts = refl

pub scripts-then : (t : Ty) (ts : Tys) → scripts (t then ts) ≡ item 8 (mark t) (script t) ∷ scripts ts
unfolding script
scripts-then t ts = refl

pub kids-end : kids end ≡ []
unfolding codec
kids-end = refl

pub scripts-end : scripts end ≡ []
unfolding script
scripts-end = refl

pub fields_fit : (ts : Tys) (l : List ℕ) (from : ℕ) (cs : List Cell) (r : List ℕ) → Bytes l
    → run_get (scripts ts) (drop from l) ≡ some (cs, r) → AllFit 8 (kids ts) cs
fields_fit ts l from cs r hb e =
    let x : RunListed 8 (kids ts) (scripts ts) (drop from l) (cs, r) =
    when-some {P = RunListed 8 (kids ts) (scripts ts) (drop from l)}
    (run-forth 8 (kids ts) (scripts ts) (drop from l) (scripts-lawful ts) (bytes_drop from hb)) e in
    x.fit

pub fields-size : (ts : Tys) (cs : List Cell) → AllFit 8 (kids ts) cs
    → size (ro ts) (node cs) ≡ bitmap (count ts) + 8 * count ts + length (tails (kids ts) cs)
unfolding size codec struct
fields-size ts cs f =
    let b = rw (kids-count ts) at (body-length 0 8 (kids ts) cs (kids-lawful ts) f) in
    rw parts-node (omega arith)
