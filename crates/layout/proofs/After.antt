-- An accepted setting of an accepted row: the tree that the row then stands for, and that the leaf reads as set. Assumes nothing.
use mathlib.Core.Path.{◌≡◌, refl, sym, ◌∙◌, subst}
use mathlib.Core.Logic.{◌≢◌}
use mathlib.Core.Bool.{Bool, true, false}
use mathlib.Core.Option.{Option, none, some, none-ne-some}
use mathlib.Core.List.{List, [], ◌∷◌}
use Prim.Native.Nat.{ℕ, ◌≤◌, ◌<◌, ◌^◌}
use native.Mathlib.Omega.{arith}
use lib.ListN.{length}
use Rattle.words.specs.Bytes.{Bytes, empty}
use Rattle.words.proofs.Numbers.{bytes-fill, bytes-zeros}
use Rattle.words.proofs.Parts.{part-whole}
use Rattle.words.proofs.Runs.{bytes-sets}
use Rattle.words.proofs.BitLaws.{bytes-put}
use Rattle.schema.specs.Types.{Fixed, Ty, fix, text, li, ma, ro, Tys}
use Rattle.layout.specs.Cells.{Cell, bytes}
use Rattle.layout.specs.Layout.{codec, Lays, decode, fault_at}
use Rattle.layout.specs.Refusals.{Refusal}
use Rattle.layout.specs.Walk.{Seat, Seen, bad, null_at, seen, root_seat, walk}
use Rattle.layout.specs.Places.{starts}
use Rattle.layout.specs.Reading.{Answer, type_along, placed, answer_of, found, read_in}
use Rattle.layout.specs.Setting as S
use Rattle.layout.specs.Setting.{Setting, is_null, in_bytes, or_empty, text_of, write_fixed, suits, keeps, unless, ◌or◌, refusal_in, judge_at, write}
use Rattle.layout.specs.Setting.{refuses, becomes, write_at, outcome, set_in}
use Rattle.layout.specs.Demand3.{Proper}
use Rattle.layout.proofs.Containers.{decode-lays, lays-decode}
use Rattle.layout.proofs.Cells.{leaf-bytes}
use Rattle.layout.proofs.Seen.{Like}
use Rattle.layout.proofs.Updated.{in-fits}
use Rattle.layout.proofs.Faults.{no-fault}
use Rattle.layout.proofs.Stepped.{Leafy}
use Rattle.layout.proofs.Walked.{walk-finds}
use Rattle.layout.proofs.Tree.{update}
use Rattle.layout.proofs.Landed.{type-end, placed-type, Landing, lands}
use Rattle.layout.proofs.Judged.{fine-leaf, Granted, granted-by, slot_at, cell_of, Changed, set_at}

-- ---- outcomes

outcome-done : (r : Option Refusal) (row row' : List ℕ) → outcome none r row ≡ becomes row' → (r ≡ none) × (row ≡ row')
unfolding outcome
outcome-done none row row' e = (refl, cc)
outcome-done (some n) row row' e = let z : ◌≡◌ {A = ℕ} 0 1 = cc in absurd (omega arith)

pub outcome-refused : (r : Option Refusal) (row : List ℕ) (n : Refusal) → outcome none r row ≡ refuses n → r ≡ some n
unfolding outcome
outcome-refused none row n e = let z : ◌≡◌ {A = ℕ} 0 1 = cc in absurd (omega arith)
outcome-refused (some m) row n e = cc

-- ---- what an accepted judgement says

pub record Judged (t : Ty) (a : Answer) (x : Setting) : Type 0 where
  pub present : refusal_in a ≡ none
  pub suits : suits t x ≡ true
  pub keeps : keeps t a x ≡ true

some-none : {A : Type 0} {a : A} → some a ≡ none → ⊥
some-none e = none-ne-some _ (sym e)

judged-by : (t : Ty) (a : Answer) (x : Setting) (r : Option Refusal) (s k : Bool) → refusal_in a ≡ r → suits t x ≡ s → keeps t a x ≡ k
    → r or unless s 8 or unless k 9 ≡ none → Judged t a x
judged-by t a x none true true h g f e = record { present = h; suits = g; keeps = f }
judged-by t a x none true false h g f e = absurd (some-none e)
judged-by t a x none false k h g f e = absurd (some-none e)
judged-by t a x (some n) s k h g f e = absurd (some-none e)

pub judged : (t : Ty) (a : Answer) (x : Setting) → judge_at (some t) a x ≡ none → Judged t a x
unfolding judge_at
judged t a x e = judged-by t a x _ _ _ refl refl refl e

pub judged-fine : (t : Ty) (a : Answer) (x : Setting) → Judged t a x → judge_at (some t) a x ≡ none
unfolding judge_at
judged-fine t a x j = rw (j.present, j.suits, j.keeps)

-- the place that the schema has
pub record Found (m : Option Ty) (w : Seen) (x : Setting) : Type 0 where
  pub type : Ty
  pub place : m ≡ some type
  pub judged : Judged type (answer_of type w) x

found-by : (m : Option Ty) (w : Seen) (x : Setting) → judge_at m (found m w) x ≡ none → Found m w x
unfolding found judge_at
found-by none w x e = absurd (some-none e)
found-by (some t) w x e = record { type = t; place = refl; judged = judged t (answer_of t w) x e }

-- ---- an accepted row

written-by : (m : Option Ty) (T : Ty) (x : Setting) (w : Seen) (row : List ℕ) → m ≡ some T → write T x w row ≡ write_at m x w row
unfolding write_at
written-by m T x w row e = rw e

-- the tree with the leaf set
abbrev pub after : Tys → List ℕ → Ty → Setting → Cell → Cell
after ts p T x c = update p (cell_of (slot_at 0 p (ro ts)) T x) c

changed-at : (ts : Tys) (x : Setting) (T : Ty) (p : List ℕ) (c : Cell) (b : List ℕ) → type_along p (ro ts) ≡ some T → Lays (ro ts) c b → length b < 2 ^ 32
    → Granted x T p c
    → Changed x T p (ro ts) c b (write T x (walk p (ro ts) root_seat 0 b) b)
changed-at ts x T [] c b e y lim g = absurd (subst Leafy (sym (type-end (ro ts) T e)) (fine-leaf g.fine))
changed-at ts x T (i ∷ p) c b e y lim g = set_at x T i p (ro ts) c b e y lim g

-- what is written is bytes
bytes-fixed : (f : Fixed) (x : Setting) (s : Seat) (row : List ℕ) → Bytes row → Bytes (write_fixed f x s row)
unfolding write_fixed
bytes-fixed f x s row b = bytes-sets s.slot (bytes-put s.bits s.number (is_null x) b) (bytes-fill s.wide (go (in_bytes f x) refl))
  where
    go : (m : Option (List ℕ)) → in_bytes f x ≡ m → Bytes (or_empty m)
    go none e = empty
    go (some u) e = rw leaf-bytes at (in-fits f x u e).proper

bytes-text : (x : Setting) → Proper x → Bytes (text_of x)
bytes-text S.null b = empty
bytes-text (S.bool v) b = empty
bytes-text (S.signed z) b = empty
bytes-text (S.float32 n) b = empty
bytes-text (S.float64 n) b = empty
bytes-text (S.bytes u) b = b

bytes-write : (T : Ty) (x : Setting) (r : Seen) (row : List ℕ) → Proper x → Bytes row → Bytes (write T x r row)
unfolding write
bytes-write T x (bad n) row p b = b
bytes-write (fix f) x (null_at s) row p b = bytes-fixed f x s row b
bytes-write (text k) x (null_at s) row p b = bytes-sets s.slot b (bytes-zeros s.wide)
bytes-write (li t) x (null_at s) row p b = b
bytes-write (ma k v) x (null_at s) row p b = b
bytes-write (ro ts) x (null_at s) row p b = b
bytes-write (fix f) x (seen s o u) row p b = bytes-fixed f x s row b
bytes-write (text k) x (seen s o u) row p b = bytes-sets o b (bytes-text x p)
bytes-write (li t) x (seen s o u) row p b = b
bytes-write (ma k v) x (seen s o u) row p b = b
bytes-write (ro ts) x (seen s o u) row p b = b

-- a setting of a place of type T that is done
pub record Made (ts : Tys) (p : List ℕ) (x : Setting) (T : Ty) (c : Cell) (row row' : List ℕ) : Type 0 where
  pub granted : Granted x T p c
  pub lays : Lays (ro ts) (after ts p T x c) row'
  pub size : length row' ≡ length row
  pub bytes : Bytes row'
  pub others : (q : List ℕ) (U : Ty) → type_along q (ro ts) ≡ some U → p ≢ q → Like U (walk q (ro ts) root_seat 0 row') (walk q (ro ts) root_seat 0 row)
  pub there : starts T (walk p (ro ts) root_seat 0 row') ≡ starts T (walk p (ro ts) root_seat 0 row)

pub record Done (ts : Tys) (p : List ℕ) (x : Setting) (c : Cell) (row row' : List ℕ) : Type 0 where
  pub type : Ty
  pub place : placed p (ro ts) ≡ some type
  pub judged : judge_at (some type) (answer_of type (walk p (ro ts) root_seat 0 row)) x ≡ none
  pub made : Made ts p x type c row row'

-- a row that check accepts, and its contents
pub record Accepted (ts : Tys) (row : List ℕ) : Type 0 where
  pub bytes : Bytes row
  pub size : length row ≤ 16384
  pub tree : Cell
  pub reads : decode (ro ts) row ≡ some tree

module _ (ts : Tys) (row : List ℕ) (a : Accepted ts row) where
  pub row-lays : Lays (ro ts) a.tree row
  row-lays = lays-decode (ro ts) row a.tree a.bytes a.reads

  -- it has no fault
  pub row-sound : fault_at (ro ts) row ≡ none
  row-sound = no-fault ((codec (ro ts)).get row) a.reads

  row-short : length row < 2 ^ 32
  row-short = omega (arith, a.size)

  pub row-lands : (p : List ℕ) (T : Ty) → placed p (ro ts) ≡ some T → Landing row T p a.tree (walk p (ro ts) root_seat 0 row)
  row-lands p T e =
      lands row p (ro ts) a.tree (walk p (ro ts) root_seat 0 row) T (placed-type p (ro ts) T e)
      (walk-finds row p (ro ts) a.tree root_seat 0 row row-lays row-short (record { there = part-whole row; room = omega arith }))

  pub read_at : (p : List ℕ) (T : Ty) → placed p (ro ts) ≡ some T → read_in ts row p ≡ answer_of T (walk p (ro ts) root_seat 0 row)
  unfolding read_in found
  read_at p T e = rw e

  -- refused as judged
  pub turned_down : (p : List ℕ) (x : Setting) (n : Refusal) → judge_at (placed p (ro ts)) (read_in ts row p) x ≡ some n → set_in ts row p x ≡ refuses n
  unfolding set_in outcome
  turned_down p x n j = rw (row-sound, j)

  -- done, with the row of the tree with that leaf set
  pub allowed : (p : List ℕ) (x : Setting) (T : Ty) → placed p (ro ts) ≡ some T → judge_at (some T) (answer_of T (walk p (ro ts) root_seat 0 row)) x ≡ none
      → set_in ts row p x ≡ becomes (write T x (walk p (ro ts) root_seat 0 row) row)
  unfolding set_in outcome write_at
  allowed p x T e j = rw (row-sound, read_at p T e, e, j)

  pub written : (p : List ℕ) (x : Setting) (T : Ty) → Proper x → placed p (ro ts) ≡ some T → Judged T (answer_of T (walk p (ro ts) root_seat 0 row)) x
      → Made ts p x T a.tree row (write T x (walk p (ro ts) root_seat 0 row) row)
  written p x T b e j =
      let g = granted-by row T p a.tree (walk p (ro ts) root_seat 0 row) x b (row-lands p T e) j.present j.suits j.keeps in
      let d = changed-at ts x T p a.tree row (placed-type p (ro ts) T e) row-lays row-short g in
      record {
        granted = g;
        lays = d.lays;
        size = d.size;
        bytes = bytes-write T x (walk p (ro ts) root_seat 0 row) row b a.bytes;
        others = d.others;
        there = d.there;
      }

  pub done : (p : List ℕ) (x : Setting) (row' : List ℕ) → Proper x → set_in ts row p x ≡ becomes row' → Done ts p x a.tree row row'
  unfolding set_in read_in
  done p x row' b e =
      let o = outcome-done _ _ row' (rw row-sound at e) in
      let f = found-by (placed p (ro ts)) (walk p (ro ts) root_seat 0 row) x o.0 in
      let s : write f.type x (walk p (ro ts) root_seat 0 row) row ≡ row' = written-by (placed p (ro ts)) f.type x (walk p (ro ts) root_seat 0 row) row
      f.place ∙ o.1 in
      record {
        type = f.type;
        place = f.place;
        judged = judged-fine f.type (answer_of f.type (walk p (ro ts) root_seat 0 row)) x f.judged;
        made = subst (Made ts p x f.type a.tree row) s (written p x f.type b f.place f.judged);
      }

  -- what a row that stands for a tree is known by
  abbrev pub accepted-as : (c : Cell) (row' : List ℕ) → Bytes row' → Lays (ro ts) c row' → length row' ≡ length row → Accepted ts row'
  accepted-as c row' b y n = record {
    bytes = b;
    size = omega (arith, a.size);
    tree = c;
    reads = decode-lays (ro ts) c row' y (omega (arith, a.size));
  }
