-- Two settings: of one leaf, and of two leaves; and a leaf set to what it holds. Assumes nothing.
use mathlib.Core.Path.{◌≡◌, refl, sym, ap, ◌∙◌, subst}
use mathlib.Core.Logic.{◌≢◌, inl, inr}
use mathlib.Core.Option.{some}
use mathlib.Core.List.{List, [], ◌∷◌}
use Prim.Native.Nat.{ℕ, ◌<◌, ◌^◌}
use native.Mathlib.Omega.{arith}
use lib.ListN.{length, set}
use lib.Seq.{get_or-set_other, set-set, set_comm, set-get_or}
use Rattle.schema.specs.Types.{Fixed, Text, Ty, fix, text}
use Rattle.layout.specs.Cells.{Cell, null, leaf, nodes, Cells, nil, cons, from_cells, to_cells, node, on_null, flag, bytes, parts, part_of}
use Rattle.layout.specs.Layout.{Lays}
use Rattle.layout.specs.Walk.{Seen, root_seat}
use Rattle.layout.specs.Reading as R
use Rattle.layout.specs.Reading.{answer_of}
use Rattle.layout.specs.Setting as S
use Rattle.layout.specs.Setting.{Setting, is_null, keeps, keeps_text, refusal_in, judge_at, text_of}
use Rattle.layout.proofs.Cells.{parts-node}
use Rattle.layout.proofs.Single.{Starting, single}
use Rattle.layout.proofs.Tree.{look, update, Valid, Parted, part-set}
use Rattle.layout.proofs.Landed.{Landing, off, at_null, at_seen}
use Rattle.layout.proofs.Judged.{Fine, number_null, number_given, text_null, text_given, text-lays-flag, given, cell_of}
use Rattle.layout.proofs.Told.{cell-null, cell-given, value-present}

-- ---- trees

to-from : (cs : Cells) → to_cells (from_cells cs) ≡ cs
unfolding from_cells to_cells
to-from nil = refl
to-from (cons c cs) = ap (cons c) (to-from cs)

-- what holds something is a node
node-parts : (c : Cell) → 0 < length (parts c) → node (parts c) ≡ c
unfolding parts
node-parts (null u) h = absurd (omega arith)
node-parts (leaf u) h = absurd (omega arith)
node-parts (nodes cs) h = ap nodes (to-from cs)

-- a place set to what it holds
pub update-look : (p : List ℕ) (c : Cell) → Valid p c → update p (look p c) c ≡ c
unfolding look update Valid
update-look [] c v = refl
update-look (i ∷ p) c v = rw (update-look p (part_of i c) v.1) (ap node (set-get_or (parts c) i (leaf [])) ∙ node-parts c (omega (arith, v.0)))

part-other : (i j : ℕ) (c x : Cell) → j ≢ i → part_of j (node (set (parts c) i x)) ≡ part_of j c
part-other i j c x n = rw parts-node (get_or-set_other (parts c) i j x (leaf []) n)

-- two places that part, set in either order
pub update_comm : (p q : List ℕ) (x y c : Cell) → Parted p q → Valid p c → update q y (update p x c) ≡ update p x (update q y c)
unfolding update Parted Valid
update_comm [] q x y c a v = absurd a
update_comm (i ∷ p) [] x y c a v = absurd a
update_comm (i ∷ p) (j ∷ q) x y c (inl d) v =
    rw (part-other i j c (update p x (part_of i c)) (λ e. d (sym e)), part-other j i c (update q y (part_of j c)) d, parts-node, parts-node)
    (ap node (set_comm (parts c) i j _ _ d))
update_comm (i ∷ p) (j ∷ q) x y c (inr d) v =
    rw (
      ← d.0,
      part-set i c (update p x (part_of i c)) v.0,
      part-set i c (update q y (part_of i c)) v.0,
      parts-node,
      parts-node,
      set-set,
      set-set,
      update_comm p q x y (part_of i c) d.1 v.1,
    )

-- equal trees with their values at the same places, equal bytes
pub same_bytes : (t : Ty) (c d : Cell) (a b : List ℕ) → Lays t c a → Lays t d b → length a < 2 ^ 32 → c ≡ d → Starting t root_seat 0 a b → a ≡ b
same_bytes t c d a b y z lim e s = single t d a b root_seat 0 (subst (λ (x : Cell). Lays t x a) e y) z lim s

-- ---- one leaf: the judgement is the same before and after

-- a fixed-width leaf's, whatever it holds
fixed-judge : (row : List ℕ) (f : Fixed) (p : List ℕ) (c : Cell) (r : Seen) (y : Setting) → Landing row (fix f) p c r → Valid p c
    → judge_at (some (fix f)) (answer_of (fix f) r) y ≡ judge_at (some (fix f)) R.null y
unfolding answer_of judge_at refusal_in keeps
fixed-judge row f p c r y (off n g) v = absurd (g v)
fixed-judge row f p c r y (at_null _ z) v = refl
fixed-judge row f p c r y (at_seen {u = u} _ l st) v = rw (value-present f u)

-- a string's, by its nullness and size
record Alike (a b : Cell) : Type 0 where
  null : flag a ≡ flag b
  size : length (bytes a) ≡ length (bytes b)

text-judge : (row row' : List ℕ) (k : Text) (p : List ℕ) (c c' : Cell) (r r' : Seen) (y : Setting) → Landing row (text k) p c r
    → Landing row' (text k) p c' r' → Valid p c → Valid p c' → Alike (look p c) (look p c')
    → judge_at (some (text k)) (answer_of (text k) r') y ≡ judge_at (some (text k)) (answer_of (text k) r) y
unfolding answer_of judge_at refusal_in keeps keeps_text
text-judge row row' k p c c' r r' y (off n g) l' v v' a = absurd (g v)
text-judge row row' k p c c' r r' y (at_null _ z) (off n g) v v' a = absurd (g v')
text-judge row row' k p c c' r r' y (at_null _ z) (at_null _ z') v v' a = refl
text-judge row row' k p c c' r r' y (at_null _ z) (at_seen {u = u} _ l st) v v' a = absurd (omega (arith, a.null, (text-lays-flag k (look p c') u l).0))
text-judge row row' k p c c' r r' y (at_seen _ l st) (off n g) v v' a = absurd (g v')
text-judge row row' k p c c' r r' y (at_seen {u = u} _ l st) (at_null _ z) v v' a = absurd (omega (arith, a.null, (text-lays-flag k (look p c) u l).0))
text-judge row row' k p c c' r r' y (at_seen {u = u} _ l st) (at_seen {u = u'} _ l' st') v v' a =
    let e : length u' ≡ length u = (text-lays-flag k (look p c') u' l').1 ∙ sym a.size ∙ sym (text-lays-flag k (look p c) u l).1 in
    rw e

abbrev Again : List ℕ → List ℕ → List ℕ → Cell → Cell → Seen → Seen → Setting → Ty → Type 0
Again row row' p c c' r r' y T = Landing row T p c r → Landing row' T p c' r' → judge_at (some T) (answer_of T r') y ≡ judge_at (some T) (answer_of T r) y

fixed-again : (row row' : List ℕ) (f : Fixed) (p : List ℕ) (c c' : Cell) (r r' : Seen) (y : Setting) → Valid p c → Valid p c'
    → Again row row' p c c' r r' y (fix f)
fixed-again row row' f p c c' r r' y v v' l l' = fixed-judge row' f p c' r' y l' v' ∙ sym (fixed-judge row f p c r y l v)

null-alike : (a b : Cell) (u : List ℕ) → flag a ≡ 1 → b ≡ null u → Alike a b
unfolding on_null bytes
null-alike (null v) b u f e = record { null = sym (ap (λ (z : Cell). flag z) e); size = sym (ap (λ (z : Cell). length (bytes z)) e) }
null-alike (leaf v) b u f e = absurd (omega arith)
null-alike (nodes cs) b u f e = absurd (omega arith)

leaf-alike : (a b : Cell) (u : List ℕ) → flag a ≡ 0 → length u ≡ length (bytes a) → b ≡ leaf u → Alike a b
unfolding on_null bytes
leaf-alike a b u f n e = record { null = f ∙ sym (ap (λ (z : Cell). flag z) e); size = sym n ∙ sym (ap (λ (z : Cell). length (bytes z)) e) }

text-cell : (w : ℕ) (T : Ty) (k : Text) (x : Setting) (u : List ℕ) → T ≡ text k → x ≡ S.bytes u → cell_of w T x ≡ leaf u
unfolding given
text-cell w T k x u q h = cell-given w T x (ap is_null h) ∙ ap leaf (ap (λ (t : Ty). given t x) q ∙ ap text_of h)

pub judge-again : (row row' : List ℕ) (T : Ty) (p : List ℕ) (c c' : Cell) (r r' : Seen) (x y : Setting) (w : ℕ) → Valid p c → Valid p c'
    → Fine x T (look p c) → look p c' ≡ cell_of w T x → Again row row' p c c' r r' y T
judge-again row row' T p c c' r r' x y w v v' (number_null {f = f} q h) e = subst (Again row row' p c c' r r' y) (sym q)
    (fixed-again row row' f p c c' r r' y v v')
judge-again row row' T p c c' r r' x y w v v' (number_given {f = f} q h g) e = subst (Again row row' p c c' r r' y) (sym q)
    (fixed-again row row' f p c c' r r' y v v')
judge-again row row' T p c c' r r' x y w v v' (text_null {k = k} q h f) e =
    subst (Again row row' p c c' r r' y) (sym q) (λ l l'. text-judge row row' k p c c' r r' y l l' v v'
    (null-alike (look p c) (look p c') _ f (e ∙ cell-null w T x h)))
judge-again row row' T p c c' r r' x y w v v' (text_given {k = k} {u = u} q h f n b) e =
    subst (Again row row' p c c' r r' y) (sym q) (λ l l'. text-judge row row' k p c c' r r' y l l' v v'
    (leaf-alike (look p c) (look p c') u f n (e ∙ text-cell w T k x u q h)))
