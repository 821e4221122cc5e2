-- A place set in the tree: it holds what was set, and the last of two settings stands alone; and paths that part. Assumes nothing.
use mathlib.Core.Path.{◌≡◌, refl}
use mathlib.Core.Logic.{◌≢◌, ◌⊎◌}
use mathlib.Core.List.{List, [], ◌∷◌}
use Prim.Native.Nat.{ℕ, ◌<◌}
use lib.ListN.{length, set, length-set}
use lib.Seq.{get_or-set_same, set-set}
use Rattle.layout.specs.Cells.{Cell, leaf, node, parts, part_of}
use Rattle.layout.proofs.Cells.{parts-node}

-- what stands at the end of a path
unfoldable pub look : List ℕ → Cell → Cell
look [] c = c
look (i ∷ p) c = look p (part_of i c)

-- c with x at the end of the path
unfoldable pub update : List ℕ → Cell → Cell → Cell
update [] x c = x
update (i ∷ p) x c = node (set (parts c) i (update p x (part_of i c)))

-- the path stays in the tree
unfoldable pub Valid : List ℕ → Cell → Type 0
Valid [] c = Unit {0}
Valid (i ∷ p) c = (i < length (parts c)) × Valid p (part_of i c)

-- the paths part: at some step their numbers differ
unfoldable pub Parted : List ℕ → List ℕ → Type 0
Parted [] q = ⊥
Parted (i ∷ p) [] = ⊥
Parted (i ∷ p) (j ∷ q) = (i ≢ j) ⊎ ((i ≡ j) × Parted p q)

pub part-set : (i : ℕ) (c x : Cell) → i < length (parts c) → part_of i (node (set (parts c) i x)) ≡ x
part-set i c x h = rw parts-node (get_or-set_same (parts c) i x (leaf []) h)

pub look-update : (p : List ℕ) (x c : Cell) → Valid p c → look p (update p x c) ≡ x
unfolding look update Valid
look-update [] x c v = refl
look-update (i ∷ p) x c v = rw (part-set i c (update p x (part_of i c)) v.0) (look-update p x (part_of i c) v.1)

pub update-last : (p : List ℕ) (x y c : Cell) → Valid p c → update p x (update p y c) ≡ update p x c
unfolding update Valid
update-last [] x y c v = refl
update-last (i ∷ p) x y c v = rw (part-set i c (update p y (part_of i c)) v.0, parts-node, set-set, update-last p x y (part_of i c) v.1)

pub update-count : (i : ℕ) (p : List ℕ) (x c : Cell) → length (parts (update (i ∷ p) x c)) ≡ length (parts c)
unfolding update
update-count i p x c = rw (parts-node, length-set)
