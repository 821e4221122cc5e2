-- Contents as trees: a node's parts, nulls, and contents made clean. Assumes nothing.
use mathlib.Core.Path.{◌≡◌, refl, sym, ap, ◌∙◌}
use mathlib.Core.List.{List, [], ◌∷◌, map}
use Prim.Native.Nat.{ℕ, ◌<◌}
use native.Mathlib.Omega.{arith}
use lib.ListN.{length, length-map, length-replicate, get_or-map}
use Rattle.words.specs.Bytes.{zeros}
use Rattle.layout.specs.Cells.{Cell, null, leaf, nodes, Cells, nil, cons, from_cells, to_cells, node, on_null, flag, bytes, parts, part_of, clean, cleans}

from-to : (cs : List Cell) → from_cells (to_cells cs) ≡ cs
unfolding from_cells to_cells
from-to [] = refl
from-to (c ∷ cs) = ap (λ (t : List Cell). c ∷ t) (from-to cs)

pub parts-node : (cs : List Cell) → parts (node cs) ≡ cs
unfolding parts
parts-node cs = from-to cs

pub leaf-parts : (c : Cell) (u : List ℕ) → c ≡ leaf u → length (parts c) ≡ 0
unfolding parts
leaf-parts c u e = rw e

-- ---- nulls

pub present {ℓ} : {A : Type ℓ} (f : List ℕ → A) (a : A) (c : Cell) → flag c ≡ 0 → on_null f a c ≡ a
unfolding on_null
present f a (null u) h = absurd (omega arith)
present f a (leaf u) h = refl
present f a (nodes cs) h = refl

pub flag-bit : (c : Cell) → flag c < 2
unfolding on_null
flag-bit (null u) = omega arith
flag-bit (leaf u) = omega arith
flag-bit (nodes u) = omega arith

pub leaf-here : (x : Cell) → x ≡ leaf (bytes x) → flag x ≡ 0
unfolding on_null
leaf-here x e = rw e

pub node-here : (x : Cell) (cs : List Cell) → x ≡ node cs → flag x ≡ 0
unfolding on_null
node-here x cs e = rw e

pub leaf-bytes : (u : List ℕ) → bytes (leaf u) ≡ u
unfolding bytes
leaf-bytes u = refl

-- ---- clean contents

pub clean-leaf : (u : List ℕ) → clean (leaf u) ≡ leaf u
unfolding clean
clean-leaf u = refl

pub clean-null : (w : ℕ) → clean (null (zeros w)) ≡ null (zeros w)
unfolding clean
clean-null w = rw length-replicate

pub bytes-clean : (x : Cell) → bytes (clean x) ≡ bytes x
unfolding clean bytes
bytes-clean (null u) = refl
bytes-clean (leaf u) = refl
bytes-clean (nodes u) = refl

clean-from : (cs : Cells) → from_cells (cleans cs) ≡ map clean (from_cells cs)
unfolding clean from_cells
clean-from nil = refl
clean-from (cons c cs) = ap (λ (t : List Cell). clean c ∷ t) (clean-from cs)

pub parts-clean : (x : Cell) → parts (clean x) ≡ map clean (parts x)
unfolding clean parts
parts-clean (null u) = refl
parts-clean (leaf u) = refl
parts-clean (nodes cs) = clean-from cs

clean-to : (cs : List Cell) → cleans (to_cells cs) ≡ to_cells (map clean cs)
unfolding clean to_cells
clean-to [] = refl
clean-to (c ∷ cs) = ap (cons (clean c)) (clean-to cs)

pub clean-node : (cs : List Cell) → clean (node cs) ≡ node (map clean cs)
unfolding clean
clean-node cs = ap nodes (clean-to cs)

-- a node stays one
pub node-clean : (x : Cell) → x ≡ node (parts x) → clean x ≡ node (parts (clean x))
node-clean x e = ap clean e ∙ clean-node (parts x) ∙ ap node (sym (parts-clean x))

pub part-clean : (i : ℕ) (x : Cell) → part_of i (clean x) ≡ clean (part_of i x)
unfolding clean
part-clean i x = rw parts-clean (get_or-map clean (parts x) i (leaf []))

pub count-clean : (x : Cell) → length (parts (clean x)) ≡ length (parts x)
count-clean x = rw (parts-clean, length-map)
