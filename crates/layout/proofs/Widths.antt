-- The width of a child's slot or element, and what bytes of a type's width are a number of it. Assumes nothing.
use mathlib.Core.Path.{◌≡◌, refl, ap}
use Prim.Native.Nat.{ℕ, ◌^◌, ◌≤◌}
use native.Mathlib.Omega.{arith}
use borrow.Author.Tests.{lt-ltb, le-ltb}
use mathlib.Core.Option.{none}
use Rattle.schema.specs.Marks.{types, line, element_width}
use Rattle.schema.specs.Types.{Fixed, bo, i1, i2, i4, i8, f4, f8, Ty, fix, text, li, ma, ro, fixed_place, place, width, fixed_at}
use Rattle.schema.proofs.Table.{fixed-high, text-low, width-8, width-pos, bool_at}
use Rattle.layout.specs.Layout.{slot_of, codec, limit, number, string, array, pair, struct}

fixed-line : (f : Fixed) → (line (fixed_place f)).width ≡ width f
unfolding width
fixed-line f = refl

-- an element of a list has its type's width in the table, and a slot's where that varies
pub element-wide : (t : Ty) (k : ℕ) → k ≡ place t → element_width k ≡ slot_of (codec t).wide
unfolding element_width place slot_of codec number string array pair struct
element-wide (fix f) k e = rw (lt-ltb k 7 (omega (arith, fixed-high f)), e) (fixed-line f)
element-wide (text t) k e = rw (le-ltb k 7 (omega (arith, text-low t)))
element-wide (li t) k e = rw (le-ltb k 7 (omega arith))
element-wide (ma a b) k e = rw (le-ltb k 7 (omega arith))
element-wide (ro ts) k e = rw (le-ltb k 7 (omega arith))

pub slot_small : (t : Ty) → slot_of (codec t).wide ≤ 8
unfolding slot_of codec number string array pair struct
slot_small (fix f) = width-8 f
slot_small (text t) = omega arith
slot_small (li t) = omega arith
slot_small (ma a b) = omega arith
slot_small (ro ts) = omega arith

pub slot-some : (t : Ty) → 1 ≤ slot_of (codec t).wide
unfolding slot_of codec number string array pair struct
slot-some (fix f) = width-pos f
slot-some (text t) = omega arith
slot-some (li t) = omega arith
slot-some (ma a b) = omega arith
slot-some (ro ts) = omega arith

-- any bytes of its width are a number of the type, unless it is bool
pub limit-free : (f : Fixed) → (fixed_place f ≡ 0 → ⊥) → limit f ≡ 256 ^ width f
unfolding limit width types fixed_place
limit-free bo h = absurd (h refl)
limit-free i1 h = refl
limit-free i2 h = refl
limit-free i4 h = refl
limit-free i8 h = refl
limit-free f4 h = refl
limit-free f8 h = refl

pub bool-two : (k : ℕ) → k ≡ 0 → limit (fixed_at k) ≡ 2
unfolding limit
bool-two k e = ap limit (bool_at k e)

-- a type that varies has no width
pub wide-none : (t : Ty) → 7 ≤ place t → (codec t).wide ≡ none
unfolding place codec string array pair struct
wide-none (fix f) h = absurd (omega (arith, fixed-high f))
wide-none (text t) h = refl
wide-none (li t) h = refl
wide-none (ma k v) h = refl
wide-none (ro ts) h = refl
