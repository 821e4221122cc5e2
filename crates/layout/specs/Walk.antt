-- The walk of a path over the bytes of any row, accepted or not. Assumes nothing: these are definitions.
use Rattle.std.proofs.Math.Option.{Option, none, some}
use Rattle.std.specs.Prelude.{List, [], ◌∷◌, ℕ, zero, suc, ◌+◌, ◌*◌, ◌/◌, ◌%◌, ◌^◌, length, take, drop}
use Rattle.std.proofs.Math.Decide.{dec_le, dec_lt, ℕ_discrete}
use Rattle.words.specs.Bytes.{num, part, bitmap}
use Rattle.schema.specs.Types.{Ty, fix, text, li, ma, ro, count, field}
use Rattle.layout.specs.Refusals.{Refusal, numbered, broken_at}
use Rattle.layout.specs.Layout.{spells?, slot_of, front, limit, codec}

-- Where a child stands in its container: its container's bitmap starts at the row's byte numbered bits, and it is child number of
-- it; its slot or element starts at the row's byte numbered slot, and has wide bytes.
pub record Seat : Type 0 where
  pub bits : ℕ
  pub number : ℕ
  pub slot : ℕ
  pub wide : ℕ

-- the root and the two arrays of a map have no slot: their first byte stands for it
abbrev pub seat_at : ℕ → Seat
seat_at o = record { bits = 0; number = 0; slot = o; wide = 0 }

abbrev pub root_seat : Seat
root_seat = seat_at 0

-- What a walk finds: a refusal; a null in its seat; or a place's seat, where its bytes start in the row, and the bytes.
pub data Seen : Type 0 where
  bad : Refusal → Seen
  null_at : Seat → Seen
  seen : Seat → ℕ → List ℕ → Seen

-- What a step comes to: a refusal; a null child; or a place of a type.
pub data Step : Type 0 where
  stop : Refusal → Step
  to_null : Seat → Step
  into : Ty → Seat → ℕ → List ℕ → Step

-- goes on where P holds, and is else refused with r
unfoldable pub must : {P : Type 0} → Dec P → Refusal → Seen → Seen
must (yes _) r x = x
must (no _) r x = bad r

unfoldable pub must_step : {P : Type 0} → Dec P → Refusal → Step → Step
must_step (yes _) r x = x
must_step (no _) r x = stop r

-- A type's own rules on its bytes b, which start at the row's byte o, in the seat s: a bool is 0 or 1, else it is broken there; a string is
-- text, else it is broken at its slot; a list has 8 bytes, else it is broken at its slot, and its header and padded elements fit, else at its
-- header; a map has 8 bytes, else at its slot, K is a multiple of 8, and 8+K is at most its size, else at its header; a struct holds its
-- fixed part, else at its slot.
unfoldable pub own : Ty → Seat → ℕ → List ℕ → Seen → Seen
own (fix f) s o b x = must (dec_lt (num b) (limit f)) (broken_at o) x
own (text t) s o b x = must (spells? t b) (broken_at s.slot) x
own (li t) s o b x =
    must (dec_le 8 (length b)) (broken_at s.slot)
    (must (dec_le (front 8 (slot_of (codec t).wide) (num (take 8 b))) (length b)) (broken_at o) x)
own (ma k v) s o b x =
    must (dec_le 8 (length b)) (broken_at s.slot)
    (must (ℕ_discrete (num (take 8 b) % 8) 0) (broken_at o)
    (must (dec_le (8 + num (take 8 b)) (length b)) (broken_at o) x))
own (ro ts) s o b x = must (dec_le (front 0 8 (count ts)) (length b)) (broken_at s.slot) x

-- The child of type t in the seat s of the container b, which starts at the row's byte o and has the fixed part f; its slot starts at
-- the container's byte j. A fixed width stands in the slot. Of any other the offset is at least the container's fixed part and a
-- multiple of 8, and offset + size is at most the container's size; else it is broken at its slot.
unfoldable pub by_slot : Option ℕ → Ty → Seat → ℕ → ℕ → ℕ → List ℕ → Step
by_slot (some v) t s f o j b = into t s (o + j) (part b j v)
by_slot none t s f o j b =
    must_step (dec_le f (num (part b j 8) / 2 ^ 32)) (broken_at s.slot)
    (must_step (ℕ_discrete (num (part b j 8) / 2 ^ 32 % 8) 0) (broken_at s.slot)
    (must_step (dec_le (num (part b j 8) / 2 ^ 32 + num (part b j 8) % 2 ^ 32) (length b)) (broken_at s.slot)
    (into t s (o + num (part b j 8) / 2 ^ 32) (part b (num (part b j 8) / 2 ^ 32) (num (part b j 8) % 2 ^ 32)))))

-- by its bit, a null child or another
unfoldable pub by_flag : ℕ → Seat → Step → Step
by_flag zero s r = r
by_flag (suc _) s r = to_null s

-- where child i of n in slots of w bytes stands in a container that starts at o and has a header of h bytes
abbrev pub seat_of : ℕ → ℕ → ℕ → ℕ → ℕ → Seat
seat_of h w n i o = record { bits = o + h; number = i; slot = o + (h + (bitmap n + i * w)); wide = w }

-- Child i, of type t, of the n children of b: its number is in range (5); a null is told; then its slot.
unfoldable pub child : ℕ → ℕ → ℕ → Ty → ℕ → ℕ → List ℕ → Step
child h w n t i o b =
    must_step (dec_lt i n) (numbered 5)
    (by_flag (num (part b h (bitmap n)) / 2 ^ i % 2) (seat_of h w n i o)
    (by_slot (codec t).wide t (seat_of h w n i o) (front h w n) o (h + (bitmap n + i * w)) b))

-- One step into a place, whose own rules hold: a field, an element, and for a map 0 (keys) or 1 (values), read as lists.
unfoldable pub step_in : Ty → ℕ → Seat → ℕ → List ℕ → Step
step_in (fix f) i s o b = stop (numbered 5)
step_in (text t) i s o b = stop (numbered 5)
step_in (li t) i s o b = child 8 (slot_of (codec t).wide) (num (take 8 b)) t i o b
step_in (ma k v) zero s o b = into (li k) (seat_at (o + 8)) (o + 8) (part b 8 (num (take 8 b)))
step_in (ma k v) (suc zero) s o b = into (li v) (seat_at (o + (8 + num (take 8 b)))) (o + (8 + num (take 8 b))) (drop (8 + num (take 8 b)) b)
step_in (ma k v) (suc (suc i)) s o b = stop (numbered 5)
step_in (ro ts) i s o b = child 0 8 (count ts) (field ts i) i o b

-- the type of child i of a container; of a map 0 is the keys, the others the values
unfoldable pub child_ty : Ty → ℕ → Ty
child_ty (fix f) i = fix f
child_ty (text t) i = text t
child_ty (li t) i = t
child_ty (ma k v) zero = li k
child_ty (ma k v) (suc i) = li v
child_ty (ro ts) i = field ts i

-- A null child is the answer at the path's end, and refused with 6 before it.
unfoldable pub go_on : List ℕ → (Ty → Seat → ℕ → List ℕ → Seen) → Step → Seen
go_on p next (stop r) = bad r
go_on [] next (to_null s) = null_at s
go_on (i ∷ p) next (to_null s) = bad (numbered 6)
go_on p next (into t s o b) = next t s o b

-- The path p from a place of type t in the seat s, whose bytes b start at the row's byte o: its own rules, then the step, and on.
unfoldable pub walk : List ℕ → Ty → Seat → ℕ → List ℕ → Seen
walk [] t s o b = own t s o b (seen s o b)
walk (i ∷ p) t s o b = own t s o b (go_on p (λ t s o b. walk p t s o b) (step_in t i s o b))
