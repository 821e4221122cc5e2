-- The cycle of `putting` meets its contracts: what each call asks, and each return, is one law, in the order of the code, with the need's name
-- behind it. The measure is the depth, and in it the rank of the member; the loops' invariants are `ArrayPaints` and `FieldsPaints`. Assumes nothing.
use mathlib.Core.Path.{◌∙◌}
use Prim.Native.Nat.{ℕ}
use native.Mathlib.Omega.{arith}
use Rattle.putting.proofs.Placed.{KeptHere, SeenHere, child-stands, child-two, slot-in}
use Rattle.putting.proofs.Placed.{bit_in, seen-null, number_in, number_small, number_fits, seen-number, text-can, text-kept, value-can}
use Rattle.putting.proofs.Placed.{value-kept, seat-end, seen-kept}
use Rattle.putting.proofs.Arrays.{array-front, array-cells, array-size-fits, array-start, array-begins}
use Rattle.putting.proofs.Arrays.{array-width, array-goes, array-done}
use Rattle.putting.proofs.Fields.{fields-many, fields-cells, fields-clear, fields-start, fields-begin, field-falls}
use Rattle.putting.proofs.Fields.{field-goes, fields-done}
use Rattle.putting.proofs.Valued.{element-rank, value-deep, value-falls, value-child, value-four, value_after}
use Rattle.putting.proofs.Valued.{list-can, list_held, keys-stand, keys-can, head_in, values-can, map-held}
use Rattle.putting.proofs.+puts.Goals as goal
use Rattle.putting.proofs.+puts.Goals.{put_array-Joined-kind-lt-LIST, put_array-Joined-get-eq-NULL, put_fields-Joined-kind-lt-LIST, put_fields-Joined-get-eq-NULL}
use Rattle.putting.proofs.+puts.Goals.{put_array-then-get-eq-NULL, put_array-else-get-eq-NULL+then-kind-lt-STRING, put_array-else-get-eq-NULL+else-kind-lt-STRING, put_array-then-kind-lt-LIST, put_array-else-kind-lt-LIST, put_fields-then-get-eq-NULL, put_fields-else-get-eq-NULL+then-kind-lt-STRING, put_fields-else-get-eq-NULL+else-kind-lt-STRING, put_fields-then-kind-lt-LIST, put_fields-else-kind-lt-LIST}

-- the branches of an element that is held elsewhere meet: its contents stand, be it a text or a container
array-kept : (m : ℕ) → (c : put_array-Joined-kind-lt-LIST m)
    → KeptHere c.loop-i.invariant.next c.if-kind-lt-LIST.out c.if-kind-lt-LIST.p
array-kept m c = elim c.if-kind-lt-LIST.branch [
  | put_array-then-kind-lt-LIST w ↦ search text-kept
  | put_array-else-kind-lt-LIST w ↦ search value-kept
]

-- the branches of a turn meet: all of the element but its slot stands, be it null, a number or held elsewhere
array_seen : (m : ℕ) → (c : put_array-Joined-get-eq-NULL m)
    → SeenHere c.loop-i.invariant.next c.if-get-eq-NULL.out c.if-get-eq-NULL.x c.if-get-eq-NULL.at c.if-get-eq-NULL.cur
array_seen m c = let a = c.loop-i.invariant in
    elim c.if-get-eq-NULL.branch [
      | put_array-then-get-eq-NULL w ↦ search seen-null
      | put_array-else-get-eq-NULL+then-kind-lt-STRING w ↦ search (seen-number a.next, array-width a w.if-kind-lt-STRING.true)
      | put_array-else-get-eq-NULL+else-kind-lt-STRING w ↦
          let k : KeptHere a.next w.if-kind-lt-LIST.out w.if-kind-lt-LIST.p =
          elim w.if-kind-lt-LIST.branch [
            | put_array-then-kind-lt-LIST v ↦ search text-kept
            | put_array-else-kind-lt-LIST v ↦ search value-kept
          ] in
          search (seen-kept a.next, k)
    ]

-- and so it is with a field
fields-kept : (m : ℕ) → (c : put_fields-Joined-kind-lt-LIST m)
    → KeptHere c.loop-i.invariant.next c.if-kind-lt-LIST.out c.if-kind-lt-LIST.p
fields-kept m c = elim c.if-kind-lt-LIST.branch [
  | put_fields-then-kind-lt-LIST w ↦ search text-kept
  | put_fields-else-kind-lt-LIST w ↦ search value-kept
]

fields-seen : (m : ℕ) → (c : put_fields-Joined-get-eq-NULL m)
    → SeenHere c.loop-i.invariant.next c.if-get-eq-NULL.out c.if-get-eq-NULL.x c.if-get-eq-NULL.at c.if-get-eq-NULL.cur
fields-seen m c = let a = c.loop-i.invariant in
    elim c.if-get-eq-NULL.branch [
      | put_fields-then-get-eq-NULL w ↦ search seen-null
      | put_fields-else-get-eq-NULL+then-kind-lt-STRING w ↦ search (seen-number a.next)
      | put_fields-else-get-eq-NULL+else-kind-lt-STRING w ↦
          let k : KeptHere a.next w.if-kind-lt-LIST.out w.if-kind-lt-LIST.p =
          elim w.if-kind-lt-LIST.branch [
            | put_fields-then-kind-lt-LIST v ↦ search text-kept
            | put_fields-else-kind-lt-LIST v ↦ search value-kept
          ] in
          search (seen-kept a.next, k)
    ]

pub put_array-put_front-requires : goal.put_array-put_front-requires
put_array-put_front-requires m c = search array-front

pub put_array-overflow_mul-n : goal.put_array-overflow_mul-n
put_array-overflow_mul-n m c = search array-size-fits

pub put_array-pad_size-requires : goal.put_array-pad_size-requires
put_array-pad_size-requires m c = search array-cells

pub put_array-overflow_add-cur : goal.put_array-overflow_add-cur
put_array-overflow_add-cur m c = search array-start

pub put_array-loop-i-init : goal.put_array-loop-i-init
put_array-loop-i-init m c = search array-begins

pub put_array-get-requires-clause-room : goal.put_array-get-requires-clause-room
put_array-get-requires-clause-room m c = search (child-two c.loop-i.invariant.next)

pub put_array-set_null-requires : goal.put_array-set_null-requires
put_array-set_null-requires m c = search bit_in

pub put_array-number-x-requires : goal.put_array-number-x-requires
put_array-number-x-requires m c =
    let a = c.loop-i.invariant in
    search (number_in a.next, number_small a.next, array-width a c.if-kind-lt-STRING.true)

pub put_array-put_text-p-requires : goal.put_array-put_text-p-requires
put_array-put_text-p-requires m c = search (text-can c.loop-i.invariant.next)

pub put_array-put_value-p-requires : goal.put_array-put_value-p-requires
put_array-put_value-p-requires m c = search (element-rank, value-can c.loop-i.invariant.next)

pub put_array-held_slot-x-requires : goal.put_array-held_slot-x-requires
put_array-held_slot-x-requires m c = (array-kept m (goal.at.put_array-held_slot-x-requires m c).Joined-kind-lt-LIST).seat

pub put_array-held_end-cur-requires : goal.put_array-held_end-cur-requires
put_array-held_end-cur-requires m c = seat-end (array-kept m (goal.at.put_array-held_end-cur-requires m c).Joined-kind-lt-LIST).seat

pub put_array-put_slot-requires : goal.put_array-put_slot-requires
put_array-put_slot-requires m c = search (slot-in c.loop-i.invariant.next, (array_seen m (goal.at.put_array-put_slot-requires m c).Joined-get-eq-NULL).long)

pub put_array-loop-i-preserved : goal.put_array-loop-i-preserved
put_array-loop-i-preserved m c = search (array-goes, array_seen m (goal.at.put_array-loop-i-preserved m c).Joined-get-eq-NULL)

pub put_array-returns : goal.put_array-returns
put_array-returns m c = search array-done

pub put_fields-overflow_sub-d : goal.put_fields-overflow_sub-d
put_fields-overflow_sub-d m c = search value-deep

pub put_fields-clear_bits-requires : goal.put_fields-clear_bits-requires
put_fields-clear_bits-requires m c = search fields-clear

pub put_fields-bitmap_size-requires : goal.put_fields-bitmap_size-requires
put_fields-bitmap_size-requires m c = search fields-many

pub put_fields-overflow_mul-cur : goal.put_fields-overflow_mul-cur
put_fields-overflow_mul-cur m c = search fields-cells

pub put_fields-overflow_add-cur : goal.put_fields-overflow_add-cur
put_fields-overflow_add-cur m c = search fields-start

pub put_fields-overflow_add-field : goal.put_fields-overflow_add-field
put_fields-overflow_add-field m c = search value-child

pub put_fields-loop-i-init : goal.put_fields-loop-i-init
put_fields-loop-i-init m c = search fields-begin

pub put_fields-entry_at-e-requires : goal.put_fields-entry_at-e-requires
put_fields-entry_at-e-requires m c = child-stands c.loop-i.invariant.next c.loop-i-test.true

pub put_fields-get-requires-clause-room : goal.put_fields-get-requires-clause-room
put_fields-get-requires-clause-room m c = search (child-two c.loop-i.invariant.next)

pub put_fields-set_null-requires : goal.put_fields-set_null-requires
put_fields-set_null-requires m c = search (bit_in c.loop-i.invariant.next)

pub put_fields-number-x-requires : goal.put_fields-number-x-requires
put_fields-number-x-requires m c = let a = c.loop-i.invariant.next in search (number_in a, number_small a)

pub put_fields-overflow_add-at : goal.put_fields-overflow_add-at
put_fields-overflow_add-at m c = search (number_fits c.loop-i.invariant.next)

pub put_fields-put_text-p-requires : goal.put_fields-put_text-p-requires
put_fields-put_text-p-requires m c = search (text-can c.loop-i.invariant.next)

pub put_fields-put_value-p-requires : goal.put_fields-put_value-p-requires
put_fields-put_value-p-requires m c = search (field-falls, value-can c.loop-i.invariant.next)

pub put_fields-held_slot-x-requires : goal.put_fields-held_slot-x-requires
put_fields-held_slot-x-requires m c = (fields-kept m (goal.at.put_fields-held_slot-x-requires m c).Joined-kind-lt-LIST).seat

pub put_fields-held_end-cur-requires : goal.put_fields-held_end-cur-requires
put_fields-held_end-cur-requires m c = seat-end (fields-kept m (goal.at.put_fields-held_end-cur-requires m c).Joined-kind-lt-LIST).seat

pub put_fields-put-requires : goal.put_fields-put-requires
put_fields-put-requires m c = search (slot-in, (fields-seen m (goal.at.put_fields-put-requires m c).Joined-get-eq-NULL).long)

pub put_fields-loop-i-preserved : goal.put_fields-loop-i-preserved
put_fields-loop-i-preserved m c = search (field-goes, fields-seen m (goal.at.put_fields-loop-i-preserved m c).Joined-get-eq-NULL)

pub put_fields-returns : goal.put_fields-returns
put_fields-returns m c = search fields-done

pub put_value-overflow_sub-d : goal.put_value-overflow_sub-d
put_value-overflow_sub-d m c = search value-deep

pub put_value-overflow_add-held : goal.put_value-overflow_add-held
put_value-overflow_add-held m c = search value-child

pub put_value-get-n-requires-clause-room : goal.put_value-get-n-requires-clause-room
put_value-get-n-requires-clause-room m c = value-four c.requires c.entry_at.ensures c.place.ensures (λ e. omega arith)

pub put_value-overflow_add-from : goal.put_value-overflow_add-from
put_value-overflow_add-from m c = value_after c.requires c.entry_at.ensures c.place.ensures (λ e. omega arith)

pub put_value-put_array-requires : goal.put_value-put_array-requires
put_value-put_array-requires m c = search (value-falls, list-can)

pub put_value-returns-in-9 : goal.put_value-returns-in-9
put_value-returns-in-9 m c = search list_held

pub put_value-get-n-requires-in_default-clause-room : goal.put_value-get-n-requires-in_default-clause-room
put_value-get-n-requires-in_default-clause-room m c = value-four c.requires c.entry_at.ensures c.place.ensures (λ e. omega arith)

pub put_value-overflow_add-from-in_default : goal.put_value-overflow_add-from-in_default
put_value-overflow_add-from-in_default m c = value_after c.requires c.entry_at.ensures c.place.ensures (λ e. omega arith)

pub put_value-put_array-keys-requires : goal.put_value-put_array-keys-requires
put_value-put_array-keys-requires m c = (
  value-falls c.requires c.decreases,
  keys-can c.requires c.entry_at.ensures c.place.ensures (λ e. omega arith) (λ e. omega arith) c.get-n-in_default.ensures,
)

pub put_value-put-requires : goal.put_value-put-requires
put_value-put-requires m c =
    head_in c.requires c.entry_at.ensures c.place.ensures (λ e. omega arith) (λ e. omega arith) c.get-n-in_default.ensures c.put_array-keys.auto.out

pub put_value-entry_at-requires-in_default : goal.put_value-entry_at-requires-in_default
put_value-entry_at-requires-in_default m c = keys-stand c.requires c.entry_at.ensures c.place.ensures (λ e. omega arith) (λ e. omega arith)

-- a map's values: its keys were written, and their size
pub put_value-put_array-requires-in_default : goal.put_value-put_array-requires-in_default
put_value-put_array-requires-in_default m c = (
  value-falls c.requires c.decreases,
  values-can c.requires c.entry_at.ensures c.place.ensures (λ e. omega arith) (λ e. omega arith) c.get-n-in_default.ensures
      c.put_array-keys.ensures c.entry_at-in_default.ensures c.after-values.ensures c.low.ensures c.high-end.ensures
      (c.put.auto.b ∙ c.put_array-keys.auto.out),
)

-- and they stand behind them
pub put_value-returns-in_default : goal.put_value-returns-in_default
put_value-returns-in_default m c =
    map-held c.requires c.entry_at.ensures c.place.ensures (λ e. omega arith) (λ e. omega arith) c.get-n-in_default.ensures
    c.put_array-keys.ensures c.entry_at-in_default.ensures c.after-values.ensures c.low.ensures c.high-end.ensures
    c.type_inv.l c.put.ensures c.put_array-in_default.ensures
