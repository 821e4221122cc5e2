-- The cycle of `measuring` meets its contracts: what each call asks, and each return, is one law, in the order of the code, with the need's name
-- behind it. The measure is the depth, and in it the rank of the member; the loops' invariants are `ArrayGoing` and `FieldsGoing`. Assumes nothing.
use Prim.Native.Nat.{ℕ}
use Rattle.measuring.specs.Measure.{ChildTold}
use Rattle.measuring.proofs.Bodies.{child-short}
use Rattle.measuring.proofs.Loops.{is-fixed, is-text, is-child, leaf-came, child-came, goes-low}
use Rattle.measuring.proofs.Loops.{array-start, array-bad, array-add, array-next, array-high, array-end}
use Rattle.measuring.proofs.Loops.{fields-start, field-stands, fields-bad, fields-add, fields-next, fields-high, fields-end}
use Rattle.measuring.proofs.Chosen.{child-rank, lists-rank, child-deep, fields-fall, array-falls, child-first}
use Rattle.measuring.proofs.Chosen.{child-other, child-told, struct-can, struct-body, lists-can, keys-stand, lists-short, keys-can, list-is}
use Rattle.measuring.proofs.Chosen.{keys-bad, values-can, values-bad, map-low, map-high, map_is}
use Rattle.words.proofs.Numbers.{slice-bytes}
use Rattle.table.specs.Tables.{type_of}
use Rattle.measuring.proofs.+measures.Goals as goal
use Rattle.measuring.proofs.+measures.Goals.{measure_array-Joined-place-lt-STRING, measure_fields-Joined-place-lt-STRING}
use Rattle.measuring.proofs.+measures.Goals.{measure_array-then-place-lt-STRING, measure_array-else-place-lt-STRING+then-place-lt-LIST, measure_array-else-place-lt-STRING+else-place-lt-LIST, measure_fields-then-place-lt-STRING, measure_fields-else-place-lt-STRING+then-place-lt-LIST, measure_fields-else-place-lt-STRING+else-place-lt-LIST}

-- the branches of a turn meet: the child was a number, a text, or a container
array_told : (m : ℕ) → (c : measure_array-Joined-place-lt-STRING m)
    → let a = c.args in
    ChildTold (type_of a.t.now a.c a.depth) a.l.now c.loop.pos c.if-place-lt-STRING.r
array_told m c = elim c.if-place-lt-STRING.branch [
  | measure_array-then-place-lt-STRING w ↦ search leaf-came
  | measure_array-else-place-lt-STRING+then-place-lt-LIST w ↦ search leaf-came
  | measure_array-else-place-lt-STRING+else-place-lt-LIST w ↦ search child-came
]

fields_told : (m : ℕ) → (c : measure_fields-Joined-place-lt-STRING m)
    → let a = c.args in
    let b = c.loop in
    ChildTold (type_of a.t.now b.c a.depth) a.l.now b.pos c.if-place-lt-STRING.r
fields_told m c = elim c.if-place-lt-STRING.branch [
  | measure_fields-then-place-lt-STRING w ↦ search (leaf-came, field-stands)
  | measure_fields-else-place-lt-STRING+then-place-lt-LIST w ↦ search (leaf-came, field-stands)
  | measure_fields-else-place-lt-STRING+else-place-lt-LIST w ↦ search child-came
]

pub measure_array-loop-init : goal.measure_array-loop-init
measure_array-loop-init m c = search (array-start, slice-bytes)

pub measure_array-measure_fixed-r-requires : goal.measure_array-measure_fixed-r-requires
measure_array-measure_fixed-r-requires m c = search (is-fixed c.place.ensures)

pub measure_array-measure_text-requires : goal.measure_array-measure_text-requires
measure_array-measure_text-requires m c = search (is-text c.place.ensures)

pub measure_array-measure_child-requires : goal.measure_array-measure_child-requires
measure_array-measure_child-requires m c = search (child-rank, is-child)

pub measure_array-returns-then-r-eq0 : goal.measure_array-returns-then-r-eq0
measure_array-returns-then-r-eq0 m c = search (array-bad, array_told m (goal.at.measure_array-returns-then-r-eq0 m c).Joined-place-lt-STRING)

pub measure_array-overflow_add-sum : goal.measure_array-overflow_add-sum
measure_array-overflow_add-sum m c = search (array-add, array_told m (goal.at.measure_array-overflow_add-sum m c).Joined-place-lt-STRING)

pub measure_array-loop-preserved : goal.measure_array-loop-preserved
measure_array-loop-preserved m c = search (array-next, array_told m (goal.at.measure_array-loop-preserved m c).Joined-place-lt-STRING)

pub measure_array-pair-requires : goal.measure_array-pair-requires
measure_array-pair-requires m c = search (goes-low, array-high)

pub measure_array-returns : goal.measure_array-returns
measure_array-returns m c = search array-end

pub measure_child-returns-then-l-from-lt2 : goal.measure_child-returns-then-l-from-lt2
measure_child-returns-then-l-from-lt2 m c = search child-short

pub measure_child-returns-then-m-mark : goal.measure_child-returns-then-m-mark
measure_child-returns-then-m-mark m c = search child-other

pub measure_child-overflow_add-c : goal.measure_child-overflow_add-c
measure_child-overflow_add-c m c = search child-first

pub measure_child-overflow_sub-depth : goal.measure_child-overflow_sub-depth
measure_child-overflow_sub-depth m c = search child-deep

pub measure_child-measure_fields-requires : goal.measure_child-measure_fields-requires
measure_child-measure_fields-requires m c = search (fields-fall, struct-can)

pub measure_child-returns-then-place-eq-STRUCT : goal.measure_child-returns-then-place-eq-STRUCT
measure_child-returns-then-place-eq-STRUCT m c = search (child-told, struct-body, slice-bytes)

pub measure_child-measure_lists-requires : goal.measure_child-measure_lists-requires
measure_child-measure_lists-requires m c = search (lists-rank, lists-can)

pub measure_child-returns-else-place-eq-STRUCT : goal.measure_child-returns-else-place-eq-STRUCT
measure_child-returns-else-place-eq-STRUCT m c = search (child-told, slice-bytes)

pub measure_fields-loop-init : goal.measure_fields-loop-init
measure_fields-loop-init m c = search (fields-start, slice-bytes)

pub measure_fields-entry_at-w-requires : goal.measure_fields-entry_at-w-requires
measure_fields-entry_at-w-requires m c = search field-stands

pub measure_fields-measure_fixed-r-requires : goal.measure_fields-measure_fixed-r-requires
measure_fields-measure_fixed-r-requires m c = search is-fixed

pub measure_fields-measure_text-requires : goal.measure_fields-measure_text-requires
measure_fields-measure_text-requires m c = search (is-text c.place.ensures)

pub measure_fields-measure_child-requires : goal.measure_fields-measure_child-requires
measure_fields-measure_child-requires m c = search (child-rank, is-child, field-stands)

pub measure_fields-returns-then-r-eq0 : goal.measure_fields-returns-then-r-eq0
measure_fields-returns-then-r-eq0 m c = search (fields-bad, fields_told m (goal.at.measure_fields-returns-then-r-eq0 m c).Joined-place-lt-STRING)

pub measure_fields-overflow_add-sum : goal.measure_fields-overflow_add-sum
measure_fields-overflow_add-sum m c = search (fields-add, fields_told m (goal.at.measure_fields-overflow_add-sum m c).Joined-place-lt-STRING)

pub measure_fields-loop-preserved : goal.measure_fields-loop-preserved
measure_fields-loop-preserved m c = search (fields-next, fields_told m (goal.at.measure_fields-loop-preserved m c).Joined-place-lt-STRING)

pub measure_fields-pair-requires : goal.measure_fields-pair-requires
measure_fields-pair-requires m c = search (goes-low, fields-high)

pub measure_fields-returns : goal.measure_fields-returns
measure_fields-returns m c = search fields-end

pub measure_lists-returns-then-l-from-lt4 : goal.measure_lists-returns-then-l-from-lt4
measure_lists-returns-then-l-from-lt4 m c = search lists-short

pub measure_lists-overflow_sub-d : goal.measure_lists-overflow_sub-d
measure_lists-overflow_sub-d m c = search child-deep

pub measure_lists-overflow_add-c : goal.measure_lists-overflow_add-c
measure_lists-overflow_add-c m c = search child-first

pub measure_lists-measure_array-keys-requires : goal.measure_lists-measure_array-keys-requires
measure_lists-measure_array-keys-requires m c = search (array-falls, keys-can)

pub measure_lists-returns-then-place-eq-LIST : goal.measure_lists-returns-then-place-eq-LIST
measure_lists-returns-then-place-eq-LIST m c = search list-is

pub measure_lists-returns-then-keys-eq0 : goal.measure_lists-returns-then-keys-eq0
measure_lists-returns-then-keys-eq0 m c = search keys-bad

pub measure_lists-overflow_add-c-2 : goal.measure_lists-overflow_add-c-2
measure_lists-overflow_add-c-2 m c = search child-first

pub measure_lists-entry_at-requires : goal.measure_lists-entry_at-requires
measure_lists-entry_at-requires m c = search keys-stand

pub measure_lists-measure_array-values-requires : goal.measure_lists-measure_array-values-requires
measure_lists-measure_array-values-requires m c = search (array-falls, values-can)

pub measure_lists-returns-then-values-eq0 : goal.measure_lists-returns-then-values-eq0
measure_lists-returns-then-values-eq0 m c = search values-bad

pub measure_lists-pair-requires : goal.measure_lists-pair-requires
measure_lists-pair-requires m c = search (map-low, map-high)

pub measure_lists-returns : goal.measure_lists-returns
measure_lists-returns m c = search map_is
