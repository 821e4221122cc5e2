-- `checking::is_plain` meets its contract: its loop is that of check_fields as long as nothing is out of order. Assumes nothing.
use mathlib.Core.Path.{refl}
use borrow.Author.Rules.{rules}
use borrow.Author.Tests.{not-false}
use Rattle.words.proofs.Numbers.{slice-bytes}
use Rattle.checking.proofs.Tests.{clash}
use Rattle.checking.proofs.Loops.{loop-slot}
use Rattle.checking.proofs.Cursor.{stop-fits, stop-small}
use Rattle.checking.proofs.StructLoops.{struct-mul, field-stands, fixed-leaf}
use Rattle.checking.proofs.Plain.{plain-add, plain_word, plain-start, plain-whole, plain-place, plain-shift}
use Rattle.checking.proofs.Plain.{plain-slot-mul, plain-slot, plain-null, plain-above, plain-fixed, plain-behind, plain-within}
use Rattle.checking.proofs.Plain.{plain-padded, plain-text}
use Rattle.checking.proofs.is_plain.Goals as goal
use Rattle.checking.proofs.is_plain.Goals.{else-nulls-i-eq0-via-then-nulls-i-eq0+else-get-top-ne0, else-nulls-i-eq0-via-else-nulls-i-eq0}

pub returns-then-b-ne0 : goal.returns-then-b-ne0
returns-then-b-ne0 c e = absurd (clash e refl)

pub overflow_mul-n : goal.overflow_mul-n
overflow_mul-n c = search struct-mul

pub overflow_add-n : goal.overflow_add-n
overflow_add-n c = search plain-add

pub returns-then-b-n : goal.returns-then-b-n
returns-then-b-n c e = absurd (clash e refl)

pub get-nulls-requires-clause-room : goal.get-nulls-requires-clause-room
get-nulls-requires-clause-room c = search plain_word

pub returns-then-nulls-n-ne0 : goal.returns-then-nulls-n-ne0
returns-then-nulls-n-ne0 c e = absurd (clash e refl)

pub overflow_mul-cur : goal.overflow_mul-cur
overflow_mul-cur c = search struct-mul

pub overflow_add-cur : goal.overflow_add-cur
overflow_add-cur c = search plain-add

pub loop-i-init : goal.loop-i-init
loop-i-init c = search (plain-start, slice-bytes)

pub overflow_add-first : goal.overflow_add-first
overflow_add-first c = search plain-place

pub entry_at-w-requires : goal.entry_at-w-requires
entry_at-w-requires c = search field-stands

pub overflow_mul-slot : goal.overflow_mul-slot
overflow_mul-slot c = search plain-slot-mul

pub overflow_add-slot : goal.overflow_add-slot
overflow_add-slot c = search plain-slot

pub overflow_shr-nulls-then-k-lt-STRING : goal.overflow_shr-nulls-then-k-lt-STRING
overflow_shr-nulls-then-k-lt-STRING c = search plain-shift

pub get-requires-clause-room : goal.get-requires-clause-room
get-requires-clause-room c = search loop-slot

pub overflow_shr-get-then-nulls-i-eq0 : goal.overflow_shr-get-then-nulls-i-eq0
overflow_shr-get-then-nulls-i-eq0 c = search plain-above

pub returns-then-get-top-ne0 : goal.returns-then-get-top-ne0
returns-then-get-top-ne0 c e = absurd (clash e refl)

pub loop-i-preserved-then-k-lt-STRING : goal.loop-i-preserved-then-k-lt-STRING
loop-i-preserved-then-k-lt-STRING c = elim c.else-nulls-i-eq0.branch [
  | else-nulls-i-eq0-via-then-nulls-i-eq0+else-get-top-ne0 w ↦ search plain-fixed
  | else-nulls-i-eq0-via-else-nulls-i-eq0 w ↦ search (plain-null, fixed-leaf)
]

pub returns-then-k-ge-LIST : goal.returns-then-k-ge-LIST
returns-then-k-ge-LIST c e = absurd (clash e refl)

pub overflow_shr-nulls-in-loop-i : goal.overflow_shr-nulls-in-loop-i
overflow_shr-nulls-in-loop-i c = search plain-shift

pub loop-i-preserved-then-nulls-i-ne0 : goal.loop-i-preserved-then-nulls-i-ne0
loop-i-preserved-then-nulls-i-ne0 c = search plain-null

pub offset_at-requires : goal.offset_at-requires
offset_at-requires c = search loop-slot

pub returns-then-offset_at-cur : goal.returns-then-offset_at-cur
returns-then-offset_at-cur c e = absurd (clash e refl)

pub size_at-requires : goal.size_at-requires
size_at-requires c = search loop-slot

pub overflow_add-end : goal.overflow_add-end
overflow_add-end c = search stop-fits

pub returns-then-b-end : goal.returns-then-b-end
returns-then-b-end c e = absurd (clash e refl)

pub pad_size-next-requires : goal.pad_size-next-requires
pad_size-next-requires c = search stop-small

pub looks_spelled-requires : goal.looks_spelled-requires
looks_spelled-requires c = let a = c.loop-i.invariant in
    (search rules, search (plain-padded a))

pub returns-then-not-looks_spelled : goal.returns-then-not-looks_spelled
returns-then-not-looks_spelled c e = absurd (clash e refl)

pub pad_clear-requires : goal.pad_clear-requires
pad_clear-requires c = let a = c.loop-i.invariant in
    (search (plain-behind a), search (plain-within a), search stop-small, search)

pub returns-then-not-pad_clear : goal.returns-then-not-pad_clear
returns-then-not-pad_clear c e = absurd (clash e refl)

pub loop-i-preserved : goal.loop-i-preserved
loop-i-preserved c =
    plain-text c.loop-i.invariant c.loop-i-test.true c.entry_at-w.ensures c.place-k.ensures c.if-k-lt-STRING.false c.if-k-ge-LIST.false
    c.if-nulls-i-ne0.false c.offset_at.ensures c.if-offset_at-cur.false c.size_at.ensures c.if-b-end.false c.pad_size-next.ensures
    (c.looks_spelled.ensures (not-false _ c.if-not-looks_spelled.false-raw)) c.pad_clear.ensures c.if-not-pad_clear.false-raw

pub returns : goal.returns
returns c = search plain-whole
