-- `checking::lists::check_texts` meets its contract: before element i, what is left leads to the same end. What each place of the code asks
-- is one law, in the order of the code, with the need's name behind it. Assumes nothing.
use mathlib.Core.Path.{◌≡◌}
use mathlib.Core.Bool.{not}
use lib.Dec.{eqb}
use Prim.Native.Nat.{◌+◌, ◌-◌}
use Rattle.words.specs.Bytes.{part}
use Rattle.schema.specs.Types.{text}
use Rattle.checking.specs.Sound.{fault_of}
use Rattle.checking.specs.Room.{text_if}
use Rattle.words.proofs.Numbers.{slice-bytes}
use Rattle.checking.proofs.Tests.{seen}
use Rattle.checking.proofs.Leaves.{string-sound, string-fault, binary-sound, texts-slots, null-ask, nulls-room}
use Rattle.checking.proofs.Loops.{slots-in, loop-start, loop-since, loop-sum, loop-told, loop-unfit, loop-done}
use Rattle.checking.proofs.Loops.{loop-over, loop-less, loop-bit, loop-fault, loop-slot, loop-slot-on, loop-on, loop-falls, loop-null}
use Rattle.checking.proofs.Cursor.{Told, Here, told-moves, told-less, stop-fits, stop-small, past_end, here-pad, here-unpadded, here-next}
use Rattle.checking.proofs.Cursor.{here-padded, here-misspelled, here-search, here_found}
use Rattle.checking.proofs.lists.check_texts.Given.{Over}
use Rattle.checking.proofs.lists.check_texts.Goals as goal
use Rattle.checking.proofs.lists.check_texts.Goals.{After-offset_at-from, After-pad_size-next, Joined-else-this-ne0}
use Rattle.checking.proofs.lists.check_texts.Goals.{else-this-ne0-via-then-this-ne0+else-not-is_text_in, else-this-ne0-via-else-this-ne0}

-- what the slot says
told : (g : Over) → (c : After-offset_at-from g) → Told c.loop-i.invariant c.offset_at-from.result
told g c = search seen

-- and that the cursor is there, with the value in the list
here : (g : Over) → (c : After-pad_size-next g)
    → Here c.loop-i.invariant c.offset_at-from.result
    c.size_at.result c.pad_size-next.result
here g c = search seen

-- and its bytes are what they should be
sound : (g : Over) → (c : Joined-else-this-ne0 g)
    → fault_of (text (text_if (not (eqb g.row.TEXT 0)))) (part c.args.b.now c.loop-i.cur (c.loop-i.cur + c.size_at.result - c.loop-i.cur)) ≡ 0
sound g c = elim c.else-this-ne0.branch [
  | else-this-ne0-via-then-this-ne0+else-not-is_text_in w ↦ search string-sound
  | else-this-ne0-via-else-this-ne0 w ↦ search binary-sound
]

pub no_nulls-full-requires : goal.no_nulls-full-requires
no_nulls-full-requires g c = search nulls-room

pub loop-i-init : goal.loop-i-init
loop-i-init g c = search (loop-start, texts-slots, slice-bytes)

pub null_at-requires : goal.null_at-requires
null_at-requires g c = null-ask _ c.no_nulls-full.ensures (search loop-less) (search (loop-bit c.loop-i.invariant))

pub overflow_add-slot : goal.overflow_add-slot
overflow_add-slot g c = search loop-slot-on

pub overflow_add-i : goal.overflow_add-i
overflow_add-i g c = search loop-on

pub loop-i-smaller-then-null_at : goal.loop-i-smaller-then-null_at
loop-i-smaller-then-null_at g c = search loop-falls

pub loop-i-preserved-then-null_at : goal.loop-i-preserved-then-null_at
loop-i-preserved-then-null_at g c = search (loop-null c.loop-i.invariant)

pub offset_at-from-requires : goal.offset_at-from-requires
offset_at-from-requires g c = search (loop-slot c.loop-i.invariant)

pub items_stand-stop-requires : goal.items_stand-stop-requires
items_stand-stop-requires g c = search (slots-in c.loop-i.invariant.fixed)

pub overflow_sub-done : goal.overflow_sub-done
overflow_sub-done g c = search loop-since

pub overflow_add-done : goal.overflow_add-done
overflow_add-done g c = search loop-sum

pub loop-i-smaller-then-from-cur : goal.loop-i-smaller-then-from-cur
loop-i-smaller-then-from-cur g c = search (told-less (told g (goal.at.loop-i-smaller-then-from-cur g c).After-offset_at-from))

pub loop-i-preserved-then-from-cur : goal.loop-i-preserved-then-from-cur
loop-i-preserved-then-from-cur g c = search (told-moves (told g (goal.at.loop-i-preserved-then-from-cur g c).After-offset_at-from))

pub size_at-requires : goal.size_at-requires
size_at-requires g c = search (loop-slot c.loop-i.invariant)

pub overflow_add-end : goal.overflow_add-end
overflow_add-end g c = search stop-fits

pub overflow_add-result : goal.overflow_add-result
overflow_add-result g c = search loop-fault

pub returns-then-b-end : goal.returns-then-b-end
returns-then-b-end g c = search (past_end (told g (goal.at.returns-then-b-end g c).After-offset_at-from))

pub pad_size-next-requires : goal.pad_size-next-requires
pad_size-next-requires g c = search stop-small

pub is_text_in-requires : goal.is_text_in-requires
is_text_in-requires g c = here-padded (here g (goal.at.is_text_in-requires g c).After-pad_size-next)

pub overflow_add-result-then-not-is_text_in : goal.overflow_add-result-then-not-is_text_in
overflow_add-result-then-not-is_text_in g c = search loop-fault

pub returns-then-not-is_text_in : goal.returns-then-not-is_text_in
returns-then-not-is_text_in g c = search (here-misspelled (here g (goal.at.returns-then-not-is_text_in g c).After-pad_size-next), string-fault)

pub pad_clear-requires : goal.pad_clear-requires
pad_clear-requires g c = here-pad (here g (goal.at.pad_clear-requires g c).After-pad_size-next)

pub first_set-requires : goal.first_set-requires
first_set-requires g c = here-search (here g (goal.at.first_set-requires g c).After-pad_size-next)

pub overflow_add-result-then-not-pad_clear : goal.overflow_add-result-then-not-pad_clear
overflow_add-result-then-not-pad_clear g c = search (here_found (here g (goal.at.overflow_add-result-then-not-pad_clear g c).After-pad_size-next))

pub returns-then-not-pad_clear : goal.returns-then-not-pad_clear
returns-then-not-pad_clear g c =
    let at = goal.at.returns-then-not-pad_clear g c in
    search (here-unpadded (here g at.After-pad_size-next) (sound g at.Joined-else-this-ne0))

pub overflow_add-slot-in-loop-i : goal.overflow_add-slot-in-loop-i
overflow_add-slot-in-loop-i g c = search loop-slot-on

pub overflow_add-i-in-loop-i : goal.overflow_add-i-in-loop-i
overflow_add-i-in-loop-i g c = search loop-on

pub loop-i-smaller : goal.loop-i-smaller
loop-i-smaller g c = search loop-falls

pub loop-i-preserved : goal.loop-i-preserved
loop-i-preserved g c =
    let at = goal.at.loop-i-preserved g c in
    search (here-next (here g at.After-pad_size-next) (sound g at.Joined-else-this-ne0))

pub overflow_add-result-then-stop-n : goal.overflow_add-result-then-stop-n
overflow_add-result-then-stop-n g c = search loop-told

pub returns-then-stop-n : goal.returns-then-stop-n
returns-then-stop-n g c = search (loop-unfit c.loop-i.invariant)

pub overflow_sub-cur : goal.overflow_sub-cur
overflow_sub-cur g c = search loop-since

pub overflow_add-done-2 : goal.overflow_add-done-2
overflow_add-done-2 g c = search loop-sum

pub returns-then-done-cur : goal.returns-then-done-cur
returns-then-done-cur g c = search (loop-over c.loop-i.invariant)

pub returns : goal.returns
returns g c = search (loop-done c.loop-i.invariant)
