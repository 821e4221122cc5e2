-- `writing::write` meets its contract. Assumes nothing.
use mathlib.Core.Path.{sym}
use lib.Seq.{length-take-le}
use Rattle.writing.proofs.Whole.{no-listing, too_long, no_room, row-can, all_done}
use Rattle.writing.proofs.write.Goals as goal

pub returns-in_default : goal.returns-in_default
returns-in_default c =
    let a = no-listing c.requires c.args.listing.now c.args.out.now c.in_default.ensures in
    record { answer = a.answer; bytes = a.bytes }

pub returns-then-size-gt16384 : goal.returns-then-size-gt16384
returns-then-size-gt16384 c =
    let a = too_long c.requires c.args.listing.now c.args.out.now c.in-Some.ensures c.if-size-gt16384.true in
    record { answer = a.answer; bytes = a.bytes }

pub returns-then-out-size : goal.returns-then-out-size
returns-then-out-size c =
    let a = no_room c.requires c.args.listing.now c.args.out.now c.in-Some.ensures c.if-size-gt16384.false c.if-out-size.true in
    record { answer = a.answer; bytes = a.bytes }

pub slice_bounds-put_row-end-2 : goal.slice_bounds-put_row-end-2
slice_bounds-put_row-end-2 c = sym (length-take-le c.in-Some.size c.args.out.now c.if-out-size.false)

pub put_row-requires : goal.put_row-requires
put_row-requires c =
    row-can c.requires c.args.listing.now c.args.out.now c.in-Some.ensures c.if-size-gt16384.false
    (length-take-le c.in-Some.size c.args.out.now c.if-out-size.false)

pub returns : goal.returns
returns c =
    let a = all_done c.requires c.args.listing.now c.args.out.now c.in-Some.ensures c.if-size-gt16384.false c.if-out-size.false c.put_row.ensures in
    record { answer = a.answer; bytes = a.bytes }
