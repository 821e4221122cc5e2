-- The entry at a place says what stands there. Assumes nothing.
use Rattle.std.proofs.Common.{arith}
use Rattle.table.proofs.Places.{place-room, table-short, entry-says}
use Rattle.table.proofs.entry_at.Goals as goal

pub offset_bounds-t-c : goal.offset_bounds-t-c
offset_bounds-t-c c = let a = c.args in
    let r = place-room a.t.now c.requires.table a.c a.depth c.requires.typed in
    omega (arith, r, table-short a.t.now c.requires.table)

pub bounds-t-c : goal.bounds-t-c
bounds-t-c c = place-room c.args.t.now c.requires.table c.args.c c.args.depth c.requires.typed

pub returns : goal.returns
returns c = entry-says c.args.t.now c.requires.table c.args.c c.args.depth c.requires.typed
