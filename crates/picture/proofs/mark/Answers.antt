-- `picture::mark` meets its contract. Assumes nothing.
use native.Mathlib.Omega.{arith}
use borrow.Author.Rules.{rules}
use Prim.Native.Nat.{◌+◌, ◌*◌}
use lib.Bits.{bit_and}
use Rattle.words.proofs.Powers.{mask_is}
use Rattle.picture.proofs.Drawing.{spaces-length, mark-puts}
use Rattle.picture.proofs.mark.Goals as goal

pub overflow_mul-place : goal.overflow_mul-place
overflow_mul-place c = search (rules, mask_is c.args.place 3)

pub overflow_add-place : goal.overflow_add-place
overflow_add-place c = search (rules, mask_is c.args.place 3)

pub spaces-next-requires : goal.spaces-next-requires
spaces-next-requires c = search (rules, mask_is c.args.place 3)

pub put-requires : goal.put-requires
put-requires c =
    let spaces = c.spaces-next in
    omega (arith, spaces.ensures.next, spaces.auto.out, spaces-length (7 + 3 * bit_and c.args.place 7), mask_is c.args.place 3)

pub returns : goal.returns
returns c = mark-puts _ c.spaces-next.ensures c.put.ensures
