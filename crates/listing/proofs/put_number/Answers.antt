-- `listing::put_number` meets its contract: by width, one load and one store. Assumes nothing.
use native.Mathlib.Omega.{arith}
use Rattle.listing.proofs.Numbers.{number-none, number_fits, number-le, number_in, number-write, number-byte}
use Rattle.listing.proofs.put_number.Goals as goal

pub returns-then-out-end : goal.returns-then-out-end
returns-then-out-end c = search number-none

pub put-requires : goal.put-requires
put-requires c = search number_fits

pub returns-in-8 : goal.returns-in-8
returns-in-8 c = search number-le

pub put-requires-in-4 : goal.put-requires-in-4
put-requires-in-4 c = search number_fits

pub returns-in-4 : goal.returns-in-4
returns-in-4 c = search number-le

pub put-requires-in-2 : goal.put-requires-in-2
put-requires-in-2 c = search number_fits

pub returns-in-2 : goal.returns-in-2
returns-in-2 c = search number-le

pub bounds-b-slot : goal.bounds-b-slot
bounds-b-slot c = search number_in

pub bounds-out-p : goal.bounds-out-p
bounds-out-p c = search number-write

pub returns-in_default : goal.returns-in_default
returns-in_default c =
    number-byte c.requires c.width-wide.ensures c.put_mark-p.ensures (λ e. omega arith) (λ e. omega arith) (λ e. omega arith)
