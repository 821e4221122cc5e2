-- `lettering::text::numbered` meets its contract: three texts one behind the other. Assumes nothing.
use native.Mathlib.Omega.{arith}
use Rattle.lettering.specs.Text.{numbered}
use Rattle.lettering.proofs.Putting.{puts_then}
use Rattle.lettering.proofs.Lengths.{decimal-twenty}
use Rattle.lettering.proofs.text.numbered.Goals as goal

pub byte-requires : goal.byte-requires
byte-requires c = let put = c.put-next in
    let decimal = c.decimal-end in
    omega (arith, c.requires, put.ensures.next, put.auto.out, decimal.ensures.next, decimal.auto.out, decimal-twenty c.args.n)

pub returns : goal.returns
unfolding numbered
returns c = let put = c.put-next in
    let decimal = c.decimal-end in
    puts_then put.ensures (puts_then decimal.ensures c.byte.ensures)
