-- `card::print_card` is safe and ends. Assumes nothing.
use native.Mathlib.Omega.{arith}
use lib.ListN.{length-take}
use Rattle.card.proofs.print_card.Goals as goal

pub slice_bounds-write_all-end : goal.slice_bounds-write_all-end
slice_bounds-write_all-end c = simp length-take (omega (arith, c.in_ok-k.ensures.within, c.card.auto.out))
