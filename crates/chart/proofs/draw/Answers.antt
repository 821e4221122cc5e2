-- `chart::draw` meets its contract. Assumes nothing.
use mathlib.Core.Path.{refl}
use mathlib.Core.List.{[]}
use native.Mathlib.Omega.{arith}
use Rattle.words.specs.Bytes.{fill}
use Rattle.chart.proofs.Claiming.{path-is, neat-is}
use Rattle.chart.proofs.Walking.{walk-root}
use Rattle.chart.proofs.draw.Goals as goal

pub place-requires : goal.place-requires
unfolding fill
place-requires c = let g = c.requires in
    record { long = g.1; opened = g.0; neat = neat-is [] _ (omega arith) refl refl }

pub returns : goal.returns
unfolding fill
returns c = walk-root _ _ _ _ refl (path-is [] _ refl refl) c.place.ensures
