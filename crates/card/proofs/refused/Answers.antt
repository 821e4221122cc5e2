-- `card::refused` meets its contract. Assumes nothing.
use Rattle.card.specs.Output.{refusal}
use Rattle.card.proofs.refused.Goals as goal

pub returns : goal.returns
unfolding refusal
returns c = c.numbered.ensures
