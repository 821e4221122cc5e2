-- `card::batches::accepted_text` meets its contract: the schema of an accepted batch is accepted, so that there is a table. Assumes nothing.
use Rattle.std.proofs.Common.{rules}
use Rattle.card.proofs.Turns.{batch-judged}
use Rattle.card.proofs.batches.accepted_text.Goals as goal

pub unwrap-requires : goal.unwrap-requires
unwrap-requires g c = let k = batch-judged _ _ c.requires.0 in search rules
