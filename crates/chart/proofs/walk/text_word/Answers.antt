-- `chart::walk::text_word` meets its contract. Assumes nothing.
use Rattle.schema.specs.Types.{text_at}
use Rattle.chart.proofs.Labelling.{text-first}
use Rattle.chart.proofs.walk.text_word.Goals as goal

pub returns-then-k-eq-BINARY : goal.returns-then-k-eq-BINARY
unfolding text_at
returns-then-k-eq-BINARY c = rw c.if-k-eq-BINARY.true

pub returns-else-k-eq-BINARY : goal.returns-else-k-eq-BINARY
returns-else-k-eq-BINARY c = text-first _ c.if-k-eq-BINARY.false
