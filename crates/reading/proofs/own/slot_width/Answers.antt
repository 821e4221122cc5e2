-- `reading::own::slot_width` meets its contract. Assumes nothing.
use Rattle.reading.proofs.Rules.{slot-zero, slot_same}
use borrow.Author.Rules.{rules}
use Rattle.reading.proofs.own.slot_width.Goals as goal

pub returns-then-v-eq0 : goal.returns-then-v-eq0
returns-then-v-eq0 c = slot-zero _ (search rules)

pub returns-else-v-eq0 : goal.returns-else-v-eq0
returns-else-v-eq0 c = slot_same _ (search rules)
