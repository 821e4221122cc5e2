-- `words::finds::first_set` meets its contract: from i on the same byte is found. Assumes nothing.
use Rattle.words.proofs.FirstSet.{Found}
use Rattle.words.proofs.finds.first_set.Given as goal

abbrev pub invariant-loop-i : goal.invariant-loop-i
invariant-loop-i l = Found l.b l.at l.end l.i
