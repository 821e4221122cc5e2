-- `shelf::judge` meets its contract: the first i schemas stand, the rules of schema k aside. Assumes nothing.
use Rattle.shelf.proofs.Judging.{Seen}
use Rattle.shelf.proofs.judge.Given as goal

abbrev pub invariant-loop-i : goal.invariant-loop-i
invariant-loop-i l = Seen l.t l.k l.i l.at
