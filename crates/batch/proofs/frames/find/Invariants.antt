-- `batch::frames::find` meets its contract: as many frames are passed as turns were made. Assumes nothing.
use Rattle.batch.specs.Places.{Passed}
use Rattle.batch.proofs.frames.find.Given as goal

abbrev pub invariant-loop : goal.invariant-loop
invariant-loop l = Passed l.b l.at l.counter
