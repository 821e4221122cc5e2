-- `picture::picture` meets its contract: the lines passed stand one behind the other. Assumes nothing.
use Rattle.picture.specs.Picture.{fault_of}
use Rattle.picture.proofs.Pictures.{Drawn}
use Rattle.picture.proofs.picture.Given as goal

abbrev pub invariant-loop-u : goal.invariant-loop-u
invariant-loop-u g l = Drawn l.row l.chart (fault_of l.fault) l.initial.out l.u l.used l.out
