-- `desk::logs::loaf_log_chord` meets its contract. Assumes nothing.
use Rattle.codes.proofs.Answered.{chord-known, chord-as}
use Rattle.desk.proofs.logs.loaf_log_chord.Goals as goal

pub struck-requires : goal.struck-requires
struck-requires c = chord-known _ _ c.chord.ensures

pub returns : goal.returns
returns c = chord-as c.chord.ensures c.struck.ensures
