-- `reading::look_in` meets its contract. Assumes nothing.
use Rattle.std.proofs.Common.{rules, refl, ap, Ok}
use Rattle.reading.proofs.Shown.{read-refused, read-null, found-shows, read_at}
use Rattle.reading.proofs.look_in.Goals as goal

pub find-requires : goal.find-requires
find-requires c = c.requires

pub answer-requires : goal.answer-requires
answer-requires c = found-shows c.requires c.in_ok-find.ensures (ap Ok c.in-At.is)

pub returns-in_err-find : goal.returns-in_err-find
returns-in_err-find c = let k = read-refused c.requires c.in_err-find.ensures refl in search rules

pub returns-in-Null : goal.returns-in-Null
returns-in-Null c = read-null c.requires c.in_ok-find.ensures (ap Ok c.in-Null.is)

pub returns-in-At : goal.returns-in-At
returns-in-At c = read_at c.requires c.in_ok-find.ensures (ap Ok c.in-At.is) c.answer.ensures
