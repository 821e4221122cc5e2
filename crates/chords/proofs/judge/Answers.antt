-- `chords::judge` meets its contract. Assumes nothing.
use mathlib.Core.Path.{◌∙◌, sym, ap}
use Rattle.std.proofs.lemmas.Result.{err_from_is_err_and}
use Rattle.words.proofs.Numbers.{slice-bytes}
use Rattle.layout.specs.Entries.{verdict}
use Rattle.chords.proofs.Judging.{table_is, done-checked, done-nulls, refused-row}
use Rattle.chords.proofs.judge.Goals as goal

pub returns-then-is_plain : goal.returns-then-is_plain
returns-then-is_plain c = sym (ap verdict (c.is_plain.ensures c.if-is_plain.true))

pub check-requires : goal.check-requires
check-requires c = table_is

pub returns-in_err-check : goal.returns-in_err-check
returns-in_err-check c = let p = err_from_is_err_and c.from_residual.result c.from_residual.ensures.1 in
    rw (p.1, p.2) (refused-row _ _ c.in_err-check.ensures)

pub judge_nulls-requires : goal.judge_nulls-requires
judge_nulls-requires c = done-checked _ c.in_ok-check.ensures (slice-bytes c.type_inv.row)

pub returns : goal.returns
returns c = c.judge_nulls.ensures ∙ done-nulls _ c.in_ok-check.ensures
