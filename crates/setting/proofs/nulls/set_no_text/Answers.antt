-- `setting::nulls::set_no_text` meets its contract. Assumes nothing.
use Rattle.setting.proofs.Written.{no-text-null, no-text-other, no-text-unfit, no-text-bytes}
use Rattle.setting.proofs.nulls.set_no_text.Goals as goal

pub returns-then-not-is_fit : goal.returns-then-not-is_fit
returns-then-not-is_fit c = let a = c.args in
    no-text-unfit _ a.bytes.now a.seat a.row.now a.g c.in-Bytes.is c.is_fit.ensures c.if-not-is_fit.true-raw

pub returns-in-Null : goal.returns-in-Null
returns-in-Null c = let a = c.args in
    no-text-null _ a.bytes.now a.seat a.row.now a.g c.in-Null.is _ c.clear.ensures

pub returns-in_default : goal.returns-in_default
returns-in_default c = let a = c.args in
    no-text-other _ a.bytes.now a.seat a.row.now a.g c.in_default.not-Null c.in_default.not-Bytes

pub returns-else-not-is_fit : goal.returns-else-not-is_fit
returns-else-not-is_fit c = let a = c.args in
    no-text-bytes _ a.bytes.now a.seat a.row.now a.g c.in-Bytes.is c.is_fit.ensures c.if-not-is_fit.false-raw
