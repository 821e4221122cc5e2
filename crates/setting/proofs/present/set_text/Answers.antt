-- `setting::present::set_text` meets its contract. Assumes nothing.
use Rattle.setting.proofs.Written.{text-null, text-other, text-unfit, text-size, text-bytes}
use borrow.Author.Rules.{rules}
use Rattle.setting.proofs.present.set_text.Goals as goal

pub returns-then-not-is_fit : goal.returns-then-not-is_fit
returns-then-not-is_fit c = let a = c.args in
    text-unfit _ a.bytes.now a.start a.len a.row.now a.g c.in-Bytes.is c.is_fit.ensures
    c.if-not-is_fit.true-raw

pub returns-then-bytes-len : goal.returns-then-bytes-len
returns-then-bytes-len c = let a = c.args in
    text-size _ a.bytes.now a.start a.len a.row.now a.g c.in-Bytes.is c.is_fit.ensures c.if-not-is_fit.false-raw
    (search rules)

pub returns-in-Null : goal.returns-in-Null
returns-in-Null c = let a = c.args in
    text-null _ a.bytes.now a.start a.len a.row.now a.g c.in-Null.is

pub returns-in_default : goal.returns-in_default
returns-in_default c = let a = c.args in
    text-other _ a.bytes.now a.start a.len a.row.now a.g c.in_default.not-Null c.in_default.not-Bytes

pub returns-else-bytes-len : goal.returns-else-bytes-len
returns-else-bytes-len c = let a = c.args in
    text-bytes _ a.bytes.now a.start a.len a.row.now a.g c.in-Bytes.is c.is_fit.ensures
    c.if-not-is_fit.false-raw (search rules) _ c.copy.ensures
