-- `chords::judge_nulls` meets its contract. Assumes nothing.
use mathlib.Core.Path.{sym, ◌∙◌}
use native.Mathlib.Omega.{arith}
use Rattle.chords.proofs.Readings.{long}
use Rattle.chords.proofs.Judging.{first-null, first-lacks, second-null, second-lacks, none-lacks, begins-in}
use Rattle.chords.proofs.judge_nulls.Goals as goal

pub is_null-requires : goal.is_null-requires
is_null-requires c = omega (arith, long c.requires)

pub returns-then-is_null : goal.returns-then-is_null
returns-then-is_null c = first-null c.requires (sym c.is_null.ensures ∙ c.if-is_null.true)

pub offset_at-first-requires : goal.offset_at-first-requires
offset_at-first-requires c = omega (arith, long c.requires)

pub lacks-requires : goal.lacks-requires
lacks-requires c = begins-in c.requires 0 (omega arith) (sym c.is_null.ensures ∙ c.if-is_null.false)
    c.offset_at-first.ensures

pub returns-then-lacks : goal.returns-then-lacks
returns-then-lacks c = first-lacks c.requires (sym c.is_null.ensures ∙ c.if-is_null.false) c.offset_at-first.ensures
    (sym c.lacks.ensures ∙ c.if-lacks.true)

pub is_null-requires-2 : goal.is_null-requires-2
is_null-requires-2 c = omega (arith, long c.requires)

pub returns-then-is_null-2 : goal.returns-then-is_null-2
returns-then-is_null-2 c = second-null c.requires (sym c.is_null.ensures ∙ c.if-is_null.false) c.offset_at-first.ensures
    (sym c.lacks.ensures ∙ c.if-lacks.false)
    (sym c.is_null-2.ensures ∙ c.if-is_null-2.true)

pub offset_at-second-requires : goal.offset_at-second-requires
offset_at-second-requires c = omega (arith, long c.requires)

pub lacks-requires-2 : goal.lacks-requires-2
lacks-requires-2 c = begins-in c.requires 1 (omega arith)
    (sym c.is_null-2.ensures ∙ c.if-is_null-2.false) c.offset_at-second.ensures

pub returns-then-lacks-2 : goal.returns-then-lacks-2
returns-then-lacks-2 c = second-lacks c.requires (sym c.is_null.ensures ∙ c.if-is_null.false) c.offset_at-first.ensures
    (sym c.lacks.ensures ∙ c.if-lacks.false)
    (sym c.is_null-2.ensures ∙ c.if-is_null-2.false)
    c.offset_at-second.ensures
    (sym c.lacks-2.ensures ∙ c.if-lacks-2.true)

pub returns : goal.returns
returns c = none-lacks c.requires (sym c.is_null.ensures ∙ c.if-is_null.false) c.offset_at-first.ensures
    (sym c.lacks.ensures ∙ c.if-lacks.false)
    (sym c.is_null-2.ensures ∙ c.if-is_null-2.false)
    c.offset_at-second.ensures
    (sym c.lacks-2.ensures ∙ c.if-lacks-2.false)
