-- `setting::leaves::of_number` meets its contract. Assumes nothing.
use mir.Syntax.{w64}
use mir.ValLaws.{to_z-of_z}
use Rattle.setting.proofs.Fits.{number-bool, number-float, number-wide, number-mag, number_fits, number-out}
use Rattle.setting.proofs.leaves.of_number.Goals as goal

pub returns-then-k-eq-BOOL : goal.returns-then-k-eq-BOOL
returns-then-k-eq-BOOL c = number-bool c.requires c.place-k.ensures c.if-k-eq-BOOL.true c.args.z

pub returns-then-k-gt-INT64 : goal.returns-then-k-gt-INT64
returns-then-k-gt-INT64 c = number-float c.requires c.place-k.ensures c.if-k-gt-INT64.true c.args.z

pub in_range-requires : goal.in_range-requires
in_range-requires c = number-wide c.requires c.place-k.ensures c.if-k-eq-BOOL.false c.if-k-gt-INT64.false c.width-wide.ensures

pub of_signed-requires : goal.of_signed-requires
of_signed-requires c = number-mag c.requires c.place-k.ensures c.if-k-eq-BOOL.false c.if-k-gt-INT64.false c.width-wide.ensures
    (to_z-of_z w64 c.args.z c.ranges.z) c.in_range.ensures c.if-in_range.true

pub returns-then-in_range : goal.returns-then-in_range
returns-then-in_range c = number_fits c.requires c.place-k.ensures c.if-k-eq-BOOL.false c.if-k-gt-INT64.false c.width-wide.ensures
    (to_z-of_z w64 c.args.z c.ranges.z) c.in_range.ensures c.if-in_range.true c.of_signed.ensures

pub returns : goal.returns
returns c = number-out c.requires c.place-k.ensures c.if-k-eq-BOOL.false c.if-k-gt-INT64.false c.width-wide.ensures
    (to_z-of_z w64 c.args.z c.ranges.z) c.in_range.ensures c.if-in_range.false
