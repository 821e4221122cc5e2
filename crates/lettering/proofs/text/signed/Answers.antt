-- `lettering::text::signed` meets its contract: a sign where the number is negative, and its distance from 0. Assumes nothing.
use mathlib.Core.Path.{sym, ap, ◌∙◌}
use Prim.Native.Nat.{◌<◌, ◌^◌}
use native.Mathlib.Omega.{arith}
use lib.Signed.{mag}
use mir.Syntax.{w64}
use mir.ValLaws.{to_z-of_z}
use Rattle.words.specs.Signed.{is_negative}
use Rattle.lettering.proofs.Putting.{signed-plain, signed-minus}
use Rattle.lettering.proofs.text.signed.Goals as goal

pub overflow_add-m : goal.overflow_add-m
overflow_add-m c = let magnitude = c.magnitude-m in
    let m : magnitude.result < 2 ^ 63 = rw (magnitude.ensures, to_z-of_z w64 c.args.x c.ranges.x) c.ranges.x.sfits in
    omega arith

pub returns-then-negative : goal.returns-then-negative
returns-then-negative c = let e = to_z-of_z w64 c.args.x c.ranges.x in
    let magnitude = c.magnitude-m in
    let negative = c.negative in
    let if1 = c.if-negative in
    let byte = c.byte-next in
    let decimal = c.decimal in
    signed-minus c.args.x _ (ap is_negative (sym e) ∙ sym negative.ensures ∙ if1.true) (magnitude.ensures ∙ ap mag e) byte.ensures
    decimal.ensures

pub returns : goal.returns
returns c = let e = to_z-of_z w64 c.args.x c.ranges.x in
    let magnitude = c.magnitude-m in
    let negative = c.negative in
    let if1 = c.if-negative in
    let decimal2 = c.decimal-2 in
    signed-plain c.args.x _ (ap is_negative (sym e) ∙ sym negative.ensures ∙ if1.false) (magnitude.ensures ∙ ap mag e) decimal2.ensures
