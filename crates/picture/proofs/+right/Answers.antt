-- `picture::right` meets its contract: spaces and one digit, or the digits but the last and the last behind them. The measure is how
-- many columns are left. Assumes nothing.
use native.Mathlib.Omega.{arith}
use Prim.Native.Nat.{◌-◌}
use Rattle.picture.proofs.Drawing.{spaces-length, right-length, right-none, right-one, right-more}
use Rattle.picture.proofs.+right.Goals as goal

pub returns-then-k-eq0 : goal.returns-then-k-eq0
returns-then-k-eq0 t c = right-none _ _ _ _ c.if-k-eq0.true

pub byte-requires : goal.byte-requires
byte-requires t c =
    let args = c.args in
    let spaces' = c.spaces-last in
    let if1 = c.if-k-eq0 in
    let k = args.k in
    omega (arith, spaces'.ensures.next, spaces'.auto.out, spaces-length (k - 1), if1.false)

pub returns-then-n-lt10 : goal.returns-then-n-lt10
returns-then-n-lt10 t c =
    let if1 = c.if-k-eq0 in
    let if2 = c.if-n-lt10 in
    let glyph = c.glyph in
    let spaces' = c.spaces-last in
    let byte = c.byte in
    right-one _ _ _ if1.false if2.true glyph.ensures spaces'.ensures byte.ensures

pub right-next-requires : goal.right-next-requires
right-next-requires t c = (omega arith, omega arith)

pub byte-requires-2 : goal.byte-requires-2
byte-requires-2 t c =
    let args = c.args in
    let right' = c.right-next in
    let tenth = c.tenth-q in
    let if1 = c.if-k-eq0 in
    omega (arith, right'.ensures.next, right'.auto.out, right-length (args.k - 1) tenth.result, if1.false)

pub returns : goal.returns
returns t c =
    let if1 = c.if-k-eq0 in
    let if2 = c.if-n-lt10 in
    let tenth = c.tenth-q in
    let glyph2 = c.glyph-2 in
    let right' = c.right-next in
    let byte2 = c.byte-2 in
    right-more _ _ _ _ if1.false if2.false tenth.ensures glyph2.ensures right'.ensures byte2.ensures
