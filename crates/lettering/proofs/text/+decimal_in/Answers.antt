-- `lettering::text::decimal_in` meets its contract: one digit, or the digits but the last and the last behind them. The measure is how many may be left.
-- Assumes nothing.
use native.Mathlib.Omega.{arith}
use Rattle.lettering.proofs.Putting.{decimal-none, decimal-one, decimal-more}
use Rattle.lettering.proofs.Lengths.{decimal-most}
use Prim.Native.Nat.{◌-◌}
use Rattle.lettering.proofs.text.+decimal_in.Goals as goal

pub returns-then-k-eq0 : goal.returns-then-k-eq0
returns-then-k-eq0 t c = decimal-none _ _ _ _ c.if-k-eq0.true

pub returns-then-n-lt10 : goal.returns-then-n-lt10
returns-then-n-lt10 t c =
    let if1 = c.if-k-eq0 in
    let if2 = c.if-n-lt10 in
    let glyph = c.glyph in
    let byte = c.byte in
    decimal-one _ _ _ if1.false if2.true glyph.ensures byte.ensures

pub decimal_in-next-requires : goal.decimal_in-next-requires
decimal_in-next-requires t c = (omega arith, omega arith)

pub byte-requires-2 : goal.byte-requires-2
byte-requires-2 t c =
    let decimal-in = c.decimal_in-next in
    let tenth = c.tenth-q in
    omega (arith, decimal-in.ensures.next, decimal-most (c.args.k - 1) tenth.result)

pub returns : goal.returns
returns t c =
    let if1 = c.if-k-eq0 in
    let if2 = c.if-n-lt10 in
    let tenth = c.tenth-q in
    let decimal-in = c.decimal_in-next in
    let glyph2 = c.glyph-2 in
    let byte2 = c.byte-2 in
    decimal-more _ _ _ _ if1.false if2.false tenth.ensures glyph2.ensures decimal-in.ensures byte2.ensures
