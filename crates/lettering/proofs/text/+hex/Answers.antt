-- `lettering::text::hex` meets its contract: the digits but the last, and the last behind them. The measure is their number. Assumes nothing.
use native.Mathlib.Omega.{arith}
use Rattle.words.proofs.Powers.{mask_is}
use Rattle.lettering.proofs.Putting.{hex-none, hex-more}
use Rattle.lettering.proofs.Lengths.{hex-length}
use Prim.Native.Nat.{◌-◌, ◌/◌}
use Rattle.lettering.proofs.text.+hex.Goals as goal

pub returns-then-k-eq0 : goal.returns-then-k-eq0
returns-then-k-eq0 t c = hex-none _ _ _ _ c.if-k-eq0.true

pub hex-next-requires : goal.hex-next-requires
hex-next-requires t c = (omega arith, omega arith)

pub overflow_cast-n : goal.overflow_cast-n
overflow_cast-n t c = record { fits = omega (arith, mask_is c.args.n 4) }

pub glyph-requires : goal.glyph-requires
glyph-requires t c = omega (arith, mask_is c.args.n 4)

pub byte-requires : goal.byte-requires
byte-requires t c =
    let hex = c.hex-next in
    omega (arith, hex.ensures.next, hex-length (c.args.k - 1) (c.args.n / 16))

pub returns : goal.returns
returns t c =
    let if1 = c.if-k-eq0 in
    let hex = c.hex-next in
    let glyph = c.glyph in
    let byte = c.byte in
    hex-more _ _ _ if1.false glyph.ensures hex.ensures byte.ensures
