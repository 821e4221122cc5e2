-- `words::sizes::pad_clear` meets its contract, by the word that ends the padding. Assumes nothing.
use mathlib.Core.Path.{◌≡◌}
use Prim.Native.Nat.{ℕ, ◌+◌, ◌*◌, ◌%◌, ◌^◌}
use native.Mathlib.Omega.{arith}
use lib.Bits.{bit_and}
use Rattle.words.proofs.Powers.{mask_is}
use Rattle.words.proofs.Numbers.{slice-bytes}
use Rattle.words.proofs.Turns.{pad-word}
use Rattle.words.proofs.sizes.pad_clear.Goals as goal

shift : (end : ℕ) → bit_and (end + 7) 7 * 2 ^ 3 % 2 ^ 64 ≡ 8 * ((end + 7) % 8)
shift end = rw (mask_is (end + 7) 3) (omega arith)

pub overflow_shr-result : goal.overflow_shr-result
overflow_shr-result c = rw (shift c.args.end) (omega arith)

pub returns : goal.returns
returns c = let a = c.args in
    let pre = c.requires in
    let h = slice-bytes c.type_inv.b in
    pad-word a.end a.next c.get.result _ h pre.3 pre.0 pre.1 c.get.ensures.is (shift a.end)
