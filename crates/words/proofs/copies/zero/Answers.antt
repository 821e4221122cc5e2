-- `words::copies::zero` meets its contract. Assumes nothing.
use mathlib.Core.Path.{◌≡◌, ap, ◌∙◌}
use Prim.Native.Nat.{◌+◌, ◌-◌}
use native.Mathlib.Omega.{arith}
use Rattle.words.specs.Bytes.{part, zeros}
use Rattle.words.proofs.Runs.{put_mid-sets}
use lib.ListN.{length, length-replicate}
use Rattle.words.proofs.Parts.{length_part}
use Rattle.words.proofs.copies.zero.Goals as goal

pub returns : goal.returns
returns c = let a = c.args in
    let e : a.at + a.n - a.at ≡ a.n = omega arith in
    let long : length (part a.out.now a.at (a.at + a.n - a.at)) ≡ a.n = length_part a.out.now a.at (a.at + a.n - a.at) (omega arith) ∙ e in
    let all : c.fill.new.self ≡ zeros a.n = c.fill.ensures.after (λ y h. h) ∙ ap zeros long in
    rw (all, e) (put_mid-sets a.out.now (zeros a.n) a.at a.n (length-replicate a.n 0) (omega arith))
