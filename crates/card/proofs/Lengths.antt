-- How long a line with a number is at most. Assumes nothing.
use Prim.Native.Nat.{ℕ, ◌≤◌}
use lib.ListN.{length}
use Rattle.lettering.proofs.Lengths.{numbered-most}
use Rattle.card.specs.Output.{refusal}
use Rattle.card.specs.Rows.{heading}

pub refusal-most : (n : ℕ) → length (refusal n) ≤ 29
unfolding refusal
refusal-most n = numbered-most _ n

pub heading-most : (k : ℕ) → length (heading k) ≤ 25
unfolding heading
heading-most k = numbered-most _ k
