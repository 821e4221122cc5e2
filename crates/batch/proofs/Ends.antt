-- Where a frame ends, by what is left of the bytes. Assumes nothing.
use mathlib.Core.Path.{◌≡◌, ◌∙◌}
use mathlib.Core.Option.{none}
use mathlib.Core.List.{List}
use Prim.Native.Nat.{ℕ, ◌+◌, ◌-◌, ◌≤◌, ◌<◌}
use native.Mathlib.Omega.{arith}
use lib.ListN.{length, drop, length-drop}
use lib.Seq.{drop-drop}
use Rattle.layout.specs.Reader.{cut}
use Rattle.layout.proofs.Reader.{cut-some, cut-none}
use Rattle.batch.specs.Frames.{first}
use Rattle.batch.specs.Places.{Says, Stands}

module _ (b : List ℕ) (at : ℕ) where
  pub no_size : length b < at + 4 → first (drop at b) ≡ none
  unfolding first
  no_size h = rw (cut-none 4 (drop at b) (rw length-drop (omega arith)))

  module _ (room : at + 4 ≤ length b) (size : ℕ) (says : Says b at size) where
    first-is : first (drop at b) ≡ cut size (drop (at + 4) b)
    unfolding first
    first-is =
        let l : 4 ≤ length (drop at b) = rw length-drop (omega arith) in
        rw (cut-some 4 (drop at b) l, drop-drop 4 at b, ← says.is)

    pub no-rest : length b < at + 4 + size → first (drop at b) ≡ none
    no-rest h = first-is ∙ cut-none size (drop (at + 4) b) (rw length-drop (omega arith))

    pub whole : at + 4 + size ≤ length b → Stands b at (at + 4 + size)
    whole h =
        let l : size ≤ length (drop (at + 4) b) = rw length-drop (omega arith) in
        let e : at + 4 + size - (at + 4) ≡ size = omega arith in
        record { low = omega arith; high = omega arith; row = first-is ∙ cut-some size (drop (at + 4) b) l ∙ rw (drop-drop size (at + 4) b, e) }
