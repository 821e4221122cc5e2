-- One child of a body by its slot: what lies there, and what may lie there in its place. Assumes nothing.
use mathlib.Core.Path.{◌≡◌, refl}
use mathlib.Core.List.{List, ◌++◌, append_assoc}
use Prim.Native.Nat.{ℕ, ◌+◌, ◌*◌, ◌/◌, ◌%◌, ◌^◌, ◌<◌}
use native.Mathlib.Omega.{arith}
use lib.ListN.{length, take, length-replicate}
use lib.Seq.{take-append_seam}
use Rattle.words.specs.Bytes.{num, fill, padded}
use Rattle.words.proofs.Numbers.{num-le, bytes-zeros}
use Rattle.schema.specs.Types.{Fixed, width, Ty, fix}
use Rattle.layout.specs.Tiles.{Range}
use Rattle.layout.specs.Cells.{Cell, null, leaf, nodes, on_null, flag, bytes}
use Rattle.layout.specs.Layout.{Codec, Kid, number, Inside, inside, Placed, outside, kid_of, kid, kid_lays, limit, codec}
use Rattle.layout.specs.Refusals.{Refusal}
use Rattle.layout.specs.Walk.{Step, must_step}
use Rattle.layout.proofs.Cells.{present}
use Rattle.layout.proofs.Tiles.{stands-within}
use Rattle.layout.proofs.Kids.{LawfulKid}
use Rattle.layout.proofs.Stepped as Stepped
use Rattle.layout.proofs.Stepped.{FixedSlot}

pub must-step : {P : Type 0} (d : Dec P) (n : Refusal) (s : Step) → P → must_step d n s ≡ s
unfolding must_step
must-step (yes p) n s h = refl
must-step (no q) n s h = absurd (q h)

pub inside-given : (w v : ℕ) (c : Codec) (at : ℕ) (d : List ℕ) (before after : List Range) (x : Cell) (s : List ℕ)
    → kid_lays w (inside w v c) at d before x s after → flag x ≡ 0 → Inside c.Lays w before x s after
unfolding inside
inside-given w v c at d before after x s y e = rw (present _ _ x e) at y

pub outside-given : (w : ℕ) (c : Codec) (at : ℕ) (d : List ℕ) (before after : List Range) (x : Cell) (s : List ℕ)
    → kid_lays w (outside c) at d before x s after → flag x ≡ 0 → Placed c.Lays at d before x s after
unfolding outside
outside-given w c at d before after x s y e = rw (present _ _ x e) at y

pub outside-made : (w : ℕ) (c : Codec) (at : ℕ) (d : List ℕ) (before after : List Range) (x : Cell) (s : List ℕ) → flag x ≡ 0
    → Placed c.Lays at d before x s after → kid_lays w (outside c) at d before x s after
unfolding outside
outside-made w c at d before after x s e y = rw (present _ _ x e) y

inside-same : (w v : ℕ) (c : Codec) (at : ℕ) (d : List ℕ) (before after : List Range) (x : Cell) (s : List ℕ)
    → kid_lays w (inside w v c) at d before x s after → before ≡ after
unfolding inside on_null
inside-same w v c at d before after (null u) s y = y.same
inside-same w v c at d before after (leaf u) s y = y.same
inside-same w v c at d before after (nodes u) s y = y.same

pub null-same : (w : ℕ) (k : Kid) (at : ℕ) (d : List ℕ) (before after : List Range) (x : Cell) (s : List ℕ) → kid_lays w k at d before x s after → flag x ≡ 1
    → before ≡ after
unfolding on_null
null-same w k at d before after (null u) s y e = y.same
null-same w k at d before after (leaf u) s y e = absurd (omega arith)
null-same w k at d before after (nodes u) s y e = absurd (omega arith)

pub take_own : (u r : List ℕ) → take (length u) (padded u ++ r) ≡ u
unfolding fill
take_own u r = rw append_assoc (take-append_seam u _)

-- what a fixed-width child may be set to lays in its slot
pub record FixedIn (t : Ty) (w at : ℕ) (d : List ℕ) (before after : List Range) (x : Cell) (v : List ℕ) : Type 0 where
  pub wide : length v ≡ w
  pub lays : kid_lays w (kid w (codec t)) at d before x v after

pub fixed_in : (f : Fixed) (w at : ℕ) (d : List ℕ) (before after : List Range) (x₀ : Cell) (s₀ : List ℕ) (x : Cell) (v : List ℕ)
    → LawfulKid w (kid w (codec (fix f)))
    → kid_lays w (kid w (codec (fix f))) at d before x₀ s₀ after → FixedSlot w f x v → FixedIn (fix f) w at d before after x v
unfolding codec kid_of number inside on_null bytes
fixed_in f w at d before after x₀ s₀ x v lk y Stepped.nulls =
    record {
      wide = length-replicate w 0;
      lays = record {
        fits = record { wide = length-replicate w 0; proper = bytes-zeros w };
        is = refl;
        same =
            inside-same w (width f) (number (width f) (limit f)) at d before after x₀ s₀ y;
      };
    }
fixed_in f w at d before after x₀ s₀ x v lk y (Stepped.given {u = u} nf) =
    record {
      wide = lk.wide 0 (leaf u) nf;
      lays = record {
        own = u;
        lays = record { fits = nf; is = refl };
        slot = refl;
        same = inside-same w (width f)
            (number (width f) (limit f)) at d before after x₀ s₀ y;
      };
    }

-- the slot of a value, read
pub record SlotSays (place : ℕ) (own : List ℕ) (s : List ℕ) : Type 0 where
  pub offset : num s / 2 ^ 32 ≡ place
  pub size : num s % 2 ^ 32 ≡ length own

pub slot-says : (c : Codec) (at : ℕ) (d : List ℕ) (before after : List Range) (x : Cell) (s : List ℕ) (y : Placed c.Lays at d before x s after)
    → at + length d < 2 ^ 32 → SlotSays y.place y.own s
slot-says c at d before after x s y lim =
    let z = (stands-within y.stands).high in
    let o = y.place in
    let n = length y.own in
    let e : num s ≡ o * 2 ^ 32 + n = rw (← y.slot) (num-le 8 (o * 2 ^ 32 + n) (omega arith)) in
    record { offset = omega arith; size = omega arith }
