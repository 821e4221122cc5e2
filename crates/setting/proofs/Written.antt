-- What is written at a leaf, and the refusals before it. Assumes nothing.
use Rattle.std.specs.Prelude.{Ok, Err}
use mathlib.Core.Path.{◌≡◌, refl, ap, ◌∙◌, subst}
use mathlib.Core.Bool.{Bool, true, false, not}
use mathlib.Core.List.{List}
use Prim.Native.Nat.{ℕ, ◌+◌, ◌-◌, ◌^◌, ◌≤◌, ◌<◌}
use native.Mathlib.Nat.{sub-zero}
use native.Mathlib.Omega.{arith}
use lib.ListN.{length}
use lib.Seq.{sets}
use borrow.Author.Tests.{ne_eqb, eq-eqb, not-true, not-false}
use Rattle.words.specs.Bytes.{le, zeros, fill, part}
use Rattle.words.specs.Bits.{put_bit}
use Rattle.words.specs.Tests.{is_yes}
use Rattle.words.proofs.Numbers.{length-le}
use Rattle.words.proofs.NumLaws.{le-pad}
use Rattle.words.proofs.Parts.{part-whole}
use Rattle.schema.specs.Types.{Fixed, Text, fix, fixed_at, width}
use Rattle.schema.proofs.Table.{line-width}
use Rattle.table.specs.Words.{place_in}
use Rattle.layout.specs.Layout.{spells?}
use Rattle.layout.specs.Setting as S
use Rattle.layout.specs.Setting.{Setting, suits, write_fixed}
use Rattle.layout.proofs.Updated.{null-bytes}
use Rattle.std.specs.Prelude.{Some, None}
use Rattle.answers.specs.declared.Refusal.TheVariants as F
use Rattle.answers.specs.declared.Given.{Given}
use Rattle.answers.specs.declared.Given.TheVariants as G
use Rattle.answers.specs.Meaning.{given_means}
use Rattle.reading.specs.Children.{seat_as}
use Rattle.reading.specs.declared.Seat.{Seat}
use Rattle.setting.specs.Writes.{FixedSeat, HasBits, LeafIs, SetAs, decided, fixed_outcome, text_outcome, no_text_outcome}
use Rattle.setting.specs.declared.Leaf.{Leaf}
use Rattle.setting.specs.declared.Leaf.TheVariants as L

-- ---- a slot of 8 bytes, by one store

module _ (row : List ℕ) (slot wide : ℕ) (e : wide ≡ 8) {row' : List ℕ} where
  pub zeros-stored : row' ≡ sets row slot (le 8 0) → row' ≡ sets row slot (zeros wide)
  unfolding le
  zeros-stored q = q ∙ rw e

  pub bits-stored : (v : ℕ) → row' ≡ sets row slot (le 8 v) → row' ≡ sets row slot (le wide v)
  bits-stored v q = q ∙ rw e

-- and behind its bit
module _ (row : List ℕ) (s : Seat) {row₁ row' : List ℕ} where
  pub null-stored : row₁ ≡ put_bit row s.bits s.number true → row' ≡ sets row₁ s.slot (zeros s.wide)
      → row' ≡ sets (put_bit row s.bits s.number true) s.slot (zeros s.wide)
  null-stored e q = q ∙ rw e

  pub value-stored : (v : ℕ) → row₁ ≡ put_bit row s.bits s.number false → row' ≡ sets row₁ s.slot (le s.wide v)
      → row' ≡ sets (put_bit row s.bits s.number false) s.slot (le s.wide v)
  value-stored v e q = q ∙ rw e

-- ---- a leaf of a fixed width

-- a number's bytes with zeros up to the slot's width are its bytes at that width
fill-le : (j w v : ℕ) → v < 256 ^ j → j ≤ w → le w v ≡ fill w (le j v)
unfolding fill
fill-le j w v h l =
    let e : w ≡ j + (w - j) = omega arith in
    ap (λ (n : ℕ). le n v) e ∙ le-pad j (w - j) v h ∙ rw (length-le j v)

module _ (f : Fixed) (x : Setting) (s : Seat) (row : List ℕ) where
  fixed-unfit : suits (fix f) x ≡ false → SetAs (fixed_outcome f x (seat_as s) row) row row (Err F.Unfit)
  unfolding fixed_outcome decided
  fixed-unfit e = record { answers = rw e; after = rw e }

  fixed-null : x ≡ S.null → (row' : List ℕ) → row' ≡ sets (put_bit row s.bits s.number true) s.slot (zeros s.wide)
      → SetAs (fixed_outcome f x (seat_as s) row) row row' (Ok tt)
  unfolding fixed_outcome decided suits write_fixed fill
  fixed-null e row' q = record { answers = rw e; after = rw e (q ∙ rw (null-bytes f, sub-zero)) }

  fixed-bits : (v : ℕ) → HasBits f x v → width f ≤ s.wide → (row' : List ℕ) → row' ≡ sets (put_bit row s.bits s.number false) s.slot
      (le s.wide v)
      → SetAs (fixed_outcome f x (seat_as s) row) row row' (Ok tt)
  unfolding fixed_outcome decided suits write_fixed
  fixed-bits v b l row' q =
      record { answers = rw (b.given, b.bytes); after = rw (b.given, b.bytes) (q ∙ rw (fill-le (width f) s.wide v b.below l)) }

-- by what the setting came to
module _ {row : List ℕ} {w : ℕ} {s : Seat} (I : FixedSeat row w s) (g : Given) where
  abbrev f : Fixed
  f = fixed_at (place_in w)

  pub leaf-unfit : ((u : List ℕ) → LeafIs f (given_means g u) None)
      → (u : List ℕ) → SetAs (fixed_outcome f (given_means g u) (seat_as s) row) row row (Err F.Unfit)
  leaf-unfit a u = fixed-unfit f (given_means g u) s row (a u)

  module _ {row' : List ℕ} where
    pub leaf-nulls : ((u : List ℕ) → LeafIs f (given_means g u) (Some L.Null)) → row' ≡ sets (put_bit row s.bits s.number true) s.slot (zeros s.wide)
        → (u : List ℕ) → SetAs (fixed_outcome f (given_means g u) (seat_as s) row) row row' (Ok tt)
    leaf-nulls a q u = fixed-null f (given_means g u) s row (a u) row' q

    pub leaf-bits : {v : ℕ} → ((u : List ℕ) → LeafIs f (given_means g u) (Some (L.Bits v)))
        → row' ≡ sets (put_bit row s.bits s.number false) s.slot (le s.wide v)
        → (u : List ℕ) → SetAs (fixed_outcome f (given_means g u) (seat_as s) row) row row' (Ok tt)
    leaf-bits {v} a q u =
        let l : width f ≤ s.wide = omega (arith, I.leaf.lined.width, line-width (place_in w) I.leaf.fixed, I.seat.wide) in
        fixed-bits f (given_means g u) s row v (a u) l row' q

-- ---- a string or binary

module _ (t : Text) (u : List ℕ) (o n : ℕ) (row : List ℕ) (g : Given) where
  pub text-null : g ≡ G.Null → SetAs (text_outcome t (given_means g u) o n row) row row (Err F.Resize)
  unfolding text_outcome decided
  text-null e = rw e (record { answers = refl; after = refl })

  -- a setting that is neither null nor bytes
  pub text-other : (g ≡ G.Null → ⊥) → (g ≡ G.Bytes → ⊥) → SetAs (text_outcome t (given_means g u) o n row) row row (Err F.Unfit)
  unfolding text_outcome decided
  text-other a b = go g refl
    where
      go : (h : Given) → g ≡ h → SetAs (text_outcome t (given_means g u) o n row) row row (Err F.Unfit)
      go G.Null e = absurd (a e)
      go (G.Bool v) e = rw e (record { answers = refl; after = refl })
      go (G.Number z) e = rw e (record { answers = refl; after = refl })
      go (G.Float32 x) e = rw e (record { answers = refl; after = refl })
      go (G.Float64 x) e = rw e (record { answers = refl; after = refl })
      go G.Bytes e = absurd (b e)

  -- b: whether the bytes fit
  module _ (e : g ≡ G.Bytes) {b : Bool} (f : b ≡ is_yes (spells? t u)) where
    pub text-unfit : not b ≡ true → SetAs (text_outcome t (given_means g u) o n row) row row (Err F.Unfit)
    unfolding text_outcome decided
    text-unfit m = rw (e, ← f, not-true b m) (record { answers = refl; after = refl })

    pub text-size : not b ≡ false → (length u ≡ n → ⊥) → SetAs (text_outcome t (given_means g u) o n row) row row (Err F.Resize)
    unfolding text_outcome decided
    text-size m h = rw (e, ← f, not-false b m, ne_eqb (length u) n h) (record { answers = refl; after = refl })

    pub text-bytes : not b ≡ false → length u ≡ n → (row' : List ℕ) → row' ≡ sets row o (part u 0 n)
        → SetAs (text_outcome t (given_means g u) o n row) row row' (Ok tt)
    unfolding text_outcome decided
    text-bytes m h row' q =
        let w : part u 0 n ≡ u = rw (← h) (part-whole u) in
        rw (e, ← f, not-false b m, eq-eqb (length u) n h) (record { answers = refl; after = q ∙ ap (sets row o) w })

-- ---- a null one

module _ (t : Text) (u : List ℕ) (s : Seat) (row : List ℕ) (g : Given) where
  pub no-text-null : g ≡ G.Null → (row' : List ℕ) → row' ≡ sets row s.slot (zeros s.wide)
      → SetAs (no_text_outcome t (given_means g u) (seat_as s) row) row row' (Ok tt)
  unfolding no_text_outcome decided
  no-text-null e row' q = rw e (record { answers = refl; after = q })

  -- a setting that is neither null nor bytes
  pub no-text-other : (g ≡ G.Null → ⊥) → (g ≡ G.Bytes → ⊥) → SetAs (no_text_outcome t (given_means g u) (seat_as s) row) row row (Err F.Unfit)
  unfolding no_text_outcome decided
  no-text-other a b = go g refl
    where
      go : (h : Given) → g ≡ h → SetAs (no_text_outcome t (given_means g u) (seat_as s) row) row row (Err F.Unfit)
      go G.Null e = absurd (a e)
      go (G.Bool v) e = rw e (record { answers = refl; after = refl })
      go (G.Number z) e = rw e (record { answers = refl; after = refl })
      go (G.Float32 x) e = rw e (record { answers = refl; after = refl })
      go (G.Float64 x) e = rw e (record { answers = refl; after = refl })
      go G.Bytes e = absurd (b e)

  module _ (e : g ≡ G.Bytes) {b : Bool} (f : b ≡ is_yes (spells? t u)) where
    pub no-text-unfit : not b ≡ true → SetAs (no_text_outcome t (given_means g u) (seat_as s) row) row row (Err F.Unfit)
    unfolding no_text_outcome decided
    no-text-unfit m = rw (e, ← f, not-true b m) (record { answers = refl; after = refl })

    pub no-text-bytes : not b ≡ false → SetAs (no_text_outcome t (given_means g u) (seat_as s) row) row row (Err F.Resize)
    unfolding no_text_outcome decided
    no-text-bytes m = rw (e, ← f, not-false b m) (record { answers = refl; after = refl })
