-- The loop over a container's slots: its invariant, and one law for each way through its body. Assumes nothing.
use mathlib.Core.Path.{◌≡◌, refl, sym, ap, ◌∙◌, subst}
use mathlib.Core.Bool.{Bool, true, false, not, true≢false}
use mathlib.Core.List.{List, ◌∷◌}
use Prim.Native.Nat.{ℕ, ◌+◌, ◌*◌, ◌^◌, ◌≤◌, ◌<◌}
use native.Mathlib.Decide.{ℕ_discrete}
use native.Mathlib.Omega.{arith}
use mir.Val.{Fits}
use mir.Syntax.{w64}
use lib.ListN.{length}
use borrow.Author.Tests.{not-true, not-false}
use Rattle.words.specs.Bytes.{zeros, bitmap}
use Rattle.words.specs.Bits.{bit}
use Rattle.layout.specs.Tiles.{Range}
use Rattle.layout.proofs.Units.{AllEven}
use Rattle.standing.specs.Maps.{with_range}
use Rattle.standing.specs.Standing.{SlotsIn, range_at, ranges_to, StandsAt, FirstUnfit, ChildRoom, PlacingChild}
use Rattle.standing.proofs.Marks.{Beside, places-yes}
use Rattle.standing.proofs.Shows.{MapShows, shows-start, stands-beside, stands-places, shows_beside}
use Rattle.standing.proofs.Unfit.{ranges-fixed, ranges-null, ranges-there}

-- the children before number i may all stand, and the maps m show their ranges
pub record Passed (h : ℕ) (vary : ℕ → Bool) (b : List ℕ) (n slots start i : ℕ) (m : List ℕ) : Type 0 where
  pub slots-in : SlotsIn h b n
  pub slots-are : slots ≡ h + bitmap n
  pub start_is : start ≡ h + bitmap n + 8 * n
  pub most : i ≤ n
  pub shows : MapShows m (ranges_to h slots vary b i)
  pub even : AllEven (ranges_to h slots vary b i)
  pub stand : (j : ℕ) → j < i → StandsAt h slots start vary b j

-- ---- before the loop

module _ {h : ℕ} {b : List ℕ} {n : ℕ} (s : SlotsIn h b n) where
  pub slots-few : n < 2 ^ 32
  slots-few = omega (arith, s.small, s.room)

  pub slots-long : Fits w64 (8 * n)
  slots-long = omega (arith, s.small, s.room)

  -- the slots stand behind the header, if there is one, and the bitmap
  module _ {x : ℕ} (e : x ≡ bitmap n) where
    pub slots-behind : h + x ≡ h + bitmap n
    slots-behind = omega arith

    pub slots-fit : Fits w64 (h + x)
    slots-fit = omega (arith, s.small, s.room)

    pub slots-first : h ≡ 0 → x ≡ h + bitmap n
    slots-first z = omega arith

  module _ {slots : ℕ} (e : slots ≡ h + bitmap n) where
    pub start_fits : Fits w64 (slots + 8 * n)
    start_fits = omega (arith, s.small, s.room)

    pub passed_start : (vary : ℕ → Bool) → Passed h vary b n slots (slots + 8 * n) 0 (zeros 792)
    unfolding ranges_to
    passed_start vary = record {
      slots-in = s;
      slots-are = e;
      start_is = omega arith;
      most = omega arith;
      shows = shows-start;
      even = tt;
      stand = λ j l. absurd (omega arith);
    }

-- ---- in the loop

module _ {h : ℕ} {vary : ℕ → Bool} {b : List ℕ} {n slots start i : ℕ} {m : List ℕ} (p : Passed h vary b n slots start i m) where
  -- as the contracts say it
  unfit : {r : ℕ} → FirstUnfit h slots start vary b n r → FirstUnfit h (h + bitmap n) (h + bitmap n + 8 * n) vary b n r
  unfit {r} u =
      subst (λ (x : ℕ). FirstUnfit h x (h + bitmap n + 8 * n) vary b n r) p.slots-are
      (subst (λ (x : ℕ). FirstUnfit h slots x vary b n r) p.start_is u)

  pub passed-all : n ≤ i → FirstUnfit h (h + bitmap n) (h + bitmap n + 8 * n) vary b n n
  passed-all l = unfit (record {
    most = omega arith;
    stand = λ j g. p.stand j (omega arith);
    fault = λ g s. omega arith;
  })

  pub passed-map : 792 ≡ length m
  passed-map = sym p.shows.long

  module _ (l : i < n) where
    pub passed-by : Fits w64 (8 * i)
    passed-by = omega (arith, p.slots-in.small, p.slots-in.room)

    pub passed-slot : Fits w64 (slots + 8 * i)
    passed-slot = omega (arith, p.slots-in.small, p.slots-in.room, p.slots-are)

    pub passed-asks : ChildRoom m b h i (slots + 8 * i)
    passed-asks = record {
      small = p.slots-in.small;
      whole = p.slots-in.whole;
      bit-room = omega (arith, p.slots-in.room);
      slot-room = omega (arith, p.slots-in.room, p.slots-are);
      maps = p.shows.long;
    }

    abbrev before : List Range
    before = ranges_to h slots vary b i

    abbrev own : Range
    own = range_at b (slots + 8 * i)

    -- one more, which stands if it has a range
    more : StandsAt h slots start vary b i → (j : ℕ) → j < i + 1 → StandsAt h slots start vary b j
    more s j g = go (ℕ_discrete j i)
      where
        go : Dec (j ≡ i) → StandsAt h slots start vary b j
        go (yes e) = subst (StandsAt h slots start vary b) (sym e) s
        go (no e) = p.stand j (omega arith)

    next : (rs : List Range) → ranges_to h slots vary b (i + 1) ≡ rs → {m' : List ℕ} → MapShows m' rs → AllEven rs → StandsAt h slots start vary b i
        → Passed h vary b n slots start (i + 1) m'
    next rs e {m'} w a s = record {
      slots-in = p.slots-in;
      slots-are = p.slots-are;
      start_is = p.start_is;
      most = omega arith;
      shows = subst (MapShows m') (sym e) w;
      even = subst AllEven (sym e) a;
      stand = more s;
    }

    -- a child of a fixed width
    pub passed-fixed : vary i ≡ false → Passed h vary b n slots start (i + 1) m
    passed-fixed v = next before (ranges-fixed h slots vary b i v) p.shows p.even (λ y z. absurd (true≢false (sym y ∙ v)))

    module _ (v : vary i ≡ true) {fits : Bool} {m' : List ℕ} (g : PlacingChild m b h i (slots + 8 * i) start fits m') where
      pub passed-unfit : not fits ≡ true → FirstUnfit h (h + bitmap n) (h + bitmap n + 8 * n) vary b n i
      passed-unfit q = unfit (record { most = p.most; stand = p.stand; fault = λ f s. go s (bit b h i) refl })
        where
          go : StandsAt h slots start vary b i → (z : Bool) → bit b h i ≡ z → ⊥
          go s true z = true≢false (sym (g.null z).0 ∙ not-true _ q)
          go s false z =
              let x = g.there z in
              stands-places p.shows p.even p.slots-in.small (omega arith) (sym x.is ∙ not-true _ q) (s v z)

      pub passed-next : not fits ≡ false → Passed h vary b n slots start (i + 1) m'
      passed-next q = go (bit b h i) refl
        where
          go : (z : Bool) → bit b h i ≡ z → Passed h vary b n slots start (i + 1) m'
          go true z =
              next before (ranges-null h slots vary b i z) (subst (λ (x : List ℕ). MapShows x before) (sym (g.null z).1) p.shows) p.even
              (λ y f. absurd (true≢false (sym z ∙ f)))
          go false z =
              let x = g.there z in
              let s : Beside m start (length b) own = places-yes (sym x.is ∙ not-false _ q) in
              next (own ∷ before) (ranges-there h slots vary b i v z)
              (shows_beside p.shows p.slots-in.small (omega arith) s (x.maps ∙ ap (with_range m own) (not-false _ q)))
              ((s.even, omega arith), p.even) (λ y f. stands-beside p.shows p.even p.slots-in.small (omega arith) s)
