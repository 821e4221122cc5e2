-- The laws of the children of a container, proved once for struct and list, whatever the children are. Assumes nothing.
use mathlib.Core.Path.{◌≡◌, refl, ap, ◌∙◌}
use mathlib.Core.List.{List, [], ◌∷◌, ◌++◌, append_assoc, append-nil, map}
use Prim.Native.Nat.{ℕ, zero, suc, ◌+◌, ◌*◌, ◌-◌, ◌/◌, ◌%◌, ◌^◌, ◌≤◌, ◌<◌}
use native.Mathlib.Omega.{arith}
use native.Mathlib.Nat.{pow-succ'}
use lib.Pow.{pow_mono}
use lib.ListN.{length, length-append, length-replicate}
use Rattle.words.specs.Bytes.{Bytes, empty, bitmap}
use Rattle.words.proofs.Numbers.{bytes-append, bytes-zeros}
use Rattle.words.proofs.NumLaws.{pow256}
use Rattle.layout.specs.Faults.{byte, got, cut_at}
use Rattle.layout.specs.Tiles.{Range, total}
use Rattle.layout.specs.Cells.{Cell, null, leaf, nodes, on_null, flag, clean}
use Rattle.layout.specs.Layout.{Kid, kid_fits, kid_slot, kid_tail, kid_lays, kid_get, AllFit, flags, slots, tails, AllLay, reads}
use Rattle.layout.proofs.Cells.{present, flag-bit}
use Rattle.layout.proofs.Reader.{length-zero}
use Rattle.layout.proofs.Tiles.{Packed}
use Rattle.layout.proofs.Faults.{When, yields, when-bind, when-map, when-any, cut-back, cut-forth}
use Rattle.layout.proofs.Kids.{LawfulKid, Cleaned, Kept, Adds, same, Next, Takes}

-- ---- a child that may be null

module _ (w : ℕ) (k : Kid) (l : LawfulKid w k) where
  pub kid-wide : (at : ℕ) (c : Cell) → kid_fits w k c → length (kid_slot k at c) ≡ w
  unfolding on_null
  kid-wide at (null u) f = f.wide
  kid-wide at (leaf u) f = l.wide at (leaf u) f
  kid-wide at (nodes u) f = l.wide at (nodes u) f

  pub kid-eight : (c : Cell) → length (kid_tail k c) % 8 ≡ 0
  unfolding on_null
  kid-eight (null u) = omega arith
  kid-eight (leaf u) = l.eight (leaf u)
  kid-eight (nodes u) = l.eight (nodes u)

  kid-slotted : (at : ℕ) (c : Cell) → kid_fits w k c → Bytes (kid_slot k at c)
  unfolding on_null
  kid-slotted at (null u) f = f.proper
  kid-slotted at (leaf u) f = l.slotted at (leaf u) f
  kid-slotted at (nodes u) f = l.slotted at (nodes u) f

  kid-proper : (c : Cell) → kid_fits w k c → Bytes (kid_tail k c)
  unfolding on_null
  kid-proper (null u) f = empty
  kid-proper (leaf u) f = l.proper (leaf u) f
  kid-proper (nodes u) f = l.proper (nodes u) f

  kid-cleaned : (c : Cell) → kid_fits w k c → Cleaned (kid_fits w k) (kid_tail k) c
  unfolding on_null clean
  kid-cleaned (null u) f = record { fits = record { wide = length-replicate (length u) 0 ∙ f.wide; proper = bytes-zeros (length u) }; size = refl }
  kid-cleaned (leaf u) f = let a = l.cleaned (leaf u) f in record { fits = a.fits; size = a.size }
  kid-cleaned (nodes u) f = let a = l.cleaned (nodes u) f in record { fits = a.fits; size = a.size }

  kid-fits : (at : ℕ) (d : List ℕ) (rs : List Range) (c : Cell) (s : List ℕ) (rs' : List Range) → kid_lays w k at d rs c s rs' → kid_fits w k c
  unfolding on_null
  kid-fits at d rs (null u) s rs' y = y.fits
  kid-fits at d rs (leaf u) s rs' y = l.fits at d rs (leaf u) s rs' y
  kid-fits at d rs (nodes u) s rs' y = l.fits at d rs (nodes u) s rs' y

  pub kid-size : (at : ℕ) (d : List ℕ) (rs : List Range) (c : Cell) (s : List ℕ) (rs' : List Range) → kid_lays w k at d rs c s rs'
      → Takes w rs s rs' (length (kid_tail k c))
  unfolding on_null
  kid-size at d rs (null u) s rs' y = record { slot = rw (← y.is) y.fits.wide; adds = rw y.same (omega arith) }
  kid-size at d rs (leaf u) s rs' y = l.size at d rs (leaf u) s rs' y
  kid-size at d rs (nodes u) s rs' y = l.size at d rs (nodes u) s rs' y

  kid-laid : (at : ℕ) (d e : List ℕ) (rs : List Range) (c : Cell) → kid_fits w k c → Packed at rs → total rs ≡ length d → (at + total rs) % 8 ≡ 0
      → Next (kid_lays w k at (d ++ (kid_tail k c ++ e)) rs c (kid_slot k (at + total rs) c)) at rs (length (kid_tail k c))
  unfolding on_null
  kid-laid at d e rs (null u) f p n o = record { ranges = rs; lays = record { fits = f; is = refl; same = refl }; packed = p; takes = omega arith }
  kid-laid at d e rs (leaf u) f p n o = l.laid at d e rs (leaf u) f p n o
  kid-laid at d e rs (nodes u) f p n o = l.laid at d e rs (nodes u) f p n o

  pub kid-adds : (at : ℕ) (d : List ℕ) (rs : List Range) (c : Cell) (s : List ℕ) (rs' : List Range) → kid_lays w k at d rs c s rs'
      → Adds at (at + length d) rs rs'
  unfolding on_null
  kid-adds at d rs (null u) s rs' y = rw (← y.same) same
  kid-adds at d rs (leaf u) s rs' y = l.adds at d rs (leaf u) s rs' y
  kid-adds at d rs (nodes u) s rs' y = l.adds at d rs (nodes u) s rs' y

  pub kid-keep : (at : ℕ) (d e : List ℕ) (rs : List Range) (c : Cell) (s : List ℕ) (rs' : List Range) → length e ≡ length d
      → ((q : Range) → q ∷ rs ≡ rs' → Kept at d e q)
      → kid_lays w k at d rs c s rs' → kid_lays w k at e rs c s rs'
  unfolding on_null
  kid-keep at d e rs (null u) s rs' n g y = y
  kid-keep at d e rs (leaf u) s rs' n g y = l.keep at d e rs (leaf u) s rs' n g y
  kid-keep at d e rs (nodes u) s rs' n g y = l.keep at d e rs (nodes u) s rs' n g y

  kid-back : (j at : ℕ) (d : List ℕ) (rs : List Range) (c : Cell) (s : List ℕ) (rs' : List Range) → kid_lays w k at d rs c s rs' → at + length d < 2 ^ 32
      → kid_get k (flag c) j at d rs s ≡ got (c, rs')
  unfolding on_null kid_get
  kid-back j at d rs (null u) s rs' y b = rw (y.is, y.same)
  kid-back j at d rs (leaf u) s rs' y b = l.back j at d rs (leaf u) s rs' y b
  kid-back j at d rs (nodes u) s rs' y b = l.back j at d rs (nodes u) s rs' y b

  kid-forth : (m j at : ℕ) (d : List ℕ) (rs : List Range) (s : List ℕ) → m < 2 → length s ≡ w → Bytes s → Bytes d
      → When (λ p. (flag p.0 ≡ m) × kid_lays w k at d rs p.0 s p.1) (kid_get k m j at d rs s)
  unfolding kid_get on_null
  kid-forth zero j at d rs s h n hs hd = when-map (l.forth j at d rs s n hs hd) λ (c, rs') y.
      let e = l.here c (l.fits at d rs c s rs' y) in
      (e, rw (present _ _ c e) y)
  kid-forth (suc m) j at d rs s h n hs hd = yields {a = (null s, rs)} (omega arith, record { fits = record { wide = n; proper = hs }; is = refl; same = refl })

-- ---- children in order

abbrev pub AllLawful : ℕ → List Kid → Type 0
AllLawful w [] = Unit {0}
AllLawful w (k ∷ ks) = LawfulKid w k × AllLawful w ks

pub all-length : (w : ℕ) (ks : List Kid) (cs : List Cell) → AllFit w ks cs → length cs ≡ length ks
unfolding AllFit
all-length w [] [] f = refl
all-length w (k ∷ ks) (c ∷ cs) f = ap suc (all-length w ks cs f.1)
all-length w [] (c ∷ cs) f = elim f [ ]
all-length w (k ∷ ks) [] f = elim f [ ]

-- slots of w bytes, and data for what the ranges add
pub record AllTake (w : ℕ) (ks : List Kid) (cs : List Cell) (s : List ℕ) (rs rs' : List Range) : Type 0 where
  pub slots : length s ≡ length ks * w
  pub adds : total rs' ≡ total rs + length (tails ks cs)

module _ (w at : ℕ) (d : List ℕ) where
  pub all_fit : (ks : List Kid) (cs : List Cell) (s : List ℕ) (rs rs' : List Range) → AllLawful w ks → AllLay w at d ks cs s rs rs' → AllFit w ks cs
  unfolding AllFit AllLay
  all_fit [] [] s rs rs' l y = tt
  all_fit (k ∷ ks) (c ∷ cs) s rs rs' l y = (
    kid-fits w k l.0 at d rs c y.slot y.ranges y.one,
    all_fit ks cs y.left y.ranges rs' l.1
        y.others,
  )
  all_fit [] (c ∷ cs) s rs rs' l y = elim y [ ]
  all_fit (k ∷ ks) [] s rs rs' l y = elim y [ ]

  pub all_take : (ks : List Kid) (cs : List Cell) (s : List ℕ) (rs rs' : List Range) → AllLawful w ks → AllLay w at d ks cs s rs rs' → AllTake w ks cs s rs rs'
  unfolding AllLay tails
  all_take [] [] s rs rs' l y = record { slots = rw y.0 (omega arith); adds = rw y.1 (omega arith) }
  all_take (k ∷ ks) (c ∷ cs) s rs rs' l y =
      let a = kid-size w k l.0 at d rs c y.slot y.ranges y.one in
      let b = all_take ks cs y.left y.ranges rs' l.1 y.others in
      record {
        slots = rw (← y.whole, length-append) (omega (arith, a.slot, b.slots));
        adds = rw length-append (omega (arith, a.adds, b.adds));
      }
  all_take [] (c ∷ cs) s rs rs' l y = elim y [ ]
  all_take (k ∷ ks) [] s rs rs' l y = elim y [ ]

  pub reads-back : (ks : List Kid) (j : ℕ) (cs : List Cell) (s : List ℕ) (rs rs' : List Range) → AllLawful w ks → AllLay w at d ks cs s rs rs'
      → at + length d < 2 ^ 32
      → reads w at d ks j (flags cs) s rs ≡ got (cs, rs')
  unfolding AllLay flags reads
  reads-back [] j [] s rs rs' l y b = rw y.1
  reads-back (k ∷ ks) j (c ∷ cs) s rs rs' l y b =
      let low : (flag c + 2 * flags cs) % 2 ≡ flag c = omega (arith, flag-bit c) in
      let high : (flag c + 2 * flags cs) / 2 ≡ flags cs = omega (arith, flag-bit c) in
      rw (
        ← y.whole,
        cut-back (byte j) w y.slot y.left (kid-size w k l.0 at d rs c y.slot y.ranges y.one).slot,
        low,
        high,
        kid-back w k l.0 j at d rs c y.slot y.ranges y.one b,
        reads-back ks (j + w) cs y.left y.ranges rs' l.1 y.others b,
      )
  reads-back [] j (c ∷ cs) s rs rs' l y b = elim y [ ]
  reads-back (k ∷ ks) j [] s rs rs' l y b = elim y [ ]

  pub reads-forth : (ks : List Kid) (j m : ℕ) (s : List ℕ) (rs : List Range) → AllLawful w ks → m < 2 ^ length ks → length s ≡ length ks * w → Bytes s → Bytes d
      → When (λ p. (flags p.0 ≡ m) × AllLay w at d ks p.0 s rs p.1) (reads w at d ks j m s rs)
  unfolding AllLay flags reads
  reads-forth [] j m s rs l f n hs hd = yields {a = ([], rs)} (omega arith, (length-zero s (omega arith), refl))
  reads-forth (k ∷ ks) j m s rs l f n hs hd =
      let f' : m / 2 < 2 ^ length ks = omega (arith, rw (pow-succ' 2 (length ks)) at f) in
      when-bind (cut-forth (byte j) w hs) λ (s₀, left) p.
      when-bind (kid-forth w k l.0 (m % 2) j at d rs s₀ (omega arith) p.size p.front hd) λ (c, ranges) q.
      when-bind (reads-forth ks (j + w) (m / 2) left ranges l.1 f' (omega (arith, p.size, length-append s₀ left, ap length p.whole)) p.rest hd)
      λ (cs, rs') r.
      yields {a = (c ∷ cs, rs')} (omega (arith, q.0, r.0), record { slot = s₀; left = left; ranges = ranges; whole = p.whole; one = q.1; others = r.1 })

-- as many are read as there are to read
pub reads-count : (w at : ℕ) (d : List ℕ) (ks : List Kid) (j m : ℕ) (s : List ℕ) (rs : List Range)
    → When (λ p. length p.0 ≡ length ks) (reads w at d ks j m s rs)
unfolding reads
reads-count w at d [] j m s rs = yields {a = ([], rs)} refl
reads-count w at d (k ∷ ks) j m s rs = when-any (cut_at (byte j) w s) λ (s₀, left). when-any (kid_get k (m % 2) j at d rs s₀) λ (c, ranges).
    when-bind (reads-count w at d ks (j + w) (m / 2) left ranges) λ (cs, rs') e. yields {a = (c ∷ cs, rs')} (ap suc e)

-- written in order, they stand, and take all the data
pub record Laid (w at : ℕ) (d : List ℕ) (ks : List Kid) (cs : List Cell) (s : List ℕ) (rs : List Range) : Type 0 where
  pub ranges : List Range
  pub children : AllLay w at d ks cs s rs ranges
  pub ends : total ranges ≡ length d

pub all_laid : (w at : ℕ) (d : List ℕ) (ks : List Kid) (cs : List Cell) (rs : List Range) → AllLawful w ks → AllFit w ks cs → Packed at rs → total rs ≡ length d
    → (at + total rs) % 8 ≡ 0 → Laid w at (d ++ tails ks cs) ks cs (slots (at + total rs) ks cs) rs
unfolding AllFit AllLay slots tails
all_laid w at d [] [] rs l f p n o = record { ranges = rs; children = (refl, refl); ends = rw append-nil n }
all_laid w at d (k ∷ ks) (c ∷ cs) rs l f p n o =
    let t = kid_tail k c in
    let a = kid-laid w k l.0 at d (tails ks cs) rs c f.0 p n o in
    let e : at + total a.ranges ≡ at + total rs + length t = omega (arith, a.takes) in
    let y = all_laid w at (d ++ t) ks cs a.ranges l.1 f.1 a.packed (rw length-append (omega (arith, a.takes)))
    (rw e (omega (arith, kid-eight w k l.0 c))) in
    let z = rw (e, append_assoc) at y in
    record {
      ranges = z.ranges;
      children = record {
        slot = kid_slot k (at + total rs) c;
        left = slots (at + total rs + length t) ks cs;
        ranges = a.ranges;
        whole = refl;
        one =
            a.lays;
        others = z.children;
      };
      ends = z.ends;
    }
all_laid w at d [] (c ∷ cs) rs l f p n o = elim f [ ]
all_laid w at d (k ∷ ks) [] rs l f p n o = elim f [ ]

pub slots_length : (w at : ℕ) (ks : List Kid) (cs : List Cell) → AllLawful w ks → AllFit w ks cs → length (slots at ks cs) ≡ length ks * w
unfolding AllFit slots
slots_length w at [] [] l f = omega arith
slots_length w at (k ∷ ks) (c ∷ cs) l f =
    rw (length-append, kid-wide w k l.0 at c f.0, slots_length w (at + length (kid_tail k c)) ks cs l.1 f.1) (omega arith)
slots_length w at [] (c ∷ cs) l f = elim f [ ]
slots_length w at (k ∷ ks) [] l f = elim f [ ]

pub tails-eight : (w : ℕ) (ks : List Kid) (cs : List Cell) → AllLawful w ks → length (tails ks cs) % 8 ≡ 0
unfolding tails
tails-eight w [] cs l = omega arith
tails-eight w (k ∷ ks) [] l = omega arith
tails-eight w (k ∷ ks) (c ∷ cs) l = rw length-append (omega (arith, kid-eight w k l.0 c, tails-eight w ks cs l.1))

-- what is laid down is bytes
pub slots-proper : (w at : ℕ) (ks : List Kid) (cs : List Cell) → AllLawful w ks → AllFit w ks cs → Bytes (slots at ks cs)
unfolding AllFit slots
slots-proper w at [] [] l f = empty
slots-proper w at (k ∷ ks) (c ∷ cs) l f = bytes-append (kid-slotted w k l.0 at c f.0) (slots-proper w (at + length (kid_tail k c)) ks cs l.1 f.1)
slots-proper w at [] (c ∷ cs) l f = elim f [ ]
slots-proper w at (k ∷ ks) [] l f = elim f [ ]

pub tails-proper : (w : ℕ) (ks : List Kid) (cs : List Cell) → AllLawful w ks → AllFit w ks cs → Bytes (tails ks cs)
unfolding AllFit tails
tails-proper w [] [] l f = empty
tails-proper w (k ∷ ks) (c ∷ cs) l f = bytes-append (kid-proper w k l.0 c f.0) (tails-proper w ks cs l.1 f.1)
tails-proper w [] (c ∷ cs) l f = elim f [ ]
tails-proper w (k ∷ ks) [] l f = elim f [ ]

-- zeros under the nulls: they still fit, and their data takes as many bytes
pub record AllCleaned (w : ℕ) (ks : List Kid) (cs : List Cell) : Type 0 where
  pub fit : AllFit w ks (map clean cs)
  pub size : length (tails ks (map clean cs)) ≡ length (tails ks cs)

pub all-cleaned : (w : ℕ) (ks : List Kid) (cs : List Cell) → AllLawful w ks → AllFit w ks cs → AllCleaned w ks cs
unfolding AllFit tails
all-cleaned w [] [] l f = record { fit = tt; size = refl }
all-cleaned w (k ∷ ks) (c ∷ cs) l f =
    let a = kid-cleaned w k l.0 c f.0 in
    let b = all-cleaned w ks cs l.1 f.1 in
    record { fit = (a.fits, b.fit); size = rw (length-append, length-append, a.size, b.size) }
all-cleaned w [] (c ∷ cs) l f = elim f [ ]
all-cleaned w (k ∷ ks) [] l f = elim f [ ]

-- ---- the bitmap as a number

pub flags-lt : (cs : List Cell) → flags cs < 2 ^ length cs
unfolding flags
flags-lt [] = omega arith
flags-lt (c ∷ cs) = rw (pow-succ' 2 (length cs)) (omega (arith, flag-bit c, flags-lt cs))

-- the bitmap holds the flags
pub flags-fit : (cs : List Cell) → flags cs < 256 ^ bitmap (length cs)
flags-fit cs =
    let n = length cs in
    let p : 2 ^ n ≤ 2 ^ (8 * bitmap n) = pow_mono {i = n} {j = 8 * bitmap n} (omega arith) in
    rw (pow256 (bitmap n)) (omega (arith, flags-lt cs))
