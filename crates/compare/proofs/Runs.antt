-- What a run leads to, said of its end alone: how many entries and bytes it takes at least, and what it leaves of the entries before it.
-- Assumes nothing.
use Rattle.std.proofs.Common.{◌≡◌, ℕ, zero, suc, ◌+◌, ◌-◌, ◌*◌, ◌/◌, ◌%◌, ◌<◌, ◌≤◌, List, length, get_or, drop, set, sym, refl, ap, ◌∙◌, subst, add-one, arith, get_or-set_other, get_or-set_same}
use native.Mathlib.Decide.{ℕ_discrete, dec_lt}
use lib.Seq.{sets, set_out}
use Rattle.words.proofs.Runs.{sets-low}
use Rattle.schema.specs.Types.{Tys, end, ◌then◌, count}
use Rattle.schema.specs.Reading.{ParsedAll, nones, somes, afters, parse_type, parse_all}
use Rattle.schema.specs.Walk.{sizes}
use Rattle.schema.proofs.Parse.{SoundAll, sound, all_sound}
use Rattle.table.specs.Tables.{manys, entries_all}
use Rattle.table.proofs.Spots.{many-one}
use Rattle.table.proofs.Places.{manys-sizes}
use Rattle.table.proofs.Filling.{Filled, nothing, filled, onward, fill, patch}
use Rattle.table.proofs.Running.{cont, run}

-- the types that are still owed to the holders of the open containers
unfoldable pub owed : List ℕ → ℕ → ℕ
owed F zero = 0
owed F (suc d) = get_or F (suc d) 0 % 256 + owed F d

-- a frame above those that count
owed-above : (F : List ℕ) (r x d : ℕ) → d < r → owed (set F r x) d ≡ owed F d
unfolding owed
owed-above F r x zero l = refl
owed-above F r x (suc d) l =
    let e : get_or (set F r x) (suc d) 0 ≡ get_or F (suc d) 0 = get_or-set_other F r (suc d) x 0 (λ e. absurd (omega arith)) in
    rw (e, owed-above F r x d (omega arith))

pub owed-push : (F : List ℕ) (d x : ℕ) → length F ≡ 8 → d + 1 < 8 → owed (set F (d + 1) x) (d + 1) ≡ x % 256 + owed F d
unfolding owed
owed-push F d x e l = rw (add-one d, get_or-set_same F (suc d) x 0 (omega arith), owed-above F (suc d) x d (omega arith))

pub owed-pop : (F : List ℕ) (d : ℕ) → 0 < d → owed F d ≡ get_or F d 0 % 256 + owed F (d - 1)
unfolding owed
owed-pop F zero l = absurd (omega arith)
owed-pop F (suc d) l = let e : suc d - 1 ≡ d = omega arith in rw e

-- an entry for each type that is left or owed, and two bytes for each entry
pub record Bounds (F : List ℕ) (d at i n a j : ℕ) : Type 0 where
  pub types : i + n + owed F d ≤ j
  pub bytes : at + 2 * j ≤ a + 2 * i

-- ---- ends

-- what holds of an end, if there is one
abbrev Ended : (ℕ → ℕ → List ℕ → Type 0) → Filled → Type 0
Ended Q nothing = Unit {0}
Ended Q (filled a j U) = Q a j U

ended-onward : (Q R : ℕ → ℕ → List ℕ → Type 0) (x : Filled) (f : ℕ → ℕ → List ℕ → Filled) → Ended Q x
    → ((a j : ℕ) (U : List ℕ) → Q a j U → Ended R (f a j U)) → Ended R (onward x f)
ended-onward Q R nothing f h k = tt
ended-onward Q R (filled a j U) f h k = k a j U h

ended-weaker : (Q R : ℕ → ℕ → List ℕ → Type 0) (x : Filled) → Ended Q x → ((a j : ℕ) (U : List ℕ) → Q a j U → R a j U) → Ended R x
ended-weaker Q R nothing h k = tt
ended-weaker Q R (filled a j U) h k = k a j U h

-- ---- one filling: it stores from its first place on

-- n types laid from the place i on
record Laid (at i n : ℕ) (T : List ℕ) (a j : ℕ) (U : List ℕ) : Type 0 where
  types : i + n ≤ j
  bytes : at + 2 * j ≤ a + 2 * i
  kept : (p : ℕ) → p < i → get_or U p 0 ≡ get_or T p 0

pub manys-count : (ts : Tys) → count ts ≤ manys ts
unfolding manys count
manys-count end = omega arith
manys-count (X then ts) = omega (arith, many-one X, manys-count ts)

fill-laid : (s : List ℕ) (at i n D e : ℕ) (T : List ℕ) → Ended (Laid at i n T) (fill s at i n D e T)
unfolding fill
fill-laid s at i n D e T = go (parse_all (parse_type D) n (drop at s)) (all_sound D (parse_type D) (sound D) n (drop at s))
  where
    go : (x : ParsedAll) → SoundAll D n (drop at s) x
        → Ended (Laid at i n T) (afters x nothing (λ ts r. filled (at + sizes ts) (i + manys ts) (sets T i (entries_all e i ts))))
    go nones h = tt
    go (somes ts r) h = record {
      types = omega (arith, manys-count ts, h.many);
      bytes = omega (arith, manys-sizes ts);
      kept = sets-low T i (entries_all e i ts);
    }

-- ---- a patch: it stores at one place, and only above the low 54 bits

patch-other : (U : List ℕ) (q j p : ℕ) → (q ≡ p → ⊥) → get_or (patch U q j) p 0 ≡ get_or U p 0
unfolding patch
patch-other U q j p h = get_or-set_other U q p ((get_or U q 0 + j * 18014398509481984) % 18446744073709551616) 0 (λ e. h (sym e))

patch-low : (U : List ℕ) (q j p : ℕ) → get_or (patch U q j) p 0 % 18014398509481984 ≡ get_or U p 0 % 18014398509481984
patch-low U q j p = go (ℕ_discrete q p) (dec_lt p (length U))
  where
    low : (x : ℕ) → (x + j * 18014398509481984) % 18446744073709551616 % 18014398509481984 ≡ x % 18014398509481984
    low x = omega arith

    go : Dec (q ≡ p) → Dec (p < length U) → get_or (patch U q j) p 0 % 18014398509481984 ≡ get_or U p 0 % 18014398509481984
    go (no h) b = ap (λ (u : ℕ). u % 18014398509481984) (patch-other U q j p h)
    go (yes h) (yes b) = unfold patch in
        rw h (ap (λ (u : ℕ). u % 18014398509481984) (get_or-set_same U p ((get_or U p 0 + j * 18014398509481984) % 18446744073709551616) 0 b)
        ∙ low (get_or U p 0))
    go (yes h) (no b) = unfold patch in
        rw h (ap (λ (u : List ℕ). get_or u p 0 % 18014398509481984)
        (set_out U p ((get_or U p 0 + j * 18014398509481984) % 18446744073709551616) (omega arith)))

-- ---- a run

record Grown (F : List ℕ) (d at i n : ℕ) (T : List ℕ) (a j : ℕ) (U : List ℕ) : Type 0 where
  bounds : Bounds F d at i n a j
  low : (p : ℕ) → p < i → get_or U p 0 % 18014398509481984 ≡ get_or T p 0 % 18014398509481984
  same : (p : ℕ) → p < i → ((q : ℕ) → q ≤ d → get_or F q 0 / 256 ≡ p → ⊥) → get_or U p 0 ≡ get_or T p 0

-- the types left in a container are laid, and what follows is known from there on
grown-laid : {F : List ℕ} {d at i n : ℕ} {T : List ℕ} {a j : ℕ} {U : List ℕ} {b k : ℕ} {W : List ℕ}
    → Laid at i n T a j U → Grown F d a j 0 U b k W → Grown F d at i n T b k W
grown-laid l g = record {
  bounds = record { types = omega (arith, l.types, g.bounds.types); bytes = omega (arith, l.bytes, g.bounds.bytes) };
  low = λ p h. g.low p (omega (arith, l.types)) ∙ ap (λ (u : ℕ). u % 18014398509481984) (l.kept p h);
  same = λ p h f. g.same p (omega (arith, l.types)) f ∙ l.kept p h;
}

-- the outermost container is patched
grown-end : (F : List ℕ) (at i : ℕ) (T : List ℕ) → Grown F 0 at i 0 T at i (patch T (get_or F 0 0 / 256) i)
unfolding owed
grown-end F at i T = record {
  bounds = record { types = omega arith; bytes = omega arith };
  low = λ p h. patch-low T (get_or F 0 0 / 256) i p;
  same = λ p h f. patch-other T (get_or F 0 0 / 256) i p (f 0 (omega arith));
}

-- another is, and what is left in its holder follows
grown-pop : {F : List ℕ} {d at i : ℕ} {T : List ℕ} {b k : ℕ} {W : List ℕ}
    → Grown F d at i (get_or F (suc d) 0 % 256) (patch T (get_or F (suc d) 0 / 256) i) b k W → Grown F (suc d) at i 0 T b k W
unfolding owed
grown-pop {F} {d} {at} {i} {T} g = record {
  bounds = record { types = omega (arith, g.bounds.types); bytes = g.bounds.bytes };
  low = λ p h. g.low p h ∙ patch-low T (get_or F (suc d) 0 / 256) i p;
  same = λ p h f. g.same p h (λ q l. f q (omega arith)) ∙ patch-other T (get_or F (suc d) 0 / 256) i p (f (suc d) (omega arith));
}

onward-grown : (s F : List ℕ) (d : ℕ) → ((a j : ℕ) (U : List ℕ) → Ended (Grown F d a j 0 U) (cont s F d a j U))
    → (at i n D e : ℕ) (T : List ℕ) → Ended (Grown F d at i n T) (onward (fill s at i n D e T) (cont s F d))
onward-grown s F d h at i n D e T =
    ended-onward (Laid at i n T) (Grown F d at i n T) (fill s at i n D e T) (cont s F d) (fill-laid s at i n D e T)
    (λ a j U l. ended-weaker (Grown F d a j 0 U) (Grown F d at i n T) (cont s F d a j U) (h a j U) (λ b k W g. grown-laid l g))

cont-grown : (s F : List ℕ) (d a j : ℕ) (U : List ℕ) → Ended (Grown F d a j 0 U) (cont s F d a j U)
unfolding cont
cont-grown s F zero a j U = grown-end F a j U
cont-grown s F (suc d) a j U =
    ended-weaker (Grown F d a j (get_or F (suc d) 0 % 256) (patch U (get_or F (suc d) 0 / 256) j)) (Grown F (suc d) a j 0 U)
    (onward (fill s a j (get_or F (suc d) 0 % 256) (7 - d) (d + 2) (patch U (get_or F (suc d) 0 / 256) j)) (cont s F d))
    (onward-grown s F d (λ b k W. cont-grown s F d b k W) a j (get_or F (suc d) 0 % 256) (7 - d) (d + 2) (patch U (get_or F (suc d) 0 / 256) j))
    (λ b k W g. grown-pop g)

module _ (s F : List ℕ) (d at i n : ℕ) (T : List ℕ) {a j : ℕ} {U : List ℕ} (e : run s F d at i n T ≡ filled a j U) where
  grown : Grown F d at i n T a j U
  unfolding run
  grown = subst (Ended (Grown F d at i n T)) e (onward-grown s F d (cont-grown s F d) at i n (7 - d) (d + 2) T)

  pub run-bounds : Bounds F d at i n a j
  run-bounds = grown.bounds

  -- of an entry before the run only the end may change
  pub run-low : (p : ℕ) → p < i → get_or U p 0 % 18014398509481984 ≡ get_or T p 0 % 18014398509481984
  run-low = grown.low

  -- and that only where a container is open
  pub run-same : (p : ℕ) → p < i → ((q : ℕ) → q ≤ d → get_or F q 0 / 256 ≡ p → ⊥) → get_or U p 0 ≡ get_or T p 0
  run-same = grown.same
