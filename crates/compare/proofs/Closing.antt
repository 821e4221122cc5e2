-- Comparing, where it starts and where a container ends: its entry says where, and at the root's end all is compared. Assumes nothing.
use Rattle.std.proofs.Common.{◌≡◌, ℕ, ◌+◌, ◌-◌, ◌*◌, ◌/◌, ◌%◌, ◌<◌, ◌≤◌, Bool, true, false, eqb, List, [], ◌∷◌, length, get_or, take, set, sym, refl, ap, ◌∙◌, subst, arith, get_or-set_same, ne_eqb, eqb-true}
use native.Mathlib.Decide.{ℕ_discrete}
use borrow.Author.Tests.{eqb-false}
use Rattle.schema.specs.Reading.{judged}
use Rattle.schema.specs.declared.Judged.{Judged}
use Rattle.schema.specs.declared.Judged.TheVariants.{Accepted, Refused}
use Rattle.table.specs.Words.{MarkAt}
use Rattle.table.specs.Tables.{Built}
use Rattle.table.proofs.Lines.{held-is}
use Rattle.table.proofs.Filling.{Filled, nothing, filled}
use Rattle.table.proofs.Running.{run_end}
use Rattle.table.proofs.Building.{Going, Leaving, going-pop, going_done, pop-run}
use Rattle.table.proofs.Rooting.{Headed, Rooted, start-other, start-looking}
use Rattle.compare.specs.Lent.{Own, Gives}
use Rattle.compare.proofs.Runs.{owed, owed-pop, run-same}
use Rattle.compare.proofs.Opened.{opened, rising-pop, opened-length, opened-at, opened-pop, opened-end}
use Rattle.compare.proofs.Expected.{unbuilt, lands, landed}
use Rattle.compare.proofs.Following.{roomy, roomy-long, roomy-front, roomy-at, Follows, Faces, small}

-- ---- no type is left in the container at the place p

module _ {s t F : List ℕ} {d i x n base left : ℕ} (f : Follows s t F d i x n base left) (z : n ≡ 0) where
  abbrev p : ℕ
  p = get_or F d 0 / 256

  abbrev T : List ℕ
  T = opened (roomy t) F d

  abbrev v : ℕ
  v = (get_or T p 0 + i * 18014398509481984) % 18446744073709551616

  leaving : Leaving s T F d (2 * i + x) i n base v
  leaving = record { going = f.going; none = z; word = refl }

  before : p < i
  before = f.rising.below d (omega arith)

  pub place_in : p < length t
  place_in = omega (arith, before, f.asked, f.spare)

  in-room : p < length (roomy t)
  in-room = omega (arith, place_in, roomy-long t)

  low : i ≤ 512
  low = (small f).based.short

  there : get_or T p 0 ≡ get_or t p 0 % 18014398509481984
  there = opened-at (roomy t) F d in-room ∙ ap (λ (u : ℕ). u % 18014398509481984) (roomy-at t p place_in)

  -- its entry with its end is the one that stands there
  closed : get_or t p 0 / 18014398509481984 ≡ i → get_or (roomy t) p 0 ≡ v
  closed e =
      let q : (get_or t p 0 % 18014398509481984 + i * 18014398509481984) % 18446744073709551616 ≡ get_or t p 0 = omega (arith, low) in
      roomy-at t p place_in ∙ sym (ap (λ (u : ℕ). (u + i * 18014398509481984) % 18446744073709551616) there ∙ q)

  pub follow-pop : (d ≡ 0 → ⊥) → get_or t p 0 / 18014398509481984 ≡ i → Follows s t F (d - 1) i x (get_or F d 0 % 256) (base - 4294967296) left
  follow-pop h e =
      let l : 0 < d = omega arith in
      record {
        going = subst (λ (u : List ℕ). Going s u F (d - 1) (2 * i + x) i (get_or F d 0 % 256) (base - 4294967296))
            (opened-pop (roomy t) f.rising l (closed e)) (going-pop leaving h);
        rising = rising-pop f.rising;
        asked = omega (arith, f.asked, owed-pop F d l);
        spare = f.spare;
        beyond = f.beyond;
        root = f.root;
        whole = f.whole;
      }

  -- a schema's own table says that it ends here
  pub own-end : Own s t → (d ≡ 0 → ⊥) → get_or t p 0 / 18014398509481984 ≡ i
  own-end o h =
      let y = lands o f.going.ends in
      let l : 0 < d = omega arith in
      let r = sym (pop-run leaving l) ∙ y.is in
      let w : get_or y.table p 0 ≡ v = run-same _ _ _ _ _ _ _ r p before apart
      ∙ get_or-set_same T p v 0 (omega (arith, in-room, opened-length (roomy t) F d)) in
      let u : get_or t p 0 ≡ v = landed y p place_in ∙ w in
      let k : get_or t p 0 ≡ (get_or t p 0 % 18014398509481984 + i * 18014398509481984) % 18446744073709551616 =
      u ∙ ap (λ (u : ℕ). (u + i * 18014398509481984) % 18446744073709551616) there in
      omega (arith, low, k)
    where
      apart : (q : ℕ) → q ≤ d - 1 → get_or F q 0 / 256 ≡ p → ⊥
      apart q a b = omega (arith, f.rising.up q d (omega arith) (omega arith))

  -- ---- the root's end

  module _ (h : d ≡ 0) where
    root-place : p ≡ 0
    root-place = ap (λ (u : ℕ). get_or F u 0 / 256) h ∙ ap (λ (u : ℕ). u / 256) f.root

    none-owed : owed F d ≡ 0
    unfolding owed
    none-owed = rw h

    -- nothing is left of the table and of the schema
    is-own : left ≡ 1 → x ≡ length s - 2 * length t → Own s t
    is-own a b =
        let i-all : i ≡ length t = omega (arith, f.asked, none-owed) in
        let e : get_or t p 0 / 18014398509481984 ≡ i = ap (λ (u : ℕ). get_or t u 0 / 18014398509481984) root-place ∙ f.whole ∙ sym i-all in
        let q : 2 * i + x ≡ length s = omega (arith, f.beyond) in
        let k = subst (λ (u : List ℕ). Built s i u) (opened-end (roomy t) F d h (closed e)) (going_done leaving h q) in
        by k i-all (judged s) refl
      where
        by : Built s i (roomy t) → i ≡ length t → (j : Judged) → judged s ≡ j → Own s t
        by k e Refused y = absurd (omega (arith, k.refused y, before))
        by k e Accepted y = record { accepted = y; given = sym (roomy-front t) ∙ ap (λ (u : ℕ). take u (roomy t)) (sym e) ∙ (k.accepted y).given }

    ends : {a b : ℕ} {U W : List ℕ} → filled a b U ≡ filled (length s) (length t) W → (a ≡ length s) × (b ≡ length t)
    ends e = (ap at e, ap place e)
      where
        at : Filled → ℕ
        at nothing = 0
        at (filled a j U) = a

        place : Filled → ℕ
        place nothing = 0
        place (filled a j U) = j

    -- of a schema's own table nothing is
    own-all : Own s t → (left ≡ 1) × (x ≡ length s - 2 * length t)
    own-all o =
        let y = lands o f.going.ends in
        let e = ends (sym (run_end s F d (2 * i + x) i n T z h) ∙ y.is) in
        (omega (arith, f.asked, none-owed, e.1), omega (arith, e.0, e.1))

    -- so that this is told
    pub tells : left ≡ 1 → Gives s t (eqb x (length s - 2 * length t))
    tells a = go (eqb x (length s - 2 * length t)) refl
      where
        go : (b : Bool) → eqb x (length s - 2 * length t) ≡ b → Gives s t b
        go true e = is-own a (eqb-true x (length s - 2 * length t) e)
        go false e = λ o. eqb-false x (length s - 2 * length t) e (own-all o).1

    pub tells-not : (left ≡ 1 → ⊥) → Gives s t (eqb left 1)
    tells-not a = subst (Gives s t) (sym (ne_eqb left 1 a)) (λ o. a (own-all o).0)

-- ---- where it starts: the root's entry is the schema's

pub own-struct : {s t : List ℕ} {m : ℕ} → Own s t → length s ≤ 1024 → 3 ≤ length s → MarkAt s 0 m → m ≡ 28530
own-struct {s} {t} {m} o l h q = go (ℕ_discrete m 28530)
  where
    headed : Headed s (roomy t) m
    headed = record { short = l; three = h; roomy = omega (arith, roomy-long t); mark = q }

    go : Dec (m ≡ 28530) → m ≡ 28530
    go (yes e) = e
    go (no e) = absurd (unbuilt o (start-other headed e {U = t}))

pub record Starts (s t : List ℕ) (m c : ℕ) : Type 0 where
  pub short : length s ≤ 1024
  pub five : 5 ≤ length s
  pub beyond : 2 * length t < length s
  pub mark : MarkAt s 0 m
  pub struct : m ≡ 28530
  pub count : c ≡ get_or s 2 0
  pub some : c ≡ 0 → ⊥
  pub few : c ≤ 128
  pub enough : c < length t
  pub entry : get_or t 0 0 ≡ 17599433830258 + c * 68719476736 + length t * 18014398509481984

module _ {s t : List ℕ} {m c : ℕ} (y : Starts s t m c) where
  rooted : Rooted s (roomy t) m c
  rooted = record {
    headed = record { short = y.short; three = omega (arith, y.five); roomy = omega (arith, y.short, roomy-long t); mark = y.mark };
    struct = y.struct;
    held = held-is s 2 11 refl c y.count y.few;
  }

  abbrev zeros : List ℕ
  zeros = 0 ∷ 0 ∷ 0 ∷ 0 ∷ 0 ∷ 0 ∷ 0 ∷ 0 ∷ []

  first : get_or (roomy t) 0 0 % 18014398509481984 ≡ 17599433830258 + c * 68719476736
  first = ap (λ (u : ℕ). u % 18014398509481984) (roomy-at t 0 (omega (arith, y.enough)) ∙ y.entry) ∙ omega (arith, y.few)

  as-opened : set (roomy t) 0 (17599433830258 + c * 68719476736) ≡ opened (roomy t) zeros 0
  unfolding opened
  as-opened = ap (set (roomy t) 0) (sym first)

  pub follow-start : Faces s t (0 ∷ 0 ∷ 0 ∷ 0 ∷ 0 ∷ 0 ∷ 0 ∷ 0 ∷ []) 0 1 1 c 36063989980987392 (length t - c)
  unfolding owed
  follow-start = record {
    follows = record {
      going = subst (λ (u : List ℕ). Going s u zeros 0 3 1 c 36063989980987392) as-opened (start-looking rooted y.some).going;
      rising = record { up = λ q r a b. absurd (omega arith); below = λ q l. let e : q ≡ 0 = omega arith in rw e (omega arith) };
      asked = omega (arith, y.enough);
      spare = omega (arith, y.enough);
      beyond = omega (arith, y.beyond);
      root = refl;
      whole = ap (λ (u : ℕ). u / 18014398509481984) y.entry ∙ omega (arith, y.few);
    };
    some = omega (arith, y.some);
  }
