-- A loop over children with slots of 8 bytes, whose values may stand in any order: its invariant, and one law for each way through its
-- body. Assumes nothing.
use mathlib.Core.Path.{◌≡◌, refl, sym, ◌∙◌, subst}
use mathlib.Core.Bool.{Bool, true, false, cond}
use mathlib.Core.Option.{none}
use mathlib.Core.List.{List, [], ◌∷◌}
use Prim.Native.Nat.{ℕ, suc, ◌+◌, ◌*◌, ◌-◌, ◌/◌, ◌%◌, ◌^◌, ◌≤◌, ◌<◌}
use native.Mathlib.Decide.{dec_lt, ℕ_discrete}
use native.Mathlib.Numerals.{add-one}
use native.Mathlib.Omega.{arith}
use mir.Val.{Fits}
use mir.Syntax.{w64}
use lib.Dec.{eqb}
use lib.ListN.{length, length-replicate, get_or-replicate}
use borrow.Author.Tests.{eq-eqb, ne_eqb, eqb-true}
use Rattle.words.specs.Bytes.{Bytes, num, bitmap, part}
use Rattle.words.specs.Bits.{bit}
use Rattle.schema.specs.Types.{Ty, fix, text, li, ma, ro, Tys, field, count}
use Rattle.layout.specs.Tiles.{Range, total, Stands}
use Rattle.layout.specs.Layout.{Kid, outside, front, codec, string, array, pair, struct, kid, kid_of, slot_of, kids}
use Rattle.layout.proofs.Containers.{kids-count}
use Rattle.layout.proofs.Steps.{nobody, kid_at}
use Rattle.layout.proofs.Walked.{kids-at}
use Rattle.layout.proofs.Tiles.{Packed}
use Rattle.standing.specs.Standing.{varies, SlotsIn, FirstUnfit, range_at, ranges_to, StandsAt}
use Rattle.checking.specs.Sound.{fault_from}
use Rattle.checking.specs.Room.{elements, all_vary, varies_in, Unfit}
use Rattle.checking.proofs.Tests.{clash}
use Rattle.checking.proofs.Children.{good-end, good-null, good-off}

-- the children of a list of n of a type that varies, and of a struct of some types
pub data Held : Type 0 where
  items : Ty → ℕ → Held
  fields : Tys → Held

-- the bytes before their bitmap, how each is laid, its type, and whether that varies
abbrev pub head_of : Held → ℕ
head_of (items t n) = 8
head_of (fields ts) = 0

abbrev pub kids_of : Held → List Kid
kids_of (items t n) = elements t n
kids_of (fields ts) = kids ts

abbrev pub type_in : Held → ℕ → Ty
type_in (items t n) j = t
type_in (fields ts) j = field ts j

abbrev pub vary_in : Held → ℕ → Bool
vary_in (items t n) = all_vary
vary_in (fields ts) = varies_in ts

-- they are n
abbrev pub Right : Held → ℕ → Type 0
Right (items t m) n = (m ≡ n) × (varies t ≡ true)
Right (fields ts) n = count ts ≡ n

-- the fault that judging them finds
abbrev pub fault_in : Held → List ℕ → ℕ
fault_in k b = fault_from (head_of k) 8 (kids_of k) b 0 []

head-eight : (k : Held) → head_of k % 8 ≡ 0
head-eight (items t n) = refl
head-eight (fields ts) = refl

pub held-count : (k : Held) {n : ℕ} → Right k n → length (kids_of k) ≡ n
held-count (items t m) r = length-replicate m (kid (slot_of (codec t).wide) (codec t)) ∙ r.0
held-count (fields ts) r = kids-count ts ∙ r

varies-wide : (t : Ty) → varies t ≡ true → (codec t).wide ≡ none
unfolding varies codec string array pair struct
varies-wide (fix f) e = absurd (clash e refl)
varies-wide (text t) e = refl
varies-wide (li t) e = refl
varies-wide (ma k v) e = refl
varies-wide (ro ts) e = refl

kid-outside : (w : ℕ) (t : Ty) → varies t ≡ true → kid w (codec t) ≡ outside (codec t)
unfolding kid_of
kid-outside w t e = rw (varies-wide t e)

pub held-kid : (k : Held) {n : ℕ} → Right k n → (j : ℕ) → j < n → vary_in k j ≡ true → kid_at (kids_of k) j ≡ outside (codec (type_in k j))
held-kid (items t m) r j l e =
    get_or-replicate m j (kid (slot_of (codec t).wide) (codec t)) nobody (omega arith) ∙ kid-outside (slot_of (codec t).wide) t r.1
held-kid (fields ts) r j l e = kids-at ts j (omega (arith, kids-count ts)) ∙ kid-outside 8 (field ts j) e

-- the container's positions: its bitmap behind a header of h bytes, slots of 8 bytes, and variable data
pub record Slots (k : Held) (b : List ℕ) (n slots start : ℕ) : Type 0 where
  pub right : Right k n
  pub map : slots ≡ head_of k + bitmap n
  pub data₀ : start ≡ slots + 8 * n
  pub room : start ≤ length b
  pub small : length b ≤ 16384
  pub whole : length b % 8 ≡ 0
  pub bytes : Bytes b

-- the ranges of the children before number i, and that one stands beside them
abbrev pub before : Held → List ℕ → ℕ → ℕ → List Range
before k b n i = ranges_to (head_of k) (head_of k + bitmap n) (vary_in k) b i

abbrev pub StandsHere : Held → List ℕ → ℕ → ℕ → Type 0
StandsHere k b n j = StandsAt (head_of k) (head_of k + bitmap n) (head_of k + bitmap n + 8 * n) (vary_in k) b j

-- no child so far stood elsewhere than at the cursor
pub record InOrder (k : Held) (b : List ℕ) (n i cur stop since : ℕ) : Type 0 where
  pub whole : stop ≡ n
  pub from_zero : since ≡ 0
  pub packed : Packed (head_of k + bitmap n + 8 * n) (before k b n i)
  pub eight : cur % 8 ≡ 0
  pub high : cur ≤ length b
  pub stood : (j : ℕ) → j < i → StandsHere k b n j

-- Before child i: what is left leads to the same end. The values of the children before it take done bytes, and those since the cursor's
-- last move.
pub record At (k : Held) (b : List ℕ) (n slots start i slot cur stop done since : ℕ) : Type 0 where
  pub fixed : Slots k b n slots start
  pub most : i ≤ stop
  pub within : stop ≤ n
  pub slot_is : slot ≡ slots + 8 * i
  pub begun : since ≤ cur
  pub near : cur < 2 ^ 32
  pub sum : start + total (before k b n i) ≡ done + (cur - since)
  pub few : done + (cur - since) ≤ start + 16384 * i
  pub same : fault_from (head_of k) 8 (kids_of k) b i (before k b n i) ≡ fault_in k b
  pub order : done ≡ 0 → InOrder k b n i cur stop since
  pub asked : (done ≡ 0 → ⊥) → Unfit (head_of k) (vary_in k) b n stop

-- 1 where the slot says another place than the cursor's: the loop's measure falls when the cursor moves
unfoldable pub astray : List ℕ → ℕ → ℕ → ℕ
astray b slot cur = cond (eqb (num (part b slot 8) / 2 ^ 32) cur) 0 1

astray-most : (b : List ℕ) (slot cur : ℕ) → astray b slot cur ≤ 1
unfolding astray
astray-most b slot cur = go (eqb (num (part b slot 8) / 2 ^ 32) cur)
  where
    go : (t : Bool) → cond t 0 1 ≤ 1
    go true = omega arith
    go false = omega arith

-- ---- the ranges of one child more

module _ (k : Held) (b : List ℕ) (n i : ℕ) where
  -- child i has a range
  pub ranges_more : vary_in k i ≡ true → bit b (head_of k) i ≡ false → before k b n (i + 1) ≡ range_at b (head_of k + bitmap n + 8 * i) ∷ before k b n i
  unfolding ranges_to
  ranges_more v f = rw (add-one i, v, f)

  -- or has none
  ranges-same : (vary_in k i ≡ true → bit b (head_of k) i ≡ false → ⊥) → before k b n (i + 1) ≡ before k b n i
  unfolding ranges_to
  ranges-same empty = rw (add-one i) (go (vary_in k i) refl (bit b (head_of k) i) refl)
    where
      go : (v : Bool) → vary_in k i ≡ v → (f : Bool) → bit b (head_of k) i ≡ f → before k b n (suc i) ≡ before k b n i
      go false p f q = rw p
      go true p true q = rw (p, q)
      go true p false q = absurd (empty p q)

-- a struct has no header
pub headless : {vary : ℕ → Bool} {b : List ℕ} {n r : ℕ} → FirstUnfit 0 (bitmap n) (bitmap n + 8 * n) vary b n r → Unfit 0 vary b n r
headless {n = n} u = let z : 0 + bitmap n ≡ bitmap n = omega arith in rw z u

-- ---- where the loop begins, and where it ends

module _ {k : Held} {b : List ℕ} {n slots start : ℕ} (d : Slots k b n slots start) where
  pub slots-fit : front (head_of k) 8 (length (kids_of k)) ≤ length b
  slots-fit = rw (held-count k d.right) (omega (arith, d.map, d.data₀, d.room))

  pub front-is : front (head_of k) 8 (length (kids_of k)) ≡ head_of k + bitmap n + 8 * n
  front-is = rw (held-count k d.right) (omega arith)

  pub slot_at : (i : ℕ) → head_of k + bitmap (length (kids_of k)) + i * 8 ≡ head_of k + bitmap n + 8 * i
  slot_at i = rw (held-count k d.right) (omega arith)

  -- the question that its slots are asked
  pub slots-in : SlotsIn (head_of k) b n
  slots-in = record { small = d.small; whole = d.whole; room = omega (arith, d.map, d.data₀, d.room) }

  -- the end
  ends_at : (i : ℕ) (rs : List Range) (cur : ℕ) → i ≡ n → start + total rs ≡ cur → fault_from (head_of k) 8 (kids_of k) b i rs ≡ cond (eqb cur (length b)) 0 1
  unfolding num
  ends_at i rs cur e l =
      let m = length (kids_of k) in
      let z : front (head_of k) 8 m - (head_of k + bitmap m + m * 8) ≡ 0 = omega arith in
      good-end (head_of k) 8 (kids_of k) b slots-fit d.bytes i rs cur (omega (arith, held-count k d.right)) (omega (arith, front-is, d.map, d.data₀))
      ∙ rw z

  pub loop-start : At k b n slots start 0 slots start n 0 0
  unfolding total ranges_to
  loop-start = record {
    fixed = d;
    most = omega arith;
    within = omega arith;
    slot_is = omega arith;
    begun = omega arith;
    near = omega (arith, d.room, d.small);
    sum = omega arith;
    few = omega arith;
    same = refl;
    order = λ _. record {
      whole = refl;
      from_zero = refl;
      packed = tt;
      eight = omega (arith, head-eight k, d.map, d.data₀);
      high = d.room;
      stood = λ j l. absurd (omega arith);
    };
    asked = λ ne. absurd (ne refl);
  }

module _ {k : Held} {b : List ℕ} {n slots start i slot cur stop done since : ℕ}
    (a : At k b n slots start i slot cur stop done since) where
  abbrev d : Slots k b n slots start
  d = a.fixed

  -- what the values take
  pub loop-since : since ≤ cur
  loop-since = a.begun

  pub loop-sum : Fits w64 (done + (cur - since))
  loop-sum = omega (arith, a.few, a.most, a.within, d.data₀, d.room, d.small)

  module _ (over : stop ≤ i) where
    -- the child that can't stand where its slot says
    pub loop-told : stop < n → Fits w64 (slot + 2)
    loop-told l = omega (arith, a.slot_is, a.most, d.data₀, d.room, d.small)

    pub loop-unfit : stop < n → slot + 2 ≡ fault_in k b
    loop-unfit l = go (ℕ_discrete done 0)
      where
        at : i ≡ stop
        at = omega (arith, a.most)

        unfit : (done ≡ 0 → ⊥) → StandsHere k b n i → ⊥
        unfit ne s = (a.asked ne).fault l (subst (StandsHere k b n) at s)

        fault : (done ≡ 0 → ⊥) → vary_in k i ≡ true → bit b (head_of k) i ≡ false → slot + 2 ≡ fault_in k b
        fault ne v f =
            let p : slot + 2 ≡ suc (suc (head_of k + bitmap (length (kids_of k)) + i * 8)) = omega (arith, a.slot_is, d.map, slot_at d i) in
            p ∙ sym (good-off (head_of k) 8 (kids_of k) b (slots-fit d) d.bytes i (omega (arith, held-count k d.right)) (before k b n i)
            (codec (type_in k i))
            (held-kid k d.right i (omega arith) v) refl f (num (part b (head_of k + bitmap n + 8 * i) 8)) (rw (slot_at d i))
            (λ s. unfit ne (λ _ _. subst (λ (q : ℕ). Stands q (length b) (before k b n i) (range_at b (head_of k + bitmap n + 8 * i))) (front-is d) s)))
            ∙ a.same

        child : (done ≡ 0 → ⊥) → (v : Bool) → vary_in k i ≡ v → (f : Bool) → bit b (head_of k) i ≡ f → slot + 2 ≡ fault_in k b
        child ne false p f q = absurd (unfit ne (λ v _. absurd (clash v p)))
        child ne true p true q = absurd (unfit ne (λ _ f. absurd (clash q f)))
        child ne true p false q = fault ne p q

        go : Dec (done ≡ 0) → slot + 2 ≡ fault_in k b
        go (yes e) = absurd (omega (arith, (a.order e).whole))
        go (no ne) = child ne (vary_in k i) refl (bit b (head_of k) i) refl

    module _ (all : n ≤ stop) where
      at-end : cond (eqb (done + (cur - since)) (length b)) 0 1 ≡ fault_in k b
      at-end = sym (ends_at d i (before k b n i) _ (omega (arith, a.most, a.within)) a.sum) ∙ a.same

      -- the end, and another one
      pub loop-done : done + (cur - since) ≡ length b → 0 ≡ fault_in k b
      loop-done e = rw (eq-eqb (done + (cur - since)) (length b) e) at at-end

      pub loop-over : (done + (cur - since) ≡ length b → ⊥) → 1 ≡ fault_in k b
      loop-over e = rw (ne_eqb (done + (cur - since)) (length b) e) at at-end

  -- ---- before child i

  module _ (l : i < stop) where
    pub loop-less : i < n
    loop-less = omega (arith, a.within)

    pub loop-bit : head_of k + i / 8 < length b
    loop-bit = omega (arith, a.within, d.map, d.data₀, d.room)

    pub loop-slot : slot + 8 ≤ length b
    loop-slot = omega (arith, a.within, a.slot_is, d.data₀, d.room)

    -- the slot as the place of a fault
    pub loop-fault : Fits w64 (slot + 2)
    loop-fault = omega (arith, loop-slot, d.small)

    pub loop-slot-on : Fits w64 (slot + 8)
    loop-slot-on = omega (arith, loop-slot, d.small)

    pub loop-on : Fits w64 (i + 1)
    loop-on = omega (arith, a.within, d.data₀, d.room, d.small)

    pub loop-falls : (cur' : ℕ) → 2 * (n - (i + 1)) + astray b (slot + 8) cur' < 2 * (n - i) + astray b slot cur
    loop-falls cur' = omega (arith, a.within, astray-most b (slot + 8) cur')

    -- a child that has no range: the loop passes it, or finds it wrong
    pub loop-pass : (vary_in k i ≡ true → bit b (head_of k) i ≡ false → ⊥) →
        ((rs : List Range) → fault_from (head_of k) 8 (kids_of k) b i rs ≡ fault_from (head_of k) 8 (kids_of k) b (i + 1) rs)
        → At k b n slots start (i + 1) (slot + 8) cur stop done since
    loop-pass empty s =
        let e : before k b n (i + 1) ≡ before k b n i = ranges-same k b n i empty in
        record {
          fixed = d;
          most = omega arith;
          within = a.within;
          slot_is = omega (arith, a.slot_is);
          begun = a.begun;
          near = a.near;
          sum = rw e a.sum;
          few = omega (arith, a.few);
          same = rw e (sym (s (before k b n i)) ∙ a.same);
          order = λ z. let o = a.order z in record {
            whole = o.whole;
            from_zero = o.from_zero;
            packed = rw e o.packed;
            eight = o.eight;
            high = o.high;
            stood = λ j m. go z j m (dec_lt j i);
          };
          asked = a.asked;
        }
      where
        go : done ≡ 0 → (j : ℕ) → j < i + 1 → Dec (j < i) → StandsHere k b n j
        go z j m (yes m') = (a.order z).stood j m'
        go z j m (no m') = let e : i ≡ j = omega arith in subst (StandsHere k b n) e (λ v f. absurd (empty v f))

    pub loop-wrong : {r : ℕ} → ((rs : List Range) → fault_from (head_of k) 8 (kids_of k) b i rs ≡ r) → r ≡ fault_in k b
    loop-wrong s = sym (s (before k b n i)) ∙ a.same

    pub loop-null : {r : Bool} → r ≡ bit b (head_of k) i → r ≡ true → At k b n slots start (i + 1) (slot + 8) cur stop done since
    loop-null e q =
        let f : bit b (head_of k) i ≡ true = sym e ∙ q in
        loop-pass (λ _ g. clash f g)
        (λ rs. good-null (head_of k) 8 (kids_of k) b (slots-fit d) d.bytes i (omega (arith, a.within, held-count k d.right)) rs f)

-- the end of a loop whose cursor never moved
pub loop-plain : {k : Held} {b : List ℕ} {n slots start i slot cur : ℕ} → At k b n slots start i slot cur n 0 0 → n ≤ i
    → eqb cur (length b) ≡ true → 0 ≡ fault_in k b
loop-plain {b = b} {cur = cur} a over e = loop-done a over (omega arith) (omega (arith, eqb-true cur (length b) e))
