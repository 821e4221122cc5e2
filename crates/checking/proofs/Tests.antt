-- Readings as numbers: an assertion is a test, and a reading of children ends as its ranges do. Assumes nothing.
use mathlib.Core.Path.{◌≡◌, refl, sym, ap, ◌∙◌}
use mathlib.Core.Bool.{Bool, true, false, not, cond, true≢false}
use mathlib.Core.List.{List, ◌∷◌}
use Prim.Native.Nat.{ℕ, zero, suc, ◌+◌, ◌*◌, ◌-◌, ◌/◌, ◌^◌, ◌≤◌, ◌<◌}
use native.Mathlib.Decide.{dec_le, dec_lt, ℕ_discrete}
use native.Mathlib.Omega.{arith}
use lib.Dec.{eqb, ltb}
use lib.ListN.{length, take, drop, length-take, length-drop}
use borrow.Author.Tests.{eq-eqb, ne_eqb, lt-ltb, le-ltb, not-true, not-false}
use mir.Val.{Fits}
use mir.Syntax.{w64}
use Rattle.words.specs.Bytes.{Bytes, num, pad, bitmap, part, zeros_ahead, past_byte}
use Rattle.words.proofs.FirstSet.{ahead-most, past_room, past-most}
use Rattle.words.proofs.Parts.{length_part}
use Rattle.layout.specs.Faults.{Place, slot, byte, Read, fault, got, ◌>>=◌, ◌>>◌, assert_at, cut_at, seen_from, within}
use Rattle.layout.specs.Tiles.{Range, total}
use Rattle.layout.specs.Cells.{Cell}
use Rattle.layout.specs.Layout.{front}
use Rattle.layout.proofs.Faults.{assert-yes}
use Rattle.checking.specs.Sound.{place_code, code, in_child, zeros_then, ending}

-- ---- what a test that code made says

pub passed : {r t : Bool} → r ≡ t → not r ≡ false → t ≡ true
passed e q = sym e ∙ not-false _ q

pub failed : {r t : Bool} → r ≡ t → not r ≡ true → t ≡ false
failed e q = sym e ∙ not-true _ q

pub seen : {r t v : Bool} → r ≡ t → r ≡ v → t ≡ v
seen e q = sym e ∙ q

pub clash : {t : Bool} → t ≡ true → t ≡ false → ⊥
clash e q = true≢false (sym e ∙ q)

-- ---- assertions and cuts

pub code-test : {P A : Type 0} (p : Place) (d : Dec P) (t : Bool) (m : Read A) → (P → t ≡ true) → (¬ P → t ≡ false)
    → code (assert_at p d >> m) ≡ cond t (code m) (place_code p)
unfolding assert_at code
code-test p (yes h) t m f g = rw (f h)
code-test p (no n) t m f g = rw (g n)

pub code-equal : {A : Type 0} (p : Place) (a b : ℕ) (m : Read A) → code (assert_at p (ℕ_discrete a b) >> m) ≡ cond (eqb a b) (code m) (place_code p)
code-equal p a b m = code-test p (ℕ_discrete a b) (eqb a b) m (eq-eqb a b) (ne_eqb a b)

pub code-less : {A : Type 0} (p : Place) (a b : ℕ) (m : Read A) → code (assert_at p (dec_lt a b) >> m) ≡ cond (ltb a b) (code m) (place_code p)
code-less p a b m = code-test p (dec_lt a b) (ltb a b) m (λ h. lt-ltb a b h) (λ n. le-ltb a b (omega arith))

pub assert-no : {P A : Type 0} (p : Place) (d : Dec P) (m : Read A) → ¬ P → (assert_at p d >> m) ≡ fault p
unfolding assert_at
assert-no p (yes h) m f = absurd (f h)
assert-no p (no n) m f = refl

pub code-fault : (A : Type 0) (p : Place) → code {A = A} (fault p) ≡ place_code p
unfolding code
code-fault A p = refl

pub code_got : {A : Type 0} (a : A) → code (got a) ≡ 0
unfolding code
code_got a = refl

-- a cut that there is room for, and one that there is none for
pub cut-some : (p : Place) (n : ℕ) (b : List ℕ) → n ≤ length b → cut_at p n b ≡ got (take n b, drop n b)
unfolding cut_at
cut-some p n b h = rw (assert-yes p (dec_le n (length b)) h)

pub cut-none : (p : Place) (n : ℕ) (b : List ℕ) → length b < n → cut_at p n b ≡ fault p
unfolding cut_at
cut-none p n b h = assert-no p (dec_le n (length b)) (got (take n b, drop n b)) (λ k. omega arith)

-- ---- one reading after another

pub bind_assoc : {A B C : Type 0} (m : Read A) (f : A → Read B) (g : B → Read C) → ((m >>= f) >>= g) ≡ (m >>= λ a. f a >>= g)
bind_assoc (fault p) f g = refl
bind_assoc (got a) f g = refl

-- what is made of a reading's yield is no fault
pub code-made : {A B : Type 0} (m : Read A) (f : A → B) → code (m >>= λ x. got (f x)) ≡ code m
unfolding code
code-made (fault p) f = refl
code-made (got a) f = refl

-- a child's reading, and what follows it
pub code-within : {A B : Type 0} (j o : ℕ) (m : Read A) (f : A → Read B) (x : ℕ) → ((a : A) → m ≡ got a → code (f a) ≡ x)
    → code (within j o m >>= f) ≡ in_child j o (code m) x
unfolding within seen_from code in_child
code-within j o (fault slot) f x h = refl
code-within j o (fault (byte i)) f x h = refl
code-within j o (got a) f x h = h a refl

-- a fault in a child hides what follows
pub child-fault : (j o r x : ℕ) → (r ≡ 0 → ⊥) → in_child j o r x ≡ in_child j o r 0
unfolding in_child
child-fault j o zero x h = absurd (h refl)
child-fault j o (suc zero) x h = refl
child-fault j o (suc (suc i)) x h = refl

pub child-sound : (j o r x : ℕ) → r ≡ 0 → in_child j o r x ≡ x
unfolding in_child
child-sound j o zero x h = refl
child-sound j o (suc r) x h = absurd (omega arith)

then-on : {P A B : Type 0} (p : Place) (d : Dec P) (a : A) (next : A → Read B) → ((assert_at p d >> got a) >>= next) ≡ (assert_at p d >> next a)
unfolding assert_at
then-on p (yes h) a next = refl
then-on p (no n) a next = refl

-- a value read and then judged: r is how the rest of the reading ends
pub value-code : {A : Type 0} (j o : ℕ) (m : Read A) (q : Place) (z : ℕ) (f : A → Cell × List Range) (next : Cell × List Range → Read (List Cell)) (r : ℕ)
    → ((x : A) → code (next (f x)) ≡ r)
    → code ((within j o m >>= λ x. assert_at q (ℕ_discrete z 0) >> got (f x)) >>= next) ≡ in_child j o (code m) (cond (eqb z 0) r (place_code q))
value-code j o m q z f next r h =
    ap code (bind_assoc (within j o m) (λ x. assert_at q (ℕ_discrete z 0) >> got (f x)) next)
    ∙ code-within j o m (λ x. (assert_at q (ℕ_discrete z 0) >> got (f x)) >>= next) (cond (eqb z 0) r (place_code q))
    (λ x _. ap code (then-on q (ℕ_discrete z 0) (f x) next) ∙ code-equal q z 0 (next (f x)) ∙ ap (λ (y : ℕ). cond (eqb z 0) y (place_code q)) (h x))

-- ---- ends

module _ (h w n : ℕ) (b : List ℕ) where
  abbrev stop : ℕ
  stop = h + bitmap n + n * w

  abbrev z : List ℕ
  z = part b stop (pad (n * w) - n * w)

  -- the zeros behind the slots, and the end
  pub end-code : (cs : List Cell) (rs : List Range)
      → code (ending h w n b (cs, rs)) ≡ cond (eqb (num z) 0) (cond (eqb (total rs) (length b - front h w n)) 0 1) (suc (suc (stop + zeros_ahead z)))
  unfolding ending
  end-code cs rs =
      code-equal (byte (stop + zeros_ahead z)) (num z) 0 (assert_at slot (ℕ_discrete (total rs) (length b - front h w n)) >> got cs)
      ∙ ap (λ (y : ℕ). cond (eqb (num z) 0) y (suc (suc (stop + zeros_ahead z))))
      (code-equal slot (total rs) (length b - front h w n) (got cs) ∙ ap (λ (y : ℕ). cond (eqb (total rs) (length b - front h w n)) y 1) (code_got cs))

  -- the first child's cell does not matter
  pub ends_more : (c : Cell) (m : Read (List Cell × List Range)) → code ((m >>= λ q. got (c ∷ q.0, q.1)) >>= ending h w n b) ≡ code (m >>= ending h w n b)
  ends_more c (fault p) = refl
  ends_more c (got q) = end-code (c ∷ q.0) q.1 ∙ sym (end-code q.0 q.1)

-- ---- a child's fault, as the code works it out

pub at-fault : {r : ℕ} → (r ≡ 0 → ⊥) → 1 ≤ r
at-fault ne = omega arith

pub child-slot : (j o r : ℕ) → r ≡ 1 → j + 2 ≡ in_child j o r 0
unfolding in_child
child-slot j o zero h = absurd (omega arith)
child-slot j o (suc zero) h = omega arith
child-slot j o (suc (suc i)) h = absurd (omega arith)

pub child-byte : (j o r : ℕ) → 1 ≤ r → (r ≡ 1 → ⊥) → o + r ≡ in_child j o r 0
unfolding in_child
child-byte j o zero l h = absurd (omega arith)
child-byte j o (suc zero) l h = absurd (h refl)
child-byte j o (suc (suc i)) l h = omega arith

-- the byte that is found is within bounds
first-most : (b : List ℕ) (at stop y : ℕ) → y ≡ at + zeros_ahead (part b at (stop - at)) → at ≤ stop → y ≤ stop
first-most b at stop y e h = omega (arith, ahead-most (part b at (stop - at)), length-take (stop - at) (drop at b))

past-within : (b : List ℕ) (n stop y : ℕ) → y ≡ stop - bitmap n + past_byte n (part b (stop - bitmap n) (bitmap n))
    → bitmap n ≤ stop → stop ≤ length b → y ≤ stop
past-within b n stop y e l h =
    let k : length (part b (stop - bitmap n) (bitmap n)) ≡ bitmap n = length_part b (stop - bitmap n) (bitmap n) (omega arith) in
    omega (arith, past-most n (part b (stop - bitmap n) (bitmap n)) (omega arith))

pub found-fits : (b : List ℕ) (at stop : ℕ) {y : ℕ} → y ≡ at + zeros_ahead (part b at (stop - at))
    → at ≤ stop → stop ≤ length b → length b ≤ 16384 → Fits w64 (y + 2)
found-fits b at stop {y} e h l m = omega (arith, first-most b at stop y e h)

-- a part of a container is short
pub part_small : (b : List ℕ) (at size : ℕ) → length b ≤ 16384 → length (part b at size) ≤ 16384
part_small b at size small = rw length-take (omega (arith, length-drop at b))

-- ---- a bitmap of n bits that ends at slots

pub record MapRoom (b : List ℕ) (n slots : ℕ) : Type 0 where
  pub small : length b ≤ 16384
  pub low : bitmap n ≤ slots
  pub high : slots ≤ length b
  pub few : n < 2 ^ 32

module _ {b : List ℕ} {n slots : ℕ} (r : MapRoom b n slots) where
  pub map-asks : (bitmap n ≤ slots) × (slots ≤ length b) × (n < 2 ^ 32)
  map-asks = (r.low, r.high, r.few)

  -- a bit past n has room for one
  pub past-asks : Bytes b → {p : Bool} → p ≡ ltb (num (part b (slots - bitmap n) (bitmap n))) (2 ^ n) → not p ≡ true
      → (bitmap n ≤ slots) × (slots ≤ length b) × (n < 2 ^ 32) × (n / 8 < bitmap n)
  past-asks hb e q = (r.low, r.high, r.few, past_room n (slots - bitmap n) hb (omega (arith, r.low, r.high)) (failed e q))

  pub past_fits : {y : ℕ} → y ≡ slots - bitmap n + past_byte n (part b (slots - bitmap n) (bitmap n)) → Fits w64 (y + 2)
  past_fits {y} e = omega (arith, past-within b n slots y e r.low r.high, r.high, r.small)

-- ---- the measure of a call is below that of the caller, d deep

-- the loop's from a list or a struct, and a list's from a map
pub falls-list : (d : ℕ) {m : ℕ} → d * 8 + 3 ≡ m → d * 8 + 2 < m
falls-list d e = omega arith

pub falls-struct : (d : ℕ) {m : ℕ} → d * 8 + 5 ≡ m → d * 8 + 2 < m
falls-struct d e = omega arith

pub falls-map : (d : ℕ) {m : ℕ} → d * 8 + 4 ≡ m → d * 8 + 3 < m
falls-map d e = omega arith

-- ---- a child whose value stands elsewhere

-- no bytes are zeros
pub no_bytes : (b : List ℕ) (p q : ℕ) → q - p ≡ 0 → num (part b p (q - p)) ≡ 0
unfolding num
no_bytes b p q e = rw e

-- the container's fault by the child's, f, by the zeros from stop up to next behind it, and by what follows
pub record ChildIs (b : List ℕ) (slot o f stop next later all : ℕ) : Type 0 where
  pub is : in_child slot o f (zeros_then b stop next later) ≡ all

module _ {b : List ℕ} {slot o f stop next later all : ℕ} (c : ChildIs b slot o f stop next later all) where
  pub child-bad : {r : ℕ} → r ≡ f → (r ≡ 0 → ⊥) → {y : ℕ} → y ≡ in_child slot o r 0 → y ≡ all
  child-bad {r} er ne ey =
      ey ∙ sym (child-fault slot o r (zeros_then b stop next later) ne) ∙ ap (λ (x : ℕ). in_child slot o x (zeros_then b stop next later)) er ∙ c.is

  behind : f ≡ 0 → zeros_then b stop next later ≡ all
  behind e = sym (child-sound slot o f (zeros_then b stop next later) e) ∙ c.is

  pub child-unpadded : f ≡ 0 → {v : Bool} → v ≡ eqb (num (part b stop (next - stop))) 0 → not v ≡ true
      → {y : ℕ} → y ≡ stop + zeros_ahead (part b stop (next - stop)) → y + 2 ≡ all
  child-unpadded e ev q {y} ey =
      let g : y + 2 ≡ suc (suc (stop + zeros_ahead (part b stop (next - stop)))) = omega arith in
      g ∙ rw (failed ev q) at (behind e)

  pub child-next : f ≡ 0 → num (part b stop (next - stop)) ≡ 0 → later ≡ all
  child-next e z = rw (eq-eqb (num (part b stop (next - stop))) 0 z) at (behind e)
