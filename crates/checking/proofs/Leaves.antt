-- Strings and binaries, and lists of them, of bools and of numbers. Assumes nothing.
use mathlib.Core.Path.{◌≡◌, refl, sym, ap, ◌∙◌}
use mathlib.Core.Bool.{Bool, true, false, not, cond}
use mathlib.Core.List.{List, []}
use Prim.Native.Nat.{ℕ, zero, suc, ◌+◌, ◌*◌, ◌-◌, ◌/◌, ◌%◌, ◌^◌, ◌≤◌, ◌<◌}
use native.Mathlib.Nat.{zero-div, mul-le-mul_right}
use native.Mathlib.Decide.{dec_lt}
use native.Mathlib.Omega.{arith}
use mir.Val.{Fits}
use mir.Syntax.{w64}
use lib.Dec.{eqb, ltb}
use lib.ListN.{length, get_or, replicate, length-replicate, get_or-replicate}
use borrow.Author.Tests.{eq-eqb, ne_eqb, lt-ltb, le-ltb}
use Rattle.words.specs.Bytes.{Bytes, num, pad, bitmap, part, zeros_ahead}
use Rattle.words.specs.Bits.{bit_of, bit}
use Rattle.words.specs.Reads.{Reads}
use Rattle.words.specs.Tests.{is_yes}
use Rattle.words.proofs.Tests.{yes-is, no-is}
use Rattle.words.proofs.Parts.{length_part, bytes-part}
use Rattle.words.proofs.NumLaws.{num-one}
use Rattle.words.proofs.BitLaws.{bit-num}
use Rattle.schema.specs.Types.{Text, st, text}
use Rattle.layout.specs.Layout.{Codec, Kid, spells?, number, string, inside, front, codec}
use Rattle.layout.specs.Cells.{leaf}
use Rattle.layout.specs.Faults.{slot, byte, got, assert_at, ◌>>◌}
use Rattle.layout.proofs.Steps.{nobody}
use Rattle.layout.specs.Tiles.{total}
use Rattle.standing.specs.Standing.{varies}
use Rattle.checking.specs.Sound.{code, fault_of, in_child, zeros_then, fault_from}
use Rattle.spelling.specs.Spelling.{Spelling}
use Rattle.spelling.proofs.ByKind.{free}
use Rattle.checking.specs.Room.{ListRoom, ListEnd, NoNulls, NoNullsIf, NullAsk, text_if, bools}
use Rattle.checking.proofs.Tests.{clash, passed, failed, code-test, code-equal, code-less, code_got, child-sound, found-fits}
use Rattle.checking.proofs.Children.{good-end, good-null, good-inside}
use Rattle.checking.proofs.Loops.{items, Slots}

-- ---- strings and binaries

-- judged by what the type asks of the bytes, and told at the slot
text-code : (t : Text) (u : List ℕ) → fault_of (text t) u ≡ cond (is_yes (spells? t u)) 0 1
unfolding fault_of codec string
text-code t u =
    code-test slot (spells? t u) (is_yes (spells? t u)) (got (leaf u)) (yes-is (spells? t u)) (no-is (spells? t u))
    ∙ ap (λ (y : ℕ). cond (is_yes (spells? t u)) y 1) (code_got (leaf u))

module _ {t : Text} {u : List ℕ} {r : Bool} (e : Spelling t u r) where
  pub text-sound : not r ≡ false → fault_of (text t) u ≡ 0
  text-sound q = text-code t u ∙ rw (passed e.is q)

  pub text-fault : not r ≡ true → fault_of (text t) u ≡ 1
  text-fault q = text-code t u ∙ rw (failed e.is q)

-- where a list's texts are strings, as the number f says, and where they are binaries
module _ (f : ℕ) where
  module _ (ne : f ≡ 0 → ⊥) {u : List ℕ} {r : Bool} (e : Spelling st u r) where
    pub string-sound : not r ≡ false → fault_of (text (text_if (not (eqb f 0)))) u ≡ 0
    string-sound q = rw (ne_eqb f 0 ne) (text-sound e q)

    pub string-fault : not r ≡ true → fault_of (text (text_if (not (eqb f 0)))) u ≡ 1
    string-fault q = rw (ne_eqb f 0 ne) (text-fault e q)

  pub binary-sound : f ≡ 0 → (u : List ℕ) → fault_of (text (text_if (not (eqb f 0)))) u ≡ 0
  binary-sound z u = rw (eq-eqb f 0 z) (text-sound (free u) refl)

pub texts-slots : (t : Text) {b : List ℕ} {n slots start : ℕ} → ListRoom b 8 n slots start → Bytes b → Slots (items (text t) n) b n slots start
unfolding varies
texts-slots t r hb = record {
  right = (refl, refl);
  map = r.map;
  data₀ = omega (arith, r.elements);
  room = r.room;
  small = r.small;
  whole = r.whole;
  bytes = hb;
}

-- whether one of them is null
pub null-ask : {b : List ℕ} {n i : ℕ} (full : Bool) → NoNullsIf b n full → i < n → 8 + i / 8 < length b → NullAsk b i full
null-ask {i = i} true h l r = record { room = r; none = λ _. h.none i l }
null-ask false h l r = record { room = r; none = λ e. absurd (clash e refl) }

-- the bitmap that is looked at for one
pub nulls-room : {b : List ℕ} {n slots start : ℕ} → ListRoom b 8 n slots start → (length b ≤ 16384) × (8 + (n + 63) / 64 * 8 ≤ length b)
nulls-room r = (r.small, omega (arith, r.map, r.elements, r.room))

-- ---- a bitmap word for 64 elements

word-clear : (m k : ℕ) → m ≡ 0 → bit_of m k ≡ false
word-clear m k e = rw (e, zero-div (2 ^ k))

pub clear-start : (b : List ℕ) → NoNulls b 0
clear-start b = record { none = λ j h. absurd (omega arith) }

pub clear-word : {b : List ℕ} (k : ℕ) {x : ℕ} → NoNulls b (64 * k) → Reads b (8 + 8 * k) 8 x → x ≡ 0 → Bytes b → NoNulls b (64 * (k + 1))
clear-word {b} k {x} c rx z hb = record { none = λ j h. go j h (dec_lt j (64 * k)) }
  where
    go : (j : ℕ) → j < 64 * (k + 1) → Dec (j < 64 * k) → bit b 8 j ≡ false
    go j h (yes l) = c.none j l
    go j h (no l) =
        let q = j - 64 * k in
        let a : 8 + j / 8 ≡ 8 + 8 * k + q / 8 = omega arith in
        let r : j % 8 ≡ q % 8 = omega arith in
        rw (a, r) (sym (bit-num (8 + 8 * k) 8 q hb (omega arith)) ∙ word-clear (num (part b (8 + 8 * k) 8)) q (sym rx.is ∙ z))

pub clear-end : {b : List ℕ} {n k : ℕ} → NoNulls b (64 * k) → (n + 63) / 64 ≤ k → NoNulls b n
clear-end c h = record { none = λ j l. c.none j (omega arith) }

-- ---- numbers

-- a number of its width is judged by its limit alone
pub number-judged : (w m : ℕ) (u : List ℕ) → length u ≡ w → code ((number w m).get u) ≡ cond (ltb (num u) m) 0 2
unfolding number
number-judged w m u k =
    code-equal (byte 0) (length u) w (assert_at (byte 0) (dec_lt (num u) m) >> got (leaf u)) ∙ rw (eq-eqb (length u) w k)
    (code-less (byte 0) (num u) m (got (leaf u)) ∙ ap (λ (y : ℕ). cond (ltb (num u) m) y 2) (code_got (leaf u)))

-- no zeros
pub no-zeros : (b : List ℕ) (p q x : ℕ) → q - p ≡ 0 → zeros_then b p q x ≡ x
unfolding num
no-zeros b p q x e = rw e

-- ---- the end of a list: the zeros from stop to start behind its elements, and nothing behind them

module _ {b : List ℕ} {stop start : ℕ} (e : ListEnd b stop start) where
  abbrev blank : List ℕ
  blank = part b stop (start - stop)

  abbrev all : ℕ
  all = zeros_then b stop start (cond (eqb start (length b)) 0 1)

  pub end-pad : (8 ≤ start) × (start ≤ length b) × (stop < 2 ^ 40) × (start ≡ pad stop)
  end-pad = (e.low, e.room, omega (arith, e.padded, e.room, e.small), e.padded)

  pub end-search : (stop ≤ start) × (start ≤ length b)
  end-search = (omega (arith, e.padded), e.room)

  pub end-found : {y : ℕ} → y ≡ stop + zeros_ahead blank → Fits w64 (y + 2)
  end-found ey = found-fits b stop start ey end-search.0 e.room e.small

  module _ {v : Bool} (ev : v ≡ eqb (num blank) 0) where
    pub end-gap : not v ≡ true → {y : ℕ} → y ≡ stop + zeros_ahead blank → y + 2 ≡ all
    end-gap q {y} ey = let g : y + 2 ≡ suc (suc (stop + zeros_ahead blank)) = omega arith in g ∙ rw (failed ev q)

    pub end-done : not v ≡ false → start ≡ length b → 0 ≡ all
    end-done q h = rw (passed ev q, eq-eqb start (length b) h)

    pub end-over : not v ≡ false → (start ≡ length b → ⊥) → 1 ≡ all
    end-over q h = rw (passed ev q, ne_eqb start (length b) h)

-- ---- bools

-- before element i: what is left leads to the same end
pub record BoolsAt (b : List ℕ) (n slots start i : ℕ) : Type 0 where
  pub list : ListRoom b 1 n slots start
  pub bytes : Bytes b
  pub most : i ≤ n
  pub same : fault_from 8 1 (bools n) b i [] ≡ fault_from 8 1 (bools n) b 0 []

pub bools-start : {b : List ℕ} {n slots start : ℕ} → ListRoom b 1 n slots start → Bytes b → BoolsAt b n slots start 0
bools-start r hb = record { list = r; bytes = hb; most = omega arith; same = refl }

module _ {b : List ℕ} {n slots start i : ℕ} (a : BoolsAt b n slots start i) where
  abbrev r : ListRoom b 1 n slots start
  r = a.list

  count : length (bools n) ≡ n
  count = length-replicate n (inside 1 1 (number 1 2))

  fits : front 8 1 (length (bools n)) ≤ length b
  fits = rw count (omega (arith, r.map, r.elements, r.room))

  front-is : front 8 1 (length (bools n)) ≡ start
  front-is = rw count (omega (arith, r.map, r.elements))

  pub bools-end : n ≤ i → {y : ℕ} → y ≡ zeros_then b (slots + n) start (cond (eqb start (length b)) 0 1) → y ≡ fault_from 8 1 (bools n) b 0 []
  unfolding total
  bools-end l ey =
      let e : 8 + bitmap (length (bools n)) + length (bools n) * 1 ≡ slots + n = rw count (omega (arith, r.map)) in
      ey
      ∙ sym (good-end 8 1 (bools n) b fits a.bytes i [] start (omega (arith, count, a.most)) (omega (arith, front-is)) ∙ rw (e, front-is))
      ∙ a.same

  module _ (l : i < n) where
    l' : i < length (bools n)
    l' = omega (arith, count)

    pub bools-byte : slots + i < length b
    bools-byte = omega (arith, r.elements, r.room)

    pub bools-null : {v : Bool} → v ≡ bit b 8 i → v ≡ true → BoolsAt b n slots start (i + 1)
    bools-null e q =
        record { list = r; bytes = a.bytes; most = omega arith; same = sym (good-null 8 1 (bools n) b fits a.bytes i l' [] (sym e ∙ q)) ∙ a.same }

    -- the bool's byte, judged
    module _ {v : Bool} (e : v ≡ bit b 8 i) (q : v ≡ false) where
      abbrev x : ℕ
      x = get_or b (slots + i) 0

      one : fault_from 8 1 (bools n) b i [] ≡ in_child (slots + i) (slots + i) (cond (ltb x 2) 0 2) (fault_from 8 1 (bools n) b (i + 1) [])
      one =
          let p = 8 + bitmap (length (bools n)) + i * 1 in
          let o : p ≡ slots + i = rw count (omega (arith, r.map)) in
          let y : num (part b p 1) ≡ x = rw o (num-one b (slots + i) bools-byte) in
          let k : length (part b p 1) ≡ 1 = length_part b p 1 (omega (arith, bools-byte)) in
          good-inside 8 1 (bools n) b fits a.bytes i l' [] 1 (number 1 2) (get_or-replicate n i (inside 1 1 (number 1 2)) nobody l) (omega arith) (sym e ∙ q)
          ∙ rw (number-judged 1 2 (part b p 1) k, y, no-zeros b (p + 1) (p + 1) (fault_from 8 1 (bools n) b (i + 1) []) (omega arith), o)

      pub bools-wrong : 1 < x → slots + i + 2 ≡ fault_from 8 1 (bools n) b 0 []
      unfolding in_child
      bools-wrong h =
          let g : slots + i + 2 ≡ suc (suc (slots + i + 0)) = omega arith in
          g ∙ sym (one ∙ rw (le-ltb x 2 (omega arith))) ∙ a.same

      pub bools-next : x ≤ 1 → BoolsAt b n slots start (i + 1)
      unfolding in_child
      bools-next h = record { list = r; bytes = a.bytes; most = omega arith; same = sym (one ∙ rw (lt-ltb x 2 (omega arith))) ∙ a.same }

-- ---- numbers: nothing to look at

module _ (w n : ℕ) (b : List ℕ) (start : ℕ) (c : Codec) (one : 1 ≤ w) (hb : Bytes b) (st : start ≡ front 8 w n) (room : start ≤ length b)
    (fine : (u : List ℕ) → Bytes u → length u ≡ w → code (c.get u) ≡ 0) where
  abbrev numbers : List Kid
  numbers = replicate n (inside w w c)

  size : length numbers ≡ n
  size = length-replicate n (inside w w c)

  enough : front 8 w (length numbers) ≤ length b
  enough = rw size (omega arith)

  abbrev ends : ℕ
  ends = zeros_then b (8 + bitmap n + n * w) start (cond (eqb start (length b)) 0 1)

  numbers-step : (i : ℕ) → i < n → fault_from 8 w numbers b (i + 1) [] ≡ ends → fault_from 8 w numbers b i [] ≡ ends
  numbers-step i h rest = go (bit b 8 i) refl
    where
      l : i < length numbers
      l = omega (arith, size)

      p : ℕ
      p = 8 + bitmap (length numbers) + i * w

      long : length (part b p w) ≡ w
      long = length_part b p w (omega (arith, enough, mul-le-mul_right {m = suc i} {n = length numbers} w l))

      go : (v : Bool) → bit b 8 i ≡ v → fault_from 8 w numbers b i [] ≡ ends
      go true f = good-null 8 w numbers b enough hb i l [] f ∙ rest
      go false f =
          good-inside 8 w numbers b enough hb i l [] w c (get_or-replicate n i (inside w w c) nobody h) (omega arith) f
          ∙ child-sound p p _ _ (fine (part b p w) (bytes-part p w hb) long) ∙ no-zeros b (p + w) (p + w) _ (omega arith) ∙ rest

  pub numbers-from : (left i : ℕ) → i + left ≡ n → fault_from 8 w numbers b i [] ≡ ends
  unfolding total
  numbers-from zero i e = good-end 8 w numbers b enough hb i [] start (omega (arith, size)) (rw size (omega arith)) ∙ rw (size, st)
  numbers-from (suc left) i e = numbers-step i (omega arith) (numbers-from left (i + 1) (omega arith))
