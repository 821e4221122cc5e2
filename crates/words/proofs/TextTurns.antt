-- What the loop over the characters of a part does in a turn: from i on it is text where the whole is. Assumes nothing.
use mathlib.Core.Bool.{true, false}
use mathlib.Core.Path.{◌≡◌, sym, ap, ◌∙◌}
use mathlib.Core.List.{List}
use Prim.Native.Nat.{ℕ, ◌+◌, ◌-◌, ◌≤◌, ◌<◌}
use native.Mathlib.Omega.{arith}
use lib.ListN.{length, drop, get_or}
use lib.Seq.{drop-drop}
use Rattle.words.specs.Bytes.{part}
use Rattle.words.specs.TextTest.{is_text}
use Rattle.words.specs.Chars.{Ascii, bare, Same, front_size}
use Rattle.words.proofs.Parts.{length_part, part-add, part-part, drop-take}
use Rattle.words.proofs.FirstSet.{part-first}
use Rattle.words.proofs.TextLaws.{front-none, front-some, front_fits, ascii-front, ascii_run, ascii-part, ascii-text}

-- a part of eight bytes that are ASCII
pub ascii-within : (b : List ℕ) (from at stop : ℕ) → from ≤ at → at ≤ stop → stop ≤ from + 8 → Ascii (part b from 8) → is_text (part b at (stop - at)) ≡ true
ascii-within b from at stop l m h r =
    let e : from + (at - from) ≡ at = omega arith in
    ap (λ (k : ℕ). is_text (part b k (stop - at))) (sym e)
    ∙ ap is_text (sym (part-part b from 8 (at - from) (stop - at) (omega arith))) ∙ ascii-text (ascii-part (at - from) (stop - at) r)

module _ (b : List ℕ) (at stop i : ℕ) (h : i < stop) (l : stop ≤ length b) where
  length-left : length (part b i (stop - i)) ≡ stop - i
  length-left = length_part b i (stop - i) (omega arith)

  left-drop : (n : ℕ) → drop n (part b i (stop - i)) ≡ part b (i + n) (stop - (i + n))
  left-drop n =
      let e : stop - i - n ≡ stop - (i + n) = omega arith in
      drop-take n (stop - i) (drop i b) ∙ rw (drop-drop n i b, e)

  pub char-fits : (n : ℕ) → front_size (part b i (stop - i)) ≡ n → i + n ≤ stop
  char-fits n e = let f = front_fits (part b i (stop - i)) (omega (arith, length-left)) in omega (arith, length-left)

  pub char-none : front_size (part b i (stop - i)) ≡ 0 → Same b at stop i → false ≡ is_text (part b at (stop - at))
  char-none e s = sym (front-none (part b i (stop - i)) (omega (arith, length-left)) e) ∙ s

  pub char-on : (n : ℕ) → front_size (part b i (stop - i)) ≡ n → 0 < n → Same b at stop i → Same b at stop (i + n)
  char-on n e z s =
      ap is_text (sym (left-drop n)) ∙ sym (front-some (part b i (stop - i)) n (omega (arith, length-left)) e z) ∙ s

  pub one_on : get_or b i 0 < 0x80 → Same b at stop i → Same b at stop (i + 1)
  one_on a s = sym (ascii-front (get_or b i 0) (part b (i + 1) (stop - (i + 1))) a) ∙ ap is_text (sym (part-first b i stop h l)) ∙ s

  pub eight-on : 8 ≤ stop - i → Ascii (part b i 8) → Same b at stop i → Same b at stop (i + 8)
  eight-on f r s =
      let e : stop - i ≡ 8 + (stop - (i + 8)) = omega arith in
      sym (ascii_run r (part b (i + 8) (stop - (i + 8)))) ∙ ap is_text (sym (part-add b i 8 (stop - (i + 8)))) ∙ ap (λ (k : ℕ). is_text (part b i k)) (sym e) ∙ s

pub text-end : (b : List ℕ) (at stop i : ℕ) → i ≡ stop → Same b at stop i → true ≡ is_text (part b at (stop - at))
text-end b at stop i h s =
    let z : stop - i ≡ 0 = omega arith in
    sym (ap (λ (n : ℕ). is_text (part b i n)) z ∙ ascii-text bare) ∙ s
