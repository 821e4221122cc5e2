-- The test of text goes a character at a time, or a run of ASCII, from any byte on. Assumes nothing.
use mathlib.Core.Bool.{Bool, true, false}
use mathlib.Core.Path.{◌≡◌, refl, sym, ◌∙◌}
use mathlib.Core.List.{List, [], ◌∷◌, ◌++◌}
use Prim.Native.Nat.{ℕ, zero, suc, ◌-◌, ◌≤◌, ◌<◌}
use native.Mathlib.Omega.{arith}
use lib.Dec.{eqb-suc-zero}
use lib.ListN.{length, take, drop, get_or}
use Rattle.words.specs.Bytes.{part}
use Rattle.words.specs.Tests.{is_yes}
use Rattle.words.specs.Text.{x00-7F}
use Rattle.words.specs.TextTest.{chars_from, by_test, well_formed?, is_text, Told, is0, is1, is2, is3, is4, told}
use Rattle.words.specs.TextTest.{behind2, behind3, behind4, size1}
use Rattle.words.specs.Chars.{Ascii, bare, ascii, front_size}
use Rattle.words.proofs.Parts.{byte-room}

-- ---- the character at the front

by-test : {P : Type 0} (x : Bool) (f : x ≡ true → P) (g : P → x ≡ true) → is_yes (by_test x f g) ≡ x
unfolding by_test is_yes
by-test true f g = refl
by-test false f g = refl

text-is : (u : List ℕ) → is_text u ≡ chars_from 0 u
unfolding is_text well_formed?
text-is u = by-test (chars_from 0 u) _ _

chars-drop : (k : ℕ) (u : List ℕ) → chars_from k u ≡ chars_from 0 (drop k u)
unfolding chars_from
chars-drop zero u = refl
chars-drop (suc k) [] = refl
chars-drop (suc k) (a ∷ u) = chars-drop k u

-- no character: no text
pub front-none : (u : List ℕ) → 0 < length u → front_size u ≡ 0 → is_text u ≡ false
unfolding front_size chars_from
front-none [] h e = absurd (omega arith)
front-none (a ∷ u) h e = text-is (a ∷ u) ∙ rw e

-- a character of n bytes: text where the rest is
pub front-some : (u : List ℕ) (n : ℕ) → 0 < length u → front_size u ≡ n → 0 < n → is_text u ≡ is_text (drop n u)
unfolding front_size chars_from
front-some [] n h e p = absurd (omega arith)
front-some (a ∷ u) zero h e p = absurd (omega arith)
front-some (a ∷ u) (suc n) h e p =
    let m : suc n - 1 ≡ n = omega arith in
    text-is (a ∷ u) ∙ rw (e, eqb-suc-zero n, m) (chars-drop n u ∙ sym (text-is (drop n u)))

-- a character's bytes are all there, since none behind the first is 0
pub front_fits : (u : List ℕ) → 0 < length u → front_size u ≤ length u
unfolding front_size
front_fits u h = go u h (told (get_or u 0 0) (get_or u 1 0) (get_or u 2 0) (get_or u 3 0))
  where
    go : (u : List ℕ) {n : ℕ} → 0 < length u → Told (get_or u 0 0) (get_or u 1 0) (get_or u 2 0) (get_or u 3 0) n → n ≤ length u
    go u h (is1 p) = h
    go u h (is2 p) = byte-room u 1 (behind2 p)
    go u h (is3 p) = byte-room u 2 (behind3 p).1
    go u h (is4 p) = byte-room u 3 (behind4 p).1.1
    go u h is0 = omega arith

-- ---- a run of ASCII

pub ascii-front : (a : ℕ) (u : List ℕ) → a < 0x80 → is_text (a ∷ u) ≡ is_text u
unfolding front_size
ascii-front a u h =
    front-some (a ∷ u) 1 (omega arith) (size1 a (get_or u 0 0) (get_or u 1 0) (get_or u 2 0) (x00-7F (record { from = omega arith; to = omega arith }))) (omega arith)

pub ascii_run : {v : List ℕ} → Ascii v → (u : List ℕ) → is_text (v ++ u) ≡ is_text u
ascii_run bare u = refl
ascii_run (ascii {a} {u = v} h r) u = ascii-front a (v ++ u) h ∙ ascii_run r u

ascii_take : (k : ℕ) {v : List ℕ} → Ascii v → Ascii (take k v)
ascii_take zero r = bare
ascii_take (suc k) bare = bare
ascii_take (suc k) (ascii h r) = ascii h (ascii_take k r)

ascii_drop : (k : ℕ) {v : List ℕ} → Ascii v → Ascii (drop k v)
ascii_drop zero r = r
ascii_drop (suc k) bare = bare
ascii_drop (suc k) (ascii h r) = ascii_drop k r

pub ascii-part : (at k : ℕ) {v : List ℕ} → Ascii v → Ascii (part v at k)
ascii-part at k r = ascii_take k (ascii_drop at r)

pub ascii-text : {v : List ℕ} → Ascii v → is_text v ≡ true
unfolding chars_from
ascii-text bare = text-is []
ascii-text (ascii {a} {u = v} h r) = ascii-front a v h ∙ ascii-text r
