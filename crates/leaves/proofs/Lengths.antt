-- A line of the card, piece by piece, and how long it is at most. Assumes nothing.
use mathlib.Core.Path.{◌≡◌, ap₂, ◌∙◌, sym}
use mathlib.Core.List.{List, [], ◌∷◌, ◌++◌}
use Prim.Native.Nat.{ℕ, ◌+◌, ◌/◌, ◌%◌, ◌≤◌, ◌<◌}
use native.Mathlib.Omega.{arith}
use lib.Bits.{bit_and}
use lib.ListN.{length, length-append}
use Rattle.words.specs.Bytes.{part}
use Rattle.words.proofs.Parts.{length_part}
use Rattle.words.proofs.Powers.{mask_is}
use Rattle.schema.specs.Marks.{line as line_in, mark_at}
use Rattle.schema.proofs.Table.{mark-two}
use Rattle.layout.specs.Reading as R
use Rattle.layout.specs.Reading.{Answer}
use Rattle.table.specs.Words.{lower, mark_in, place_in, Lined}
use Rattle.table.proofs.Decode.{below}
use Rattle.answers.specs.declared.Path.{Path}
use Rattle.answers.specs.Paths.{path_of}
use Rattle.reading.specs.Texts.{InRow}
use Rattle.lettering.specs.Text.{path, Puts}
use Rattle.lettering.proofs.Putting.{puts_then, puts-as}
use Rattle.lettering.proofs.Lengths.{hex-length, signed-most, bytes_most, path-sixteen}
use Rattle.leaves.specs.Lines.{contents, line}
use Rattle.leaves.specs.Room.{LineRoom}

-- ---- the mark that an entry says

pub mark-small : (w : ℕ) {m : ℕ} → m ≡ mark_in w → m < 65536
unfolding mark_in
mark-small w e = rw e (omega arith)

module _ {w m : ℕ} (l : Lined w) (e : m ≡ mark_in w) where
  pair_is : bit_and m 255 ∷ m / 256 ∷ [] ≡ mark_at (place_in w)
  unfolding mark_at
  pair_is =
      let b = below (place_in w) l.few in
      let is : m ≡ lower (place_in w) % 65536 = e ∙ l.mark ∙ sym b.mark in
      let first : bit_and m 255 ≡ (line_in (place_in w)).first = mask_is m 8 ∙ halves-first m (lower (place_in w)) is ∙ b.first in
      let second : m / 256 ≡ (line_in (place_in w)).second = halves-second m (lower (place_in w)) is ∙ b.second in
      ap₂ (λ (x y : ℕ). x ∷ y ∷ []) first second
    where
      halves-first : (m n : ℕ) → m ≡ n % 65536 → m % 256 ≡ n % 256
      halves-first m n e = omega arith

      halves-second : (m n : ℕ) → m ≡ n % 65536 → m / 256 ≡ n / 256 % 256
      halves-second m n e = omega arith

  pub mark-puts : {a b c : List ℕ} {at next r : ℕ} → Puts a at (bit_and m 255 ∷ []) next b → Puts b next (m / 256 ∷ []) r c
      → Puts a at (mark_at (place_in w)) r c
  mark-puts p q = puts-as pair_is (puts_then p q)

-- ---- how long

contents-most : (row : List ℕ) (a : Answer) → length row ≤ 16384 → InRow row a → length (contents row a) ≤ 32769
unfolding contents
contents-most row R.null s h = omega arith
contents-most row (R.bool v) s h = omega arith
contents-most row (R.signed z) s h = omega (arith, signed-most z)
contents-most row (R.float32 n) s h = omega (arith, hex-length 8 n)
contents-most row (R.float64 n) s h = omega (arith, hex-length 16 n)
contents-most row (R.bytes o n) s h = omega (arith, bytes_most (part row o n), length_part row o n h, h)
contents-most row (R.container o n k) s h = omega arith
contents-most row (R.refused n) s h = omega arith

module _ {out : List ℕ} {at : ℕ} {p : Path} {w : ℕ} {row : List ℕ} {a : Answer} (q : LineRoom out at p w row a) where
  pub line-most : length (line (path_of p) (mark_at (place_in w)) row a) ≤ 33110
  unfolding line
  line-most =
      let c = length-append (contents row a) (10 ∷ []) in
      let m = length-append (mark_at (place_in w)) ((32 ∷ []) ++ (contents row a ++ (10 ∷ []))) in
      rw (length-append (path (path_of p)))
      (omega (arith, path-sixteen p q.few, mark-two (place_in w), contents-most row a q.short q.within))

  -- the room that is left behind the path
  pub path-left : {out' : List ℕ} {r : ℕ} → Puts out at (path (path_of p)) r out' → length out' ≡ length out → r + 32774 ≤ length out'
  path-left u e = omega (arith, q.room, u.next, path-sixteen p q.few)

  -- and behind the contents
  pub contents-left : {out₁ out₂ : List ℕ} {next r : ℕ} → next + 32770 ≤ length out₁ → Puts out₁ next (contents row a) r out₂
      → length out₂ ≡ length out₁ → r + 1 ≤ length out₂
  contents-left h u e = omega (arith, u.next, contents-most row a q.short q.within)

pub byte_left : {out out' : List ℕ} {at r b : ℕ} (n : ℕ) → at + (1 + n) ≤ length out → Puts out at (b ∷ []) r out' → length out' ≡ length out
    → r + n ≤ length out'
byte_left n h u e = omega (arith, u.next)

pub mark-left : {out out' : List ℕ} {at r : ℕ} (k n : ℕ) → at + (2 + n) ≤ length out → Puts out at (mark_at k) r out' → length out' ≡ length out
    → r + n ≤ length out'
mark-left k n h u e = omega (arith, u.next, mark-two k)
