-- Where a catalogue's entries start, and that short ones lie in the lent bytes. Assumes nothing.
use mathlib.Core.Path.{◌≡◌, ap, ◌∙◌}
use mathlib.Core.List.{List}
use Prim.Native.Nat.{ℕ, zero, suc, ◌+◌, ◌*◌, ◌≤◌, ◌<◌}
use native.Mathlib.Omega.{arith}
use native.Mathlib.Numerals.{add-one}
use lib.ListN.{length}
use Rattle.words.specs.Reads.{Reads}
use Rattle.shelf.specs.Catalogue.{size_at, size_of, start_of}
use Rattle.shelf.specs.Places.{Short}

-- from an entry to the next, as the code goes
pub start-next : {t : List ℕ} {at r : ℕ} (i : ℕ) → at ≡ start_of t i → Reads t at 2 r → at + (2 + r) ≡ start_of t (i + 1)
unfolding start_of
start-next {t} i e h =
    let n : _ ≡ size_of t i = h.is ∙ ap (size_at t) e in
    rw (add-one i) (omega arith)

module _ {t : List ℕ} {n : ℕ} (h : Short t n) where
  pub short-first : (i : ℕ) → i ≤ n → Short t i
  short-first i l = record { size = h.size; few = omega arith; short = λ j m. h.short j (omega arith) }

  -- 1,024 bytes and their length for each before it
  pub start-most : (i : ℕ) → i ≤ n → start_of t i ≤ 1 + 1026 * i
  unfolding start_of
  start-most zero l = omega arith
  start-most (suc i) l = omega (arith, start-most i (omega arith), h.short i l)

  pub entry-lies : (i : ℕ) → i < n → start_of t i + 2 + size_of t i ≤ length t
  entry-lies i l = omega (arith, start-most i (omega arith), h.short i l)

  -- as the code meets it
  pub at_lies : (i at : ℕ) → i < n → at ≡ start_of t i → at + 2 + size_at t at ≤ length t
  at_lies i at l e = rw e (entry-lies i l)
