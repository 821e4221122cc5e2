-- The entries by number: as with the schema itself, or refused with 1 or 13. Assumes nothing.
use mathlib.Core.Path.{◌≡◌, refl}
use mathlib.Core.Bool.{Bool, true, false}
use mathlib.Core.Option.{some}
use mathlib.Core.List.{List}
use Prim.Native.Nat.{ℕ, ◌<◌}
use native.Mathlib.Omega.{arith}
use lib.Dec.{ltb}
use borrow.Author.Tests.{ltb-false, lt-ltb, le-ltb}
use Rattle.layout.specs.Refusals.{numbered}
use Rattle.layout.specs.Setting.{unless, ◌or◌}
use Rattle.shelf.specs.Catalogue.{count_in, schema_in, is_catalogue}
use Rattle.shelf.specs.Places.{Ungiven}
use Rattle.catalogue.specs.Entries.{number_bad, check_at, read_at, set_at, list_at, listed_at, write_at, written_at}
use Rattle.catalogue.specs.Kept.{Asked, check, write, list, read, set, ends, ends_at, refusing}

-- a number that was given out
pub by_number : (t : List ℕ) (k : ℕ) (q : Asked) → is_catalogue t ≡ true → k < count_in t → ends_at t k q ≡ ends (schema_in t k) q
unfolding check_at read_at set_at list_at listed_at write_at written_at
by_number t k (check row) e l = rw (e, lt-ltb k (count_in t) l)
by_number t k (write s out) e l = rw (e, lt-ltb k (count_in t) l)
by_number t k (list row out) e l = rw (e, lt-ltb k (count_in t) l)
by_number t k (read row p) e l = rw (e, lt-ltb k (count_in t) l)
by_number t k (set row p x) e l = rw (e, lt-ltb k (count_in t) l)

-- no catalogue
pub no-catalogue : (t : List ℕ) (k : ℕ) (q : Asked) → is_catalogue t ≡ false → ends_at t k q ≡ refusing (numbered 1) q
unfolding check_at read_at set_at list_at listed_at write_at written_at
no-catalogue t k (check row) e = rw e
no-catalogue t k (write s out) e = rw e
no-catalogue t k (list row out) e = rw e
no-catalogue t k (read row p) e = rw e
no-catalogue t k (set row p x) e = rw e

-- a number that was not
not-given : (t : List ℕ) (k : ℕ) (q : Asked) → is_catalogue t ≡ true → ltb k (count_in t) ≡ false → ends_at t k q ≡ refusing (numbered 13) q
unfolding check_at read_at set_at list_at listed_at write_at written_at
not-given t k (check row) e l = rw (e, l)
not-given t k (write s out) e l = rw (e, l)
not-given t k (list row out) e l = rw (e, l)
not-given t k (read row p) e l = rw (e, l)
not-given t k (set row p x) e l = rw (e, l)

pub thirteen : (t : List ℕ) (k : ℕ) (q : Asked) → Ungiven t k → ends_at t k q ≡ refusing (numbered 13) q
thirteen t k q n = not-given t k q n.sound (le-ltb k (count_in t) n.past)

thirteen-by : (c l : Bool) → (unless c 1 or unless l 13) ≡ some (numbered 13) → (c ≡ true) × (l ≡ false)
thirteen-by true false e = (refl, refl)
thirteen-by true true e = let z : ◌≡◌ {A = ℕ} 0 1 = cc in absurd (omega arith)
thirteen-by false l e = let z : ◌≡◌ {A = ℕ} 1 13 = cc in absurd (omega arith)

pub thirteen-then : (t : List ℕ) (k : ℕ) → number_bad t k ≡ some (numbered 13) → Ungiven t k
thirteen-then t k e =
    let q = thirteen-by (is_catalogue t) (ltb k (count_in t)) e in
    record { sound = q.0; past = ltb-false k (count_in t) q.1 }
