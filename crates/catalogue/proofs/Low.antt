-- What an entry by number answers is as small as with a schema: a refusal before that has no place and no length. Assumes nothing.
use mathlib.Core.Path.{◌≡◌}
use mathlib.Core.Bool.{not, ◌&&◌}
use mathlib.Core.Option.{Option, none, some}
use mathlib.Core.List.{List}
use Prim.Native.Nat.{ℕ, ◌≤◌}
use native.Mathlib.Omega.{arith}
use lib.Dec.{eqb, ltb}
use Rattle.words.specs.Bytes.{Bytes}
use Rattle.schema.specs.Reading.{judged}
use Rattle.layout.specs.Refusals.{Refusal}
use Rattle.layout.specs.Setting.{Setting, unless, ◌or◌, refusal_in}
use Rattle.layout.specs.Entries.{Verdict, Sized, is_accepted, schema_bad, read_of, set_of, set_verdict}
use Rattle.row.specs.Outcomes.{length_in, Low, LowIn, LowVerdict, LowSized}
use Rattle.row.proofs.Low as R
use Rattle.row.proofs.Low.{low_or, low-unless, read-after, after-low}
use Rattle.row.proofs.Sizes as Z
use Rattle.shelf.specs.Catalogue.{count_in, schema_in, schemas_in, number_among, among, is_catalogue}
use Rattle.catalogue.specs.Entries.{catalogue_bad, number_bad, none_left, number_after, add_of, verdict_after, size_after}
use Rattle.catalogue.specs.Entries.{check_at, read_at, set_at, list_at, write_at, refused}

-- a refusal, and what comes after it
verdict-after : (m : Option Refusal) (v : Verdict) → LowIn 16384 m → LowVerdict 16384 v → LowVerdict 16384 (verdict_after m v)
verdict-after none v l h = h
verdict-after (some r) v l h = l

size-after : (m : Option Refusal) (z : Sized) → LowIn 16384 m → LowSized 16384 z → LowSized 16384 (size_after m z)
size-after none z l h = h
size-after (some r) z l h = l

length-after : (m : Option Refusal) (z : Sized) → length_in z ≤ 49152 → length_in (size_after m z) ≤ 49152
length-after none z h = h
length-after (some r) z h = omega arith

module _ (t : List ℕ) (k : ℕ) where
  bad-low : LowIn 16384 (number_bad t k)
  bad-low = low_or 16384 (catalogue_bad t) (unless (ltb k (count_in t)) 13) (low-unless 16384 (is_catalogue t) 1) (low-unless 16384 (ltb k (count_in t)) 13)

  pub check-low : (row : List ℕ) → LowVerdict 16384 (check_at t k row)
  unfolding check_at
  check-low row = verdict-after (number_bad t k) _ bad-low (R.check-low 16384 (schema_in t k) row (λ h. h))

  pub list-low : (row : List ℕ) (room : ℕ) → LowSized 16384 (list_at t k row room)
  unfolding list_at
  list-low row room = size-after (number_bad t k) _ bad-low (R.list-low 16384 (schema_in t k) row (λ h. h) room)

  pub list-below : (row : List ℕ) (room : ℕ) → Bytes row → length_in (list_at t k row room) ≤ 49152
  unfolding list_at
  list-below row room b = length-after (number_bad t k) _ (Z.list-below (schema_in t k) row room b)

  pub write_low : (l : List ℕ) (room : ℕ) → LowSized 16384 (write_at t k l room)
  unfolding write_at
  write_low l room = size-after (number_bad t k) _ bad-low (R.write_low 16384 (schema_in t k) l room)

  pub write-below : (l : List ℕ) (room : ℕ) → length_in (write_at t k l room) ≤ 49152
  unfolding write_at
  write-below l room = length-after (number_bad t k) _ (Z.write-below (schema_in t k) l room)

  pub read_low : (row p : List ℕ) → LowIn 16384 (refusal_in (read_at t k row p))
  unfolding read_at
  read_low row p =
      let a = read_of (schema_in t k) row p in
      rw (read-after (number_bad t k) a) (low_or 16384 (number_bad t k) (refusal_in a) bad-low (R.read_low 16384 (schema_in t k) row (λ h. h) p))

  pub set-low : (row p : List ℕ) (x : Setting) → LowVerdict 16384 (set_verdict (set_at t k row p x))
  unfolding set_at
  set-low row p x = after-low 16384 (number_bad t k) (set_of (schema_in t k) row p x) bad-low (R.set-low 16384 (schema_in t k) row (λ h. h) p x)

-- adding has no place
pub add_low : (t s : List ℕ) {r : Refusal} → refused r ≡ add_of t s → Low 16384 r
unfolding add_of
add_low t s {r} e = go (catalogue_bad t or schema_bad s or none_left t s) (number_among s (schemas_in t)) bads e
  where
    bads : LowIn 16384 (catalogue_bad t or schema_bad s or none_left t s)
    bads =
        low_or 16384 (catalogue_bad t) _ (low-unless 16384 (is_catalogue t) 1)
        (low_or 16384 (schema_bad s) (none_left t s) (low-unless 16384 (is_accepted (judged s)) 1)
        (low-unless 16384 (not (eqb (count_in t) 16 && not (among s (schemas_in t)))) 12))

    go : (m : Option Refusal) (n : ℕ) → LowIn 16384 m → refused r ≡ number_after m n → Low 16384 r
    go none n l q = let z : ◌≡◌ {A = ℕ} 0 1 = cc in absurd (omega arith)
    go (some x) n l q = let z : x ≡ r = cc in rw (← z) l
