-- What writing answers and leaves, by what measuring told of the listing. Assumes nothing.
use mathlib.Core.Path.{◌≡◌, sym, ap, ◌∙◌, subst}
use mathlib.Core.Bool.{true}
use mathlib.Core.Option.{none, some, some-injective}
use mathlib.Core.List.{List, ◌++◌}
use Prim.Native.Nat.{ℕ, ◌+◌, ◌≤◌, ◌<◌}
use native.Mathlib.Omega.{arith}
use lib.ListN.{length, take, drop}
use lib.Seq.{sets-eq}
use borrow.Author.Tests.{le-leb, lt-leb}
use Rattle.schema.specs.Types.{ro}
use Rattle.schema.specs.Reading.{judged}
use Rattle.schema.specs.Walk.{fields_of}
use Rattle.layout.specs.Cells.{node}
use Rattle.layout.specs.Refusals.{Refusal, numbered}
use Rattle.layout.specs.Layout.{content}
use Rattle.layout.specs.Entries.{is_accepted, image_of, Sized, takes, refused_with, write_of, written_of}
use Rattle.table.specs.Tables.{schema_of, Table}
use Rattle.measuring.specs.Row.{RowGives}
use Rattle.putting.specs.Put.{PutRow}

module _ (s l : List ℕ) (room : ℕ) (e : is_accepted (judged s) ≡ true) where
  write-listing : image_of s l ≡ none → refused_with (numbered 2) 0 ≡ write_of s l room
  unfolding write_of
  write-listing f = rw (e, f)

  module _ (u : List ℕ) (f : image_of s l ≡ some u) where
    write-long : 16384 < length u → refused_with (numbered 3) 0 ≡ write_of s l room
    unfolding write_of
    write-long h = rw (e, f, lt-leb _ _ h)

    write-room : length u ≤ 16384 → room < length u → refused_with (numbered 4) (length u) ≡ write_of s l room
    unfolding write_of
    write-room h g = rw (e, f, le-leb _ _ h, lt-leb _ _ g)

    write_done : length u ≤ 16384 → length u ≤ room → takes (length u) ≡ write_of s l room
    unfolding write_of
    write_done h g = rw (e, f, le-leb _ _ h, le-leb _ _ g)

-- a refusal leaves the output as it was
left_alone : (s l out : List ℕ) (n : Refusal) (k : ℕ) → refused_with n k ≡ write_of s l (length out) → out ≡ written_of s l out
unfolding written_of
left_alone s l out n k e = rw (← e)

left-filled : (s l out : List ℕ) (n : ℕ) (u : List ℕ) → takes n ≡ write_of s l (length out) → image_of s l ≡ some u → length u ≤ length out → n ≡ length u
    → u ++ drop n out ≡ written_of s l out
unfolding written_of
left-filled s l out n u e f h g = rw (← e, f) (sym (sets-eq u out 0 (omega arith) ∙ after))
  where
    after : take 0 out ++ u ++ drop (0 + length u) out ≡ u ++ drop n out
    after = let z : 0 + length u ≡ n = omega arith in rw z

-- answer and output together
pub record Answers (s l out y : List ℕ) (a : Sized) : Type 0 where
  pub answer : a ≡ write_of s l (length out)
  pub bytes : y ≡ written_of s l out

-- in the words of the code
accepted : {t : List ℕ} → Table t → is_accepted (judged (schema_of t)) ≡ true
accepted h = rw h.accepted

module _ {t : List ℕ} (h : Table t) (l out : List ℕ) where
  alone : (r : Refusal) (k : ℕ) → refused_with r k ≡ write_of (schema_of t) l (length out) → Answers (schema_of t) l out out (refused_with r k)
  alone r k e = record { answer = e; bytes = left_alone (schema_of t) l out r k e }

  pub no-listing : image_of (schema_of t) l ≡ none → Answers (schema_of t) l out out (refused_with (numbered 2) 0)
  no-listing e = alone (numbered 2) 0 (write-listing (schema_of t) l (length out) (accepted h) e)

  -- the row has n bytes
  module _ {n : ℕ} (gives : RowGives (schema_of t) l n) where
    abbrev row : List ℕ
    row = content (ro (fields_of (schema_of t))) (node gives.cells)

    pub too_long : 16384 < n → Answers (schema_of t) l out out (refused_with (numbered 3) 0)
    too_long g = alone (numbered 3) 0 (write-long (schema_of t) l (length out) (accepted h) row gives.image (omega (arith, gives.is)))

    module _ (short : n ≤ 16384) where
      short_row : length row ≤ 16384
      short_row = omega (arith, gives.is)

      pub no_room : length out < n → Answers (schema_of t) l out out (refused_with (numbered 4) n)
      no_room g =
          subst (λ (k : ℕ). Answers (schema_of t) l out out (refused_with (numbered 4) k)) (sym gives.is)
          (alone (numbered 4) (length row) (write-room (schema_of t) l (length out) (accepted h) row gives.image short_row (omega (arith, gives.is))))

      pub row-can : {m : ℕ} → m ≡ n → PutRow t l m
      row-can e = rw e (record { table = h; gives = gives; small = short })

      pub all_done : n ≤ length out → {y : List ℕ} → some y ≡ image_of (schema_of t) l → Answers (schema_of t) l out (y ++ drop n out) (takes n)
      all_done g {y} f =
          let eq : y ≡ row = some-injective _ _ (f ∙ gives.image) in
          let a : takes n ≡ write_of (schema_of t) l (length out) = ap takes gives.is
          ∙ write_done (schema_of t) l (length out) (accepted h) row gives.image short_row (omega (arith, gives.is)) in
          let long : n ≡ length y = omega (arith, gives.is, ap length eq) in
          record { answer = a; bytes = left-filled (schema_of t) l out n y a (sym f) (omega (arith, long)) long }
