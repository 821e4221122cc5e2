-- What each entry answers, as a function of the lent bytes: its refusals in the document's order, and then the result; and what the lent
-- bytes hold after. Assumes nothing: these are definitions.
use Rattle.std.specs.Prelude.{not, ◌&&◌, cond, List, [], ◌∷◌, ◌++◌, ℕ, eqb, ltb}
use Rattle.std.proofs.Math.Option.{Option, none, some}
use Rattle.std.proofs.lemmas.List.Edits.{sets}
use Rattle.layout.specs.Refusals.{Refusal}
use Rattle.layout.specs.Reading.{Answer}
use Rattle.layout.specs.Setting.{Setting, Outcome, unless, ◌or◌}
use Rattle.layout.specs.Entries as E
use Rattle.layout.specs.Entries.{Verdict, Sized, refused_with, schema_bad, check_of, write_of, written_of, list_of, listed_of, read_of, set_of, read_after, set_after}
use Rattle.shelf.specs.Catalogue.{used, count_in, schema_in, schemas_in, number_among, among, is_catalogue}

-- 1: the lent bytes are no catalogue
abbrev pub catalogue_bad : List ℕ → Option Refusal
catalogue_bad t = unless (is_catalogue t) 1

-- ---- adding a schema

-- a number, or a refusal
pub data Numbering : Type 0 where
  given : ℕ → Numbering
  refused : Refusal → Numbering

abbrev pub number_after : Option Refusal → ℕ → Numbering
number_after none n = given n
number_after (some r) n = refused r

-- 12: all 16 are used and the schema is not among them
abbrev pub none_left : List ℕ → List ℕ → Option Refusal
none_left t s = unless (not (eqb (count_in t) 16 && not (among s (schemas_in t)))) 12

-- the number of the schema: its old one, or the next
unfoldable pub add_of : List ℕ → List ℕ → Numbering
add_of t s = number_after (catalogue_bad t or schema_bad s or none_left t s) (number_among s (schemas_in t))

-- the schemas with s: as they are where it is among them, and otherwise s behind them
unfoldable pub with_schema : List (List ℕ) → List ℕ → List (List ℕ)
with_schema ss s = cond (among s ss) ss (ss ++ (s ∷ []))

-- what the lent bytes hold after: their used bytes are those of the schemas with s; after a refusal all as it was
abbrev pub left_by : Numbering → List ℕ → List ℕ → List ℕ
left_by (given n) u t = sets t 0 u
left_by (refused r) u t = t

unfoldable pub added_of : List ℕ → List ℕ → List ℕ
added_of t s = left_by (add_of t s) (used (with_schema (schemas_in t) s)) t

-- ---- by number: 1, 13, and then as with the schema itself

-- 13: a number not given out
abbrev pub number_bad : List ℕ → ℕ → Option Refusal
number_bad t k = catalogue_bad t or unless (ltb k (count_in t)) 13

abbrev pub verdict_after : Option Refusal → Verdict → Verdict
verdict_after none v = v
verdict_after (some r) v = E.refused r

abbrev pub size_after : Option Refusal → Sized → Sized
size_after none n = n
size_after (some r) n = refused_with r 0

-- a refusal leaves the lent output as it was
abbrev pub out_after : Option Refusal → List ℕ → List ℕ → List ℕ
out_after none out' out = out'
out_after (some r) out' out = out

unfoldable pub check_at : List ℕ → ℕ → List ℕ → Verdict
check_at t k row = verdict_after (number_bad t k) (check_of (schema_in t k) row)

unfoldable pub read_at : List ℕ → ℕ → List ℕ → List ℕ → Answer
read_at t k row p = read_after (number_bad t k) (read_of (schema_in t k) row p)

unfoldable pub set_at : List ℕ → ℕ → List ℕ → List ℕ → Setting → Outcome
set_at t k row p x = set_after (number_bad t k) (set_of (schema_in t k) row p x)

unfoldable pub list_at : List ℕ → ℕ → List ℕ → ℕ → Sized
list_at t k row room = size_after (number_bad t k) (list_of (schema_in t k) row room)

unfoldable pub listed_at : List ℕ → ℕ → List ℕ → List ℕ → List ℕ
listed_at t k row out = out_after (number_bad t k) (listed_of (schema_in t k) row out) out

unfoldable pub write_at : List ℕ → ℕ → List ℕ → ℕ → Sized
write_at t k l room = size_after (number_bad t k) (write_of (schema_in t k) l room)

unfoldable pub written_at : List ℕ → ℕ → List ℕ → List ℕ → List ℕ
written_at t k l out = out_after (number_bad t k) (written_of (schema_in t k) l out) out
