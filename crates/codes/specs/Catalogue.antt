-- What the entries of a catalogue answer a C program: the number of a schema that was added in the lower half; and a setting by number and by
-- kind. Assumes nothing: these are definitions.
use Rattle.std.specs.Prelude.{◌≡◌, List, ℕ}
use Rattle.std.proofs.Math.Option.{Option}
use Rattle.layout.specs.Setting.{Setting, Outcome}
use Rattle.layout.specs.Entries.{set_after}
use Rattle.row.specs.Outcomes.{Low}
use Rattle.shelf.specs.Catalogue.{schema_in}
use Rattle.catalogue.specs.Entries.{Numbering, given, refused, add_of, added_of, number_bad}
use Rattle.codes.specs.Asked.{set_asked}
use Rattle.codes.specs.Codes.{refusal_code}

abbrev pub numbering_code : Numbering → ℕ
numbering_code (given n) = n
numbering_code (refused r) = refusal_code r

-- a place is within the limit of a row
abbrev pub LowNumbering : Numbering → Type 0
LowNumbering (given n) = Unit {0}
LowNumbering (refused r) = Low 16384 r

-- adding a schema: the code r, and what the catalogue holds after
pub record AddsTo (t s : List ℕ) (r : ℕ) (t' : List ℕ) : Type 0 where
  pub answers : r ≡ numbering_code (add_of t s)
  pub leaves : t' ≡ added_of t s

-- 1, 13, and then as with the schema itself
abbrev pub set_asked_at : List ℕ → ℕ → List ℕ → List ℕ → Option Setting → Outcome
set_asked_at t k row p x = set_after (number_bad t k) (set_asked (schema_in t k) row p x)
