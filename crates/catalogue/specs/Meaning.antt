-- What the entries' answers mean, by the document's numbers. Assumes nothing: these are definitions.
use Rattle.std.specs.Prelude.{◌≡◌, true, false, List, ℕ, ◌≤◌, length, Result, Ok, Err}
use Rattle.words.specs.Bytes.{Bytes}
use Rattle.schema.specs.Reading.{judged}
use Rattle.schema.specs.declared.Judged.TheVariants.{Accepted}
use Rattle.answers.specs.Meaning.{Length, refusal_means, length_of, length_means}
use Rattle.shelf.specs.Catalogue.{count_in, start_of, schemas_in, number_among, is_catalogue}
use Rattle.answers.specs.declared.Refusal.{Refusal}
use Rattle.answers.specs.declared.Refusal.TheVariants.{Schema}
use Rattle.catalogue.specs.declared.Standing.{Standing}
use Rattle.catalogue.specs.declared.Standing.TheVariants as S
use Rattle.catalogue.specs.Kept.{Asked, ends, ends_at, refusing}
use Rattle.catalogue.specs.Entries.{Numbering, given, refused, add_of, added_of, list_at, listed_at, write_at, written_at}

abbrev pub number_means : Length → Numbering
number_means (Ok n) = given n
number_means (Err r) = refused (refusal_means r)

-- add: the answer r, and what the catalogue holds after
pub record Adds (t s : List ℕ) (r : Length) (t' : List ℕ) : Type 0 where
  pub answers : number_means r ≡ add_of t s
  pub leaves : t' ≡ added_of t s

-- a catalogue whose schemas end at a place, and a schema that is none of them
pub record Behind (t s : List ℕ) (end : ℕ) : Type 0 where
  pub bytes : Bytes t
  pub sound : is_catalogue t ≡ true
  pub ends : end ≡ start_of t (count_in t)
  pub new : count_in t ≤ number_among s (schemas_in t)

-- where a schema stands, in bytes that are a catalogue; at its number it is added with no change
abbrev pub StandsAs : List ℕ → List ℕ → Result Standing Refusal → Type 0
StandsAs t s (Ok (S.At k)) = Adds t s (Ok k) t
StandsAs t s (Ok (S.Behind end)) = Behind t s end
StandsAs t s (Err r) = (is_catalogue t ≡ false) × (r ≡ Schema)

-- and it is one
pub record Entering (t : List ℕ) (end : ℕ) (s : List ℕ) : Type 0 where
  pub behind : Behind t s end
  pub schema : judged s ≡ Accepted

-- every entry with the schema s ends as by the number k
abbrev pub GoesOn : List ℕ → ℕ → List ℕ → Type 0
GoesOn t k s = (q : Asked) → ends s q ≡ ends_at t k q

-- every entry by the number k ends with the refusal r, which is no 4
pub record EndsBy (t : List ℕ) (k : ℕ) (r : Refusal) : Type 0 where
  pub ends : (q : Asked) → refusing (refusal_means r) q ≡ ends_at t k q
  pub roomless : length_of r ≡ 0

-- list and write: the answer r, and what the output holds after
pub record ListsAt (t : List ℕ) (k : ℕ) (row out : List ℕ) (r : Length) (out' : List ℕ) : Type 0 where
  pub answers : length_means r ≡ list_at t k row (length out)
  pub leaves : out' ≡ listed_at t k row out

pub record WritesAt (t : List ℕ) (k : ℕ) (l out : List ℕ) (r : Length) (out' : List ℕ) : Type 0 where
  pub answers : length_means r ≡ write_at t k l (length out)
  pub leaves : out' ≡ written_at t k l out
