-- What the functions of `shelf` ask of a catalogue's lent bytes and hand on of them. Assumes nothing: these are definitions.
use Rattle.std.specs.Prelude.{◌≡◌, Bool, true, false, not, ◌&&◌, ◌||◌, List, ℕ, ◌-◌, ◌≤◌, ◌<◌, eqb, leb, length, take, drop, Option, None, Some, Result, Ok, Err}
use Rattle.schema.specs.Reading.{judged}
use Rattle.layout.specs.Entries.{is_accepted}
use Rattle.answers.specs.declared.Refusal.{Refusal}
use Rattle.answers.specs.declared.Refusal.TheVariants as F
use Rattle.answers.specs.declared.Span.{Span}
use Rattle.shelf.specs.Catalogue.{count_in, size_of, start_of, schema_in, schemas_to, number_among, among, is_catalogue}

-- the first n schemas have at most 1,024 bytes each, so they lie in the lent bytes
pub record Short (t : List ℕ) (n : ℕ) : Type 0 where
  pub size : length t ≡ 16417
  pub few : n ≤ 16
  pub short : (i : ℕ) → i < n → size_of t i ≤ 1024

-- the number of s among schemas, and none where it is none of them
abbrev pub NumberAs : List ℕ → List (List ℕ) → Option ℕ → Type 0
NumberAs s ss None = number_among s ss ≡ length ss
NumberAs s ss (Some i) = (i ≡ number_among s ss) × (i < length ss)

-- s is none of the first i schemas, and it keeps its rules or its number is k
unfoldable pub stands_but : List ℕ → ℕ → List ℕ → ℕ → Bool
stands_but t i s k = not (among s (schemas_to t i)) && (eqb i k || is_accepted (judged s))

-- the schemas end at a place, and the bytes are a catalogue but for the rules of schema k, where there is one
pub record SoundBut (t : List ℕ) (k end : ℕ) : Type 0 where
  pub lies : Short t (count_in t)
  pub ends : end ≡ start_of t (count_in t)
  pub all : is_catalogue t ≡ (leb (count_in t) k || is_accepted (judged (schema_in t k)))

-- where they end, and none where the bytes are no catalogue
abbrev pub JudgedBut : List ℕ → ℕ → Option ℕ → Type 0
JudgedBut t k None = is_catalogue t ≡ false
JudgedBut t k (Some end) = SoundBut t k end

-- schema k lies from start to end, and the bytes are a catalogue but for its rules
pub record SchemaAt (t : List ℕ) (k start end : ℕ) : Type 0 where
  pub given : k < count_in t
  pub forward : start ≤ end
  pub within : end ≤ length t
  pub is : take (end - start) (drop start t) ≡ schema_in t k
  pub all : is_catalogue t ≡ is_accepted (judged (schema_in t k))

-- a catalogue that has not given out the number
pub record Ungiven (t : List ℕ) (k : ℕ) : Type 0 where
  pub sound : is_catalogue t ≡ true
  pub past : count_in t ≤ k

-- what looking for schema k comes to
pub data FoundAs (t : List ℕ) (k : ℕ) : Result Span Refusal → Type 0 where
  is_broken : is_catalogue t ≡ false → FoundAs t k (Err F.Schema)
  is_past : Ungiven t k → FoundAs t k (Err F.NoNumber)
  is_at : {s : Span} → SchemaAt t k s.start s.end → FoundAs t k (Ok s)
