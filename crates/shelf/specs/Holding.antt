-- A catalogue as a list of schemas, and the lent bytes that hold it. Assumes nothing: these are definitions.
use Rattle.std.specs.Prelude.{◌≡◌, List, [], ℕ, ◌≤◌, ◌<◌, length, take, get_or}
use Rattle.schema.specs.Reading.{judged}
use Rattle.schema.specs.declared.Judged.TheVariants.{Accepted}
use Rattle.shelf.specs.Catalogue.{used}

-- at most 16 different schemas
pub record Catalogue (ss : List (List ℕ)) : Type 0 where
  pub few : length ss ≤ 16
  pub schemas : (i : ℕ) → i < length ss → judged (get_or ss i []) ≡ Accepted
  pub different : (i j : ℕ) → i < j → j < length ss → get_or ss i [] ≡ get_or ss j [] → ⊥

-- 16,417 bytes hold it: they begin with its used bytes
pub record Holds (t : List ℕ) (ss : List (List ℕ)) : Type 0 where
  pub size : length t ≡ 16417
  pub is : Catalogue ss
  pub begins : take (length (used ss)) t ≡ used ss
