-- The whole card of a row, in listing order, and what the walk over it asks. Assumes nothing: these are definitions.
use Rattle.std.specs.Prelude.{◌≡◌, List, [], ◌∷◌, ◌++◌, ℕ, zero, suc, ◌-◌, ◌≤◌, length}
use Rattle.layout.specs.Entries.{read_of}
use Rattle.answers.specs.declared.Path.{Path}
use Rattle.answers.specs.Paths.{path_of}
use Rattle.reading.specs.Finding.{Open}
use Rattle.leaves.specs.Places.{below, text_at}

-- the texts that f gives for the first n places below p, one behind the other
unfoldable pub in_order : (List ℕ → List ℕ) → List ℕ → ℕ → List ℕ
in_order f p zero = []
in_order f p (suc n) = in_order f p n ++ f (p ++ (n ∷ []))

-- the line of the place p, and then those of all places at most d steps below it: depth first, fields and elements in order, a map's
-- keys before its values
unfoldable pub card_from : ℕ → List ℕ → List ℕ → List ℕ → List ℕ
card_from zero s row p = text_at s row p
card_from (suc d) s row p = text_at s row p ++ in_order (λ q. card_from d s row q) p (below (read_of s row p))

-- the card: no path has more than 16 steps
unfoldable pub card_of : List ℕ → List ℕ → List ℕ
card_of s row = card_from 16 s row []

-- ---- the walk

pub record WalkRoom (t row : List ℕ) (p : Path) (out : List ℕ) (used : ℕ) : Type 0 where
  pub opened : Open t row
  pub few : p.len ≤ 16
  pub steps : length p.steps ≡ 16
  pub room : length out ≡ 262144
  pub within : used ≤ length out

-- the place p and all below it, of the paths that have at most 16 steps
abbrev pub card_at : List ℕ → List ℕ → Path → List ℕ
card_at s row p = card_from (16 - p.len) s row (path_of p)
