-- What measuring a whole listing against an accepted schema answers. Assumes nothing: these are definitions.
use Rattle.std.specs.Prelude.{◌≡◌, List, ℕ, ◌≤◌, length, drop, Option, MatchOption}
use Rattle.std.proofs.Math.Option.{none, some}
use Rattle.schema.specs.Types.{ro}
use Rattle.schema.specs.Walk.{fields_of}
use Rattle.layout.specs.Cells.{Cell, node}
use Rattle.layout.specs.Layout.{content}
use Rattle.layout.specs.Listing.{run_get, scripts}
use Rattle.layout.specs.Entries.{image_of}

-- the listing is one of the schema's, and its row has n bytes
pub record RowGives (s l : List ℕ) (n : ℕ) : Type 0 where
  pub cells : List Cell
  pub rest : List ℕ
  pub reads : run_get (scripts (fields_of s)) (drop 2 l) ≡ some (cells, rest)
  pub image : image_of s l ≡ some (content (ro (fields_of s)) (node cells))
  pub is : n ≡ length (content (ro (fields_of s)) (node cells))
  pub short : length l ≤ 65536

-- how many bytes its row has, none where the listing is refused
abbrev pub RowTold : List ℕ → List ℕ → Option ℕ → Type 0
RowTold s l r = MatchOption r (image_of s l ≡ none) (λ n. RowGives s l n)
