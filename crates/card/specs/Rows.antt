-- What the card tool writes for a batch. Assumes nothing: these are definitions.
use Rattle.std.specs.Prelude.{List, [], ◌∷◌, ◌++◌, ℕ, suc}
use Rattle.layout.specs.Refusals.{number_in}
use Rattle.batch.specs.Entries.{Checking, done, refused, refused_row, rows_of, check_of}
use Rattle.lettering.specs.Text.{numbered}
use Rattle.leaves.specs.Whole.{card_of}
use Rattle.card.specs.Input.{split_of}
use Rattle.card.specs.Output.{refusal, by_split}

-- `row`, space, the row's number
unfoldable pub heading : ℕ → List ℕ
heading k = numbered (114 ∷ 111 ∷ 119 ∷ 32 ∷ []) k

-- the heading and the card of each row in turn, the first of them row k
unfoldable pub rows_text : List ℕ → ℕ → List (List ℕ) → List ℕ
rows_text s k [] = []
rows_text s k (row ∷ rows) = heading k ++ (card_of s row ++ rows_text s (suc k) rows)

-- the text of an accepted batch, or only the refusal, with the number that check gives
abbrev pub by_checking : Checking → List ℕ → List ℕ
by_checking done text = text
by_checking (refused r) text = refusal (number_in r)
by_checking (refused_row k r) text = refusal (number_in r)

unfoldable pub batch_text : List ℕ → List ℕ → List ℕ
batch_text s b = by_checking (check_of s b) (rows_text s 0 (rows_of b))

-- the schema as for one row, and the rest is the batch
unfoldable pub batch_output_of : List ℕ → List ℕ
batch_output_of input = by_split batch_text (split_of input) input
