-- The input of the card: a length of two bytes, the schema, the row or the batch. Assumes nothing: these are definitions.
use Rattle.std.specs.Prelude.{ℕ, ◌+◌, ◌-◌, List, Option, Some, None, ltb, length}
use Rattle.words.specs.Bytes.{num, part}
use Rattle.schema.specs.Kinds.{pick}

-- the schema's length that the input announces
unfoldable pub announced : List ℕ → ℕ
announced s = num (part s 0 2)

-- where the schema ends: at 2 and its length, but nowhere under two bytes, or where the input is shorter than announced
unfoldable pub split_of : List ℕ → Option ℕ
split_of s = pick (ltb (length s) 2) None (pick (ltb (length s - 2) (announced s)) None (Some (2 + announced s)))
