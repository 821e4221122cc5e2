-- Worked batches: the size is 4 bytes, big endian, and says the row's length without itself. Assumes nothing: these are definitions.
use Rattle.std.specs.Prelude.{◌≡◌, List, [], ◌∷◌, ◌++◌, ℕ, pos}
use Rattle.words.specs.Bytes.{zeros}
use Rattle.layout.specs.Refusals.{numbered, broken_at}
use Rattle.layout.specs.Reading as R
use Rattle.layout.specs.Setting as S
use Rattle.layout.specs.Entries.{takes, refused_with}
use Rattle.batch.specs.Entries.{range, refused, done, refused_row, count_of, fetch_of, check_of, append_of, appended_of, read_of, set_of}

-- `ro` 1 `i1`, and its row for a number below 128
abbrev schema : List ℕ
schema = 0x72 ∷ 0x6f ∷ 1 ∷ 0x69 ∷ 0x31 ∷ []

abbrev row_for : ℕ → List ℕ
row_for n = zeros 8 ++ (n ∷ zeros 7)

abbrev framed_for : ℕ → List ℕ
framed_for n = 0 ∷ 0 ∷ 0 ∷ 16 ∷ row_for n

abbrev two : List ℕ
two = framed_for 5 ++ framed_for 6

pub record Table : Type 0 where
  -- no bytes is the empty batch
  pub none : (count_of [] ≡ takes 0) × (check_of schema [] ≡ done) × (fetch_of schema [] 0 ≡ refused (numbered 5))
  pub rows : (count_of two ≡ takes 2) × (check_of schema two ≡ done) × (fetch_of schema two 0 ≡ range 4 16) × (fetch_of schema two 1 ≡ range 24 16)
      × (fetch_of schema two 2 ≡ refused (numbered 5))
  -- ends inside a size; inside a row; a size that is not big endian; the largest size
  pub broken : (count_of (0 ∷ 0 ∷ 0 ∷ []) ≡ refused_with (numbered 10) 0) × (count_of (0 ∷ 0 ∷ 0 ∷ 1 ∷ []) ≡ refused_with (numbered 10) 0)
      × (count_of (16 ∷ 0 ∷ 0 ∷ 0 ∷ row_for 5) ≡ refused_with (numbered 10) 0) × (count_of (255 ∷ 255 ∷ 255 ∷ 255 ∷ row_for 5) ≡ refused_with (numbered 10) 0)
  -- a size of 0 is a row of no bytes, which counts; 10 of the whole comes before 5 and before 7 of a row
  pub empty : (count_of (zeros 4) ≡ takes 1) × (check_of schema (framed_for 5 ++ zeros 4) ≡ refused_row 1 (broken_at 0))
      × (fetch_of schema (framed_for 5 ++ zeros 4) 0 ≡ range 4 16) × (check_of schema (zeros 4 ++ (0 ∷ [])) ≡ refused (numbered 10))
      × (fetch_of schema (zeros 4 ++ (0 ∷ [])) 1 ≡ refused (numbered 10))
  -- in place, behind the batch; bytes behind the new end stay
  pub appends : (append_of schema (framed_for 5 ++ (7 ∷ zeros 20)) 20 (row_for 6) ≡ takes 40)
      × (appended_of schema (framed_for 5 ++ (7 ∷ zeros 20)) 20 (row_for 6) ≡ two ++ (0 ∷ []))
  pub short : (append_of schema (zeros 19) 0 (row_for 6) ≡ refused_with (numbered 4) 20) × (append_of schema (zeros 19) 20 (row_for 6) ≡ refused_with (numbered 10) 0)
      × (append_of schema (zeros 40) 3 (row_for 6) ≡ refused_with (numbered 10) 0)
  pub places : (read_of schema two 1 (0 ∷ []) ≡ R.signed (pos 6)) × (read_of schema two 2 (0 ∷ []) ≡ R.refused (numbered 5))
      × (set_of schema two 0 (0 ∷ []) (S.signed (pos 6)) ≡ S.becomes (framed_for 6 ++ framed_for 6))
