-- What putting a line asks: room for the longest, and a place of the row that reads as said. Assumes nothing: these are definitions.
use Rattle.std.specs.Prelude.{List, ℕ, ◌+◌, ◌≤◌, length}
use Rattle.layout.specs.Reading.{Answer}
use Rattle.table.specs.Words.{Lined}
use Rattle.answers.specs.declared.Path.{Path}
use Rattle.reading.specs.Texts.{InRow}
use Rattle.row.specs.Demand1.{ReadGives}

-- two digits for each byte of the longest row
pub record Room (out : List ℕ) (at : ℕ) (row : List ℕ) (a : Answer) : Type 0 where
  pub room : at + 32769 ≤ length out
  pub short : length row ≤ 16384
  pub gives : ReadGives a
  pub within : InRow row a

-- the entry w says the mark
pub record LineRoom (out : List ℕ) (at : ℕ) (p : Path) (w : ℕ) (row : List ℕ) (a : Answer) : Type 0 where
  pub room : at + 33110 ≤ length out
  pub few : p.len ≤ 16
  pub lined : Lined w
  pub short : length row ≤ 16384
  pub gives : ReadGives a
  pub within : InRow row a
