-- One outcome: whatever two codes, and contents of the lent words or bytes, a C name's statement allows for the same input are equal.
-- Assumes nothing: these are definitions.
use Rattle.std.specs.Prelude.{◌≡◌, List, ℕ}
use Rattle.std.proofs.Math.Option.{Option}
use Rattle.layout.specs.Refusals.{Refusal}
use Rattle.layout.specs.Setting.{Outcome}
use Rattle.layout.specs.Entries.{Verdict, Sized}
use Rattle.answers.specs.declared.Path.{Path}
use Rattle.row.specs.Unique.{Same}
use Rattle.codes.specs.Codes.{verdict_code, Fills}
use Rattle.codes.specs.Steps.{Taken}
use Rattle.codes.specs.Words.{Told}
use Rattle.codes.specs.Asked.{Leaves}
use Rattle.codes.specs.Batch.{Beside, AppendsTo}
use Rattle.codes.specs.Catalogue.{AddsTo}

pub record Unique : Type 0 where
  -- loaf_judge, loaf_check, loaf_judge_by, loaf_check_by, loaf_catalogue_check
  pub verdicts : (v : Verdict) (r r' : ℕ) → r ≡ verdict_code v → r' ≡ verdict_code v → r ≡ r'
  -- loaf_write, loaf_list, loaf_table, loaf_write_by, loaf_list_by, loaf_catalogue_write, loaf_catalogue_list
  pub fills : (z : Sized) (after : List ℕ) (r r' : ℕ) (b b' : List ℕ) → Fills z after r b → Fills z after r' b' → Same r r' b b'
  -- loaf_read, loaf_batch_read, loaf_batch_count, loaf_batch_fetch, loaf_log_chord, loaf_read_by, loaf_batch_read_by, loaf_batch_fetch_by,
  -- loaf_catalogue_read
  pub told : (n : ℕ) (refusal : Option Refusal) (words out : List ℕ) (r r' : ℕ) (b b' : List ℕ) → Told n refusal words out r b → Told n refusal words out r' b'
      → Same r r' b b'
  -- loaf_set, loaf_batch_set, loaf_set_by, loaf_batch_set_by, loaf_catalogue_set
  pub leaves : (o : Outcome) (row : List ℕ) (r r' : ℕ) (b b' : List ℕ) → Leaves o row r b → Leaves o row r' b' → Same r r' b b'
  -- loaf_batch_check, loaf_batch_check_by
  pub besides : (code : ℕ) (words out : List ℕ) (r r' : ℕ) (b b' : List ℕ) → Beside code words out r b → Beside code words out r' b' → Same r r' b b'
  -- loaf_batch_append, loaf_log_add, loaf_log_read, loaf_batch_append_by: the code and the words, and the room or the lent numbers
  pub appends : (z : Sized) (after out : List ℕ) (r r' : ℕ) (room room' b b' : List ℕ) → AppendsTo z after out r room b → AppendsTo z after out r' room' b'
      → Same r r' b b' × (room ≡ room')
  -- loaf_catalogue_add, loaf_catalogue_add_by
  pub adds : (t s : List ℕ) (r r' : ℕ) (b b' : List ℕ) → AddsTo t s r b → AddsTo t s r' b' → Same r r' b b'
  -- the path that a C name takes from its lent steps
  pub path : (l : List ℕ) (p p' : Path) → Taken l p → Taken l p' → p ≡ p'
