-- The setting that a kind and a value stand for, and what is refused where they stand for none. Assumes nothing: these are definitions.
use Rattle.std.specs.Prelude.{◌≡◌, true, false, cond, List, ℕ, ◌^◌, eqb, ltb}
use Rattle.std.proofs.Math.Option.{Option, none, some}
use Rattle.words.specs.Signed.{half_of, to_signed}
use Rattle.layout.specs.Refusals.{Refusal, numbered}
use Rattle.layout.specs.Setting.{Setting, null, bool, signed, float32, float64, bytes, refusal_in, ◌or◌, Outcome, refuses}
use Rattle.layout.specs.Entries.{Verdict, done, refused, schema_bad, row_long, layout_bad, read_of, set_of, set_verdict, row_after}
use Rattle.answers.specs.Meaning.{setting_of}
use Rattle.std.specs.Prelude.{Some, None}
use Rattle.std.specs.Prelude as P
use Rattle.answers.specs.declared.Setting.{Setting as Given}
use Rattle.codes.specs.Codes.{verdict_code}

-- a bool is 0 or 1
abbrev pub bool_of : ℕ → Option Setting
bool_of v = cond (eqb v 0) (some (bool false)) (cond (eqb v 1) (some (bool true)) none)

-- a float32 has 32 bits
abbrev pub float32_of : ℕ → Option Setting
float32_of v = cond (ltb v (2 ^ 32)) (some (float32 v)) none

-- 0 null, 1 bool, 2 number by its 64 bits, 3 float32 and 4 float64 by their bits, 5 the bytes u; any other kind is none
unfoldable pub asked_of : ℕ → ℕ → List ℕ → Option Setting
asked_of kind v u =
    cond (eqb kind 0) (some null)
    (cond (eqb kind 1) (bool_of v)
    (cond (eqb kind 2) (some (signed (to_signed (half_of 8) v)))
    (cond (eqb kind 3) (float32_of v)
    (cond (eqb kind 4) (some (float64 v))
    (cond (eqb kind 5) (some (bytes u)) none)))))

-- what was found for them
abbrev pub asked_means : P.Option Given → List ℕ → Option Setting
asked_means None u = none
asked_means (Some x) u = some (setting_of x u)

-- a kind or a value that is none is refused with 8 in its order: after 1, 3, 7, 5 and 6
abbrev pub verdict_refusal : Verdict → Option Refusal
verdict_refusal done = none
verdict_refusal (refused r) = some r

abbrev pub or_eight : Option Refusal → Refusal
or_eight none = numbered 8
or_eight (some r) = r

unfoldable pub unfit_of : List ℕ → List ℕ → List ℕ → Refusal
unfit_of s row p = or_eight (schema_bad s or row_long row or layout_bad s row or refusal_in (read_of s row p))

abbrev pub set_asked : List ℕ → List ℕ → List ℕ → Option Setting → Outcome
set_asked s row p none = refuses (unfit_of s row p)
set_asked s row p (some x) = set_of s row p x

-- the code r and the row after are those of the outcome o
pub record Leaves (o : Outcome) (row : List ℕ) (r : ℕ) (row' : List ℕ) : Type 0 where
  pub answers : r ≡ verdict_code (set_verdict o)
  pub after : row' ≡ row_after o row
