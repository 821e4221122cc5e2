-- What an entry of a batch answers a C program: its code, the refusal's number in the upper half and the place of a 7 in the lower, and what
-- may be over 32 bits in words lent beside it. Assumes nothing: these are definitions.
use Rattle.std.specs.Prelude.{◌≡◌, cond, List, [], ◌∷◌, ℕ, eqb}
use Rattle.std.proofs.Math.Option.{Option, none, some}
use Rattle.std.proofs.lemmas.List.Edits.{sets}
use Rattle.layout.specs.Refusals.{Refusal, numbered, broken_at}
use Rattle.layout.specs.Setting.{Setting, Outcome, refuses}
use Rattle.layout.specs.Entries.{Sized, takes, refused_with}
use Rattle.batch.specs.Entries.{row_of, no_row, Fetching, Checking, range}
use Rattle.batch.specs.Entries as B
use Rattle.codes.specs.Asked.{unfit_of}
use Rattle.codes.specs.Codes.{refusal_code}

-- ---- an answer that is its words: fewer than there are to tell are refused last

-- the number of rows
abbrev pub count_refusal : Sized → Option Refusal
count_refusal (takes n) = none
count_refusal (refused_with r k) = some r

abbrev pub count_words : Sized → List ℕ
count_words (takes n) = n ∷ []
count_words (refused_with r k) = []

-- a row's start in the batch, and its length
abbrev pub fetch_refusal : Fetching → Option Refusal
fetch_refusal (range start len) = none
fetch_refusal (B.refused r) = some r

abbrev pub fetch_words : Fetching → List ℕ
fetch_words (range start len) = start ∷ len ∷ []
fetch_words (B.refused r) = []

-- ---- an answer that has a word beside it, told where one is lent

abbrev pub check_refusal : Checking → Option Refusal
check_refusal B.done = none
check_refusal (B.refused r) = some r
check_refusal (B.refused_row k r) = some r

-- the number of the row that is refused
abbrev pub check_code : Checking → ℕ
check_code B.done = 0
check_code (B.refused r) = refusal_code r
check_code (B.refused_row k r) = refusal_code r

abbrev pub check_words : Checking → List ℕ
check_words B.done = []
check_words (B.refused r) = []
check_words (B.refused_row k r) = k ∷ []

-- the batch's new length, of a log its new length or how many numbers it has; with 4 the length needed
abbrev pub append_code : Sized → ℕ
append_code (takes n) = 0
append_code (refused_with r k) = refusal_code r

abbrev pub append_words : Sized → List ℕ
append_words (takes n) = n ∷ []
append_words (refused_with (numbered m) k) = cond (eqb m 4) (k ∷ []) []
append_words (refused_with (broken_at place) k) = []

-- the code r, and the lent words after: those told at their start, as many as were lent
pub record Beside (code : ℕ) (words out : List ℕ) (r : ℕ) (out' : List ℕ) : Type 0 where
  pub answers : r ≡ code
  pub leaves : out' ≡ sets out 0 words

-- appending, with the room after; of reading a log, the lent numbers after
pub record AppendsTo (z : Sized) (after out : List ℕ) (r : ℕ) (room' out' : List ℕ) : Type 0 where
  pub tells : Beside (append_code z) (append_words z) out r out'
  pub leaves : room' ≡ after

-- ---- setting in row k

-- a refusal, or else another
abbrev pub or_else : Option Refusal → Refusal → Refusal
or_else none r = r
or_else (some q) r = q

-- a kind or a value that is none is refused in its order: after 1, 10 and 5 as in a row by itself
unfoldable pub unfit_in : List ℕ → List ℕ → ℕ → List ℕ → Refusal
unfit_in s b k p = or_else (no_row s b k) (unfit_of s (row_of b k) p)

abbrev pub set_asked_in : List ℕ → List ℕ → ℕ → List ℕ → Option Setting → Outcome
set_asked_in s b k p none = refuses (unfit_in s b k p)
set_asked_in s b k p (some x) = B.set_of s b k p x
