-- What each entry answers, as a function of the lent bytes: its refusals in the document's order, and then the result.
-- Assumes nothing: these are definitions.
use Rattle.std.specs.Prelude.{Bool, true, false, cond, List, ℕ, leb, length}
use Rattle.std.proofs.Math.Option.{Option, none, some}
use Rattle.std.proofs.Math.Decide.{dec_le}
use Rattle.std.proofs.lemmas.List.Edits.{sets}
use Rattle.schema.specs.Types.{ro}
use Rattle.schema.specs.Reading.{judged}
use Rattle.schema.specs.Walk.{fields_of}
use Rattle.schema.specs.declared.Judged.{Judged}
use Rattle.schema.specs.declared.Judged.TheVariants.{Accepted, Refused}
use Rattle.layout.specs.Reader.{◌>>=◌, ◌>>◌, assert}
use Rattle.layout.specs.Refusals.{Refusal, numbered, broken_at}
use Rattle.layout.specs.Layout.{content, decode, fault_at}
use Rattle.layout.specs.Listing.{listing, parse}
use Rattle.layout.specs.Reading as R
use Rattle.layout.specs.Reading.{Answer, read_in}
use Rattle.layout.specs.Setting.{Setting, is_some, unless, ◌or◌, or_empty, Outcome, refuses, becomes, set_in}

-- done, or a refusal
pub data Verdict : Type 0 where
  done : Verdict
  refused : Refusal → Verdict

abbrev pub verdict : Option Refusal → Verdict
verdict none = done
verdict (some r) = refused r

abbrev pub is_accepted : Judged → Bool
is_accepted Accepted = true
is_accepted Refused = false

-- 1: the schema breaks its rules
abbrev pub schema_bad : List ℕ → Option Refusal
schema_bad s = unless (is_accepted (judged s)) 1

-- 3: the lent row is over 16,384 bytes
abbrev pub row_long : List ℕ → Option Refusal
row_long row = unless (leb (length row) 16384) 3

abbrev pub broken : Option ℕ → Option Refusal
broken none = none
broken (some place) = some (broken_at place)

-- 7: the row breaks the layout, with the place of the first fault
abbrev pub layout_bad : List ℕ → List ℕ → Option Refusal
layout_bad s row = broken (fault_at (ro (fields_of s)) row)

unfoldable pub judge_of : List ℕ → Verdict
judge_of s = verdict (schema_bad s)

unfoldable pub check_of : List ℕ → List ℕ → Verdict
check_of s row = verdict (schema_bad s or row_long row or layout_bad s row)

abbrev pub read_after : Option Refusal → Answer → Answer
read_after none a = a
read_after (some r) a = R.refused r

unfoldable pub read_of : List ℕ → List ℕ → List ℕ → Answer
read_of s row p = read_after (schema_bad s or row_long row) (read_in (fields_of s) row p)

abbrev pub set_after : Option Refusal → Outcome → Outcome
set_after none o = o
set_after (some r) o = refuses r

unfoldable pub set_of : List ℕ → List ℕ → List ℕ → Setting → Outcome
set_of s row p x = set_after (schema_bad s or row_long row) (set_in (fields_of s) row p x)

-- ---- writing a row from a listing, and listing it back

-- a length, or a refusal and its length
pub data Sized : Type 0 where
  takes : ℕ → Sized
  refused_with : Refusal → ℕ → Sized

-- a refusal's length is 0 except for 4, which answers the length needed
abbrev pub sized_after : Option Refusal → ℕ → ℕ → Sized
sized_after (some r) need room = refused_with r 0
sized_after none need room = cond (leb need room) (takes need) (refused_with (numbered 4) need)

-- the row that the format lays down for a listing of at most 65,536 bytes that fits the schema
unfoldable pub image_of : List ℕ → List ℕ → Option (List ℕ)
image_of s l = do
  assert (dec_le (length l) 65536)
  c ← parse (ro (fields_of s)) l
  some (content (ro (fields_of s)) c)

-- 2: the listing breaks its rules or doesn't fit the schema
abbrev pub listing_bad : List ℕ → List ℕ → Option Refusal
listing_bad s l = unless (is_some (image_of s l)) 2

unfoldable pub write_of : List ℕ → List ℕ → ℕ → Sized
write_of s l room = sized_after (schema_bad s or listing_bad s l or row_long (or_empty (image_of s l))) (length (or_empty (image_of s l))) room

-- the listing of a row's contents
unfoldable pub listing_of : List ℕ → List ℕ → Option (List ℕ)
listing_of s row = do
  c ← decode (ro (fields_of s)) row
  some (listing (ro (fields_of s)) c)

unfoldable pub list_of : List ℕ → List ℕ → ℕ → Sized
list_of s row room = sized_after (schema_bad s or row_long row or layout_bad s row) (length (or_empty (listing_of s row))) room

-- what the lent output holds after: the first n bytes filled, the rest as it was; after a refusal all as it was
abbrev pub filled : Sized → List ℕ → List ℕ → List ℕ
filled (takes n) u out = sets out 0 u
filled (refused_with r k) u out = out

unfoldable pub written_of : List ℕ → List ℕ → List ℕ → List ℕ
written_of s l out = filled (write_of s l (length out)) (or_empty (image_of s l)) out

unfoldable pub listed_of : List ℕ → List ℕ → List ℕ → List ℕ
listed_of s row out = filled (list_of s row (length out)) (or_empty (listing_of s row)) out

-- what a setting answers, and the row after it: a refusal alters no byte
abbrev pub set_verdict : Outcome → Verdict
set_verdict (refuses r) = refused r
set_verdict (becomes row') = done

abbrev pub row_after : Outcome → List ℕ → List ℕ
row_after (refuses r) row = row
row_after (becomes row') row = row'
