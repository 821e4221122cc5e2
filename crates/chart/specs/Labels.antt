-- What each place of a row claims, by its type and by what a read of it answers; and a whole row. Assumes nothing: these are definitions.
use Rattle.std.specs.Prelude.{cond, List, [], ◌∷◌, ◌++◌, ℕ, zero, suc, ◌+◌, ◌*◌, ◌/◌}
use Rattle.std.proofs.Math.Option.{Option, none, some}
use Rattle.words.specs.Bytes.{bitmap}
use Rattle.schema.specs.Types.{Text, st, bi, Ty, fix, text, li, ma, ro}
use Rattle.schema.specs.Walk.{fields_of}
use Rattle.layout.specs.Reading as R
use Rattle.layout.specs.Reading.{Answer, placed}
use Rattle.layout.specs.Entries.{read_of}
use Rattle.reading.specs.Children.{wide_of}
use Rattle.reading.specs.Places.{slot_width}
use Rattle.chart.specs.Claims.{Claim, claim_all, taken, through, byte_lines, slot_lines}

-- the line that a place starts on, its claims, and how many of the places right below it may have some
pub record Labels : Type 0 where
  pub start : ℕ
  pub claims : List Claim
  pub below : ℕ

abbrev pub unlabelled : Labels
unlabelled = record { start = 0; claims = []; below = 0 }

abbrev pub text_word : Text → ℕ
text_word st = 6
text_word bi = 7

-- from the line l on the bitmap of k children, and their slots of w bytes
unfoldable pub child_lines : ℕ → ℕ → ℕ → List ℕ → List Claim
child_lines l w k p = byte_lines l (bitmap k) 1 p ++ slot_lines (l + bitmap k / 8) w (k * w) p

abbrev pub header : ℕ → ℕ → List ℕ → Claim
header l what p = record { line = l; what = what; path = p }

-- elements of a fixed width claim nothing, for their slots are their list's: they are left out, which is less to do and to prove than a
-- visit that finds nothing
abbrev pub entered : ℕ → ℕ → ℕ
entered zero k = k
entered (suc v) k = 0

-- a list of k elements of v bytes, 0 where they vary
abbrev pub listed : ℕ → ℕ → ℕ → List ℕ → Labels
listed l v k p = record { start = l; claims = header l 2 p ∷ child_lines (l + 1) (slot_width v) k p; below = entered v k }

-- a place of a type at the path p that is present: n bytes that start at the row's byte o, with k places right below it
unfoldable pub labelled : Ty → List ℕ → ℕ → ℕ → ℕ → Labels
labelled (fix f) p o n k = unlabelled
labelled (text t) p o n k = record { start = o / 8; claims = byte_lines (o / 8) n (text_word t) p; below = 0 }
labelled (li t) p o n k = listed (o / 8) (wide_of t) k p
labelled (ma a b) p o n k = record { start = o / 8; claims = header (o / 8) 3 p ∷ []; below = k }
labelled (ro ts) p o n k = record { start = o / 8; claims = child_lines (o / 8) 8 k p; below = k }

-- by what a read answers: a null, a fixed width and a refusal claim nothing
unfoldable pub labels_by : (ℕ → ℕ → ℕ → Labels) → Answer → Labels
labels_by f R.null = unlabelled
labels_by f (R.bool v) = unlabelled
labels_by f (R.signed z) = unlabelled
labels_by f (R.float32 n) = unlabelled
labels_by f (R.float64 n) = unlabelled
labels_by f (R.bytes o n) = f o n 0
labels_by f (R.container o n k) = f o n k
labels_by f (R.refused r) = unlabelled

unfoldable pub labels_in : Option Ty → Answer → List ℕ → Labels
labels_in none a p = unlabelled
labels_in (some t) a p = labels_by (labelled t p) a

-- by the type that the schema shows at the path p, and by what a read of it answers
unfoldable pub labels_at : List ℕ → List ℕ → List ℕ → Labels
labels_at s row p = labels_in (placed p (ro (fields_of s))) (read_of s row p) p

-- how many places below a place are visited: none where another place had its first line before, which only a broken row has. Slots that
-- all point at one list, level by level, would else be visited by every path
abbrev pub followed : Labels → List ℕ → ℕ
followed x m = cond (taken m x.start) 0 x.below

-- the claims of the place p, and then those of all places less than d steps below it: depth first, fields and elements in order, a map's
-- keys before its values
unfoldable pub drawn_from : ℕ → List ℕ → List ℕ → List ℕ → List ℕ → List ℕ
drawn_from zero s row p m = m
drawn_from (suc d) s row p m =
    through (λ i. drawn_from d s row (p ++ (i ∷ []))) (followed (labels_at s row p) m) (claim_all (labels_at s row p).claims m)

-- those of a row: no place of an accepted schema has more than 13 steps
unfoldable pub drawn : List ℕ → List ℕ → List ℕ → List ℕ
drawn s row m = drawn_from 16 s row [] m
