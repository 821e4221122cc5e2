-- What bytes that stand for contents list, and what writing it leaves. Assumes nothing: these are definitions.
use Rattle.std.specs.Prelude.{◌≡◌, cond, List, [], ℕ, ◌+◌, ◌/◌, ◌%◌, ◌^◌, ◌≤◌, leb, length, replicate}
use Rattle.std.proofs.Math.Option.{Option, none, some}
use Rattle.std.proofs.lemmas.List.Edits.{sets}
use Rattle.words.specs.Bytes.{num, part}
use Rattle.words.specs.Bits.{bit}
use Rattle.schema.specs.Types.{Ty, li, ro, Tys}
use Rattle.layout.specs.Cells.{Cell, leaf, parts}
use Rattle.layout.specs.Layout.{codec, decode}
use Rattle.layout.specs.Listing.{nu, run_put, element, script, scripts, listing}

abbrev pub or_leaf : Option Cell → Cell
or_leaf none = leaf []
or_leaf (some c) = c

-- the contents that the bytes stand for; an empty leaf where they stand for none
unfoldable pub cell_of : Ty → List ℕ → Cell
cell_of t b = or_leaf (decode t b)

-- the records of the contents
unfoldable pub lines : Ty → List ℕ → List ℕ
lines t b = listing t (cell_of t b)

-- the records of a list's elements, behind the list's own, and of a struct's fields
unfoldable pub item_lines : Ty → List ℕ → List ℕ
item_lines t b = run_put (replicate (length (parts (cell_of (li t) b))) (element t (script t))) (parts (cell_of (li t) b))

unfoldable pub field_lines : Tys → List ℕ → List ℕ
field_lines ts b = run_put (scripts ts) (parts (cell_of (ro ts) b))

-- the bytes of the child whose slot is at a position of the container b: in the slot, or where it says
unfoldable pub own_bytes : Option ℕ → List ℕ → ℕ → List ℕ
own_bytes (some v) b slot = part b slot v
own_bytes none b slot = part b (num (part b slot 8) / 2 ^ 32) (num (part b slot 8) % 2 ^ 32)

-- its records where it is not null
unfoldable pub own_lines : Ty → List ℕ → ℕ → List ℕ
own_lines t b slot = lines t (own_bytes (codec t).wide b slot)

-- the records of child i of b, whose bitmap starts behind a header of h bytes
unfoldable pub child_lines : Ty → List ℕ → ℕ → ℕ → ℕ → List ℕ
child_lines t b h i slot = cond (bit b h i) nu (own_lines t b slot)

-- Writing v at pos of out leaves out', and r is the place behind it. Without room for v it says only that out is as long as it was:
-- with no byte lent a writer measures.
pub record Written (out : List ℕ) (pos : ℕ) (v out' : List ℕ) (r : ℕ) : Type 0 where
  pub past : r ≡ pos + length v
  pub kept : length out' ≡ length out
  pub bytes : pos + length v ≤ length out → out' ≡ sets out pos v

-- v at the start of out where it fits, and else out as it was; r is the length of v in any case
pub record Answered (out v out' : List ℕ) (r : ℕ) : Type 0 where
  pub need : r ≡ length v
  pub bytes : out' ≡ cond (leb (length v) (length out)) (sets out 0 v) out
