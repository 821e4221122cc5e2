-- Demand 2, as it is read, of any bytes: rows and listings are each other's images, and a place reads as the listing holds it.
-- Assumes nothing: these are definitions.
use Rattle.std.specs.Prelude.{◌≡◌, ◌↔◌, List, [], ◌++◌, ℕ, ◌*◌, ◌≤◌, length, take, drop, get_or}
use Rattle.std.proofs.Math.Option.{none, some}
use Rattle.words.specs.Bytes.{Bytes}
use Rattle.schema.specs.Types.{Ty, ro}
use Rattle.schema.specs.Walk.{fields_of}
use Rattle.layout.specs.Cells.{Cell, node, clean}
use Rattle.layout.specs.Layout.{content}
use Rattle.layout.specs.Orders.{Order, which, Value, owns, Slots, StructInOrder, children}
use Rattle.layout.specs.Refusals.{numbered}
use Rattle.layout.specs.Reading as R
use Rattle.layout.specs.Reading.{placed}
use Rattle.layout.specs.Records.{ReadsAs}
use Rattle.layout.specs.Places.{SamePlaces, FieldOrder, UnderNull}
use Rattle.layout.specs.Entries.{done, takes, judge_of, check_of, write_of, written_of, list_of, listed_of, read_of}

-- ---- writing and listing, given lent room enough

-- Write of the listing l is done with the row's length; the room then begins with the row, and its rest stays.
pub record Writes (s l row : List ℕ) : Type 0 where
  pub done : (out : List ℕ) → length row ≤ length out → write_of s l (length out) ≡ takes (length row)
  pub bytes : (out : List ℕ) → length row ≤ length out → written_of s l out ≡ row ++ drop (length row) out

-- List of the row is done with the listing's length; the room then begins with the listing, and its rest stays.
pub record Lists (s row l : List ℕ) : Type 0 where
  pub done : (out : List ℕ) → length l ≤ length out → list_of s row (length out) ≡ takes (length l)
  pub bytes : (out : List ℕ) → length l ≤ length out → listed_of s row out ≡ l ++ drop (length l) out

-- ---- a listing's images

-- The listing l has the row as one of its images, bytes under nulls apart: placing the present values of every container in some order,
-- one after another, with no gap, gives the row, for contents that, with zeros under their nulls, are what writing the listing lays down.
pub record Image (s l row : List ℕ) : Type 0 where
  pub contents : Cell
  pub stands : StructInOrder (children (fields_of s)) contents row
  pub writes : Writes s l (content (ro (fields_of s)) (clean contents))

-- one of them in which the root's values have the bytes us, child by child, and were placed in the order o
pub record ImageInOrder (s l : List ℕ) {us ws : List (List ℕ)} (o : Order us ws) : Type 0 where
  pub row : List ℕ
  pub image : Image s l row
  pub values : owns image.stands.body.values ≡ us
  pub placed : which image.stands.body.same ≡ which o

-- The schema is accepted, the row is within its limit, and some listing has it as an image.
pub record HasListing (s row : List ℕ) : Type 0 where
  pub schema : judge_of s ≡ done
  pub short : length row ≤ 16384
  pub listed : List ℕ
  pub bytes : Bytes listed
  pub image : Image s listed row

-- An accepted row listed, and its listing written: a row as long, accepted, that lists the same. A row in field order is the row again, but
-- for zeros under its nulls; and such a row alone is what its contents lay down. The listing is within its limit.
pub record ListThenWrite (s row : List ℕ) : Type 0 where
  pub listed : List ℕ
  pub lists : Lists s row listed
  pub short : length listed ≤ 3 * length row
  pub row₀ : List ℕ
  pub writes : Writes s listed row₀
  pub long : length row₀ ≡ length row
  pub accepted : check_of s row₀ ≡ done
  pub again : Lists s row₀ listed
  pub contents : Cell
  pub stands : StructInOrder (children (fields_of s)) contents row
  pub zero : FieldOrder (ro (fields_of s)) contents row → (i : ℕ) → UnderNull (fields_of s) row i → get_or row₀ i 0 ≡ 0
  pub same : FieldOrder (ro (fields_of s)) contents row → (i : ℕ) → ¬ UnderNull (fields_of s) row i → get_or row₀ i 0 ≡ get_or row i 0
  pub alone : FieldOrder (ro (fields_of s)) contents row ↔ (content (ro (fields_of s)) contents ≡ row)

-- A listing written, into any room that is enough, and its row listed: the row is accepted, and lists as the listing.
pub record WriteThenList (s l row : List ℕ) : Type 0 where
  pub writes : Writes s l row
  pub accepted : check_of s row ≡ done
  pub lists : Lists s row l

pub record Demand2 : Type 0 where
  -- check accepts a row exactly when the schema is accepted, the row within its limit, and some listing has it as an image
  pub accepted : (s row : List ℕ) → Bytes row → (check_of s row ≡ done) ↔ HasListing s row
  -- every order has its image: whatever bytes stand for the values of the root's children cs, and in whatever order o they are placed
  pub every : (s l : List ℕ) (cs : List Cell) (slots : List ℕ) (vs : List Value) → Slots 8 (children (fields_of s)) cs slots [] vs
      → Writes s l (content (ro (fields_of s)) (clean (node cs))) → (us : List (List ℕ)) (o : Order (owns vs) us) → ImageInOrder s l o
  -- and one: contents, and where the values start, leave one row
  pub one : (s l row row' : List ℕ) (i : Image s l row) (i' : Image s l row') → i.contents ≡ i'.contents → SamePlaces (ro (fields_of s)) row row'
      → row ≡ row'
  -- list then write gives the row again where it is in field order, those bytes zero, and elsewhere a row that lists the same
  pub list-write : (s row : List ℕ) → Bytes row → check_of s row ≡ done → ListThenWrite s row
  -- where a write is accepted, write then list gives the listing again
  pub write-list : (s l out : List ℕ) (n : ℕ) → Bytes l → write_of s l (length out) ≡ takes n → WriteThenList s l (take n (written_of s l out))
  -- a place that the schema has reads as the listing holds it, and a path to no place is refused with 5
  pub reads : (s row l p : List ℕ) (t : Ty) → Bytes row → check_of s row ≡ done → Lists s row l → placed p (ro (fields_of s)) ≡ some t
      → ReadsAs row p (ro (fields_of s)) l (read_of s row p)
  pub nowhere : (s row p : List ℕ) → Bytes row → check_of s row ≡ done → placed p (ro (fields_of s)) ≡ none → read_of s row p ≡ R.refused (numbered 5)
