-- What writing a measured listing asks and leaves. Assumes nothing: these are definitions.
use Rattle.std.specs.Prelude.{◌≡◌, List, ℕ, ◌+◌, ◌*◌, ◌-◌, ◌≤◌, ◌<◌, length, drop, replicate}
use Rattle.std.proofs.Math.Option.{Option, some}
use Rattle.std.proofs.lemmas.List.Edits.{sets}
use Rattle.words.specs.Bytes.{le, num, part, zeros, pad, padded, bitmap}
use Rattle.schema.specs.Marks.{LIST, STRUCT}
use Rattle.schema.specs.Types.{Ty, li}
use Rattle.schema.specs.Kinds.{place_at}
use Rattle.layout.specs.Cells.{Cell, node}
use Rattle.layout.specs.Layout.{content}
use Rattle.layout.specs.Listing.{run_get, element, script}
use Rattle.table.specs.Tables.{schema_of, pos_of, Table, InTable, type_of}
use Rattle.measuring.specs.Measure.{size}
use Rattle.measuring.specs.Row.{RowGives}

-- a reading yields a thing, and from pos on there is room for its bytes
pub record Ready {A : Type 0} (o : Option (A × List ℕ)) (f : A → ℕ) (pos len : ℕ) : Type 0 where
  pub thing : A
  pub rest : List ℕ
  pub reads : o ≡ some (thing, rest)
  pub room : pos + f thing ≤ len

-- what was read stands from pos on, up to stop, and the listing goes on at next
pub record Wrote {A : Type 0} (o : Option (A × List ℕ)) (f : A → List ℕ) (l : List ℕ) (pos : ℕ) (x y : List ℕ) (next stop : ℕ) : Type 0 where
  pub thing : A
  pub reads : o ≡ some (thing, drop next l)
  pub inside : next ≤ length l
  pub bytes : y ≡ sets x pos (f thing)
  pub ends : stop ≡ pos + length (f thing)

-- ---- pieces outside the cycle

-- a string or binary behind its mark
pub record TextCan (l : List ℕ) (from pos len : ℕ) : Type 0 where
  pub count : from + 4 ≤ length l
  pub inside : from + 4 + num (part l from 4) ≤ length l
  pub room : pos + pad (num (part l from 4)) ≤ len
  pub small : len ≤ 16384
  pub short : length l ≤ 65536

pub record TextWrote (l : List ℕ) (from pos : ℕ) (x y : List ℕ) (next stop : ℕ) : Type 0 where
  pub bytes : y ≡ sets x pos (padded (part l (from + 4) (num (part l from 4))))
  pub goes_on : next ≡ from + 4 + num (part l from 4)
  pub ends : stop ≡ pos + num (part l from 4)

-- n bytes of the listing, and zeros up to Pad
pub record PaddedCan (l : List ℕ) (from n to len : ℕ) : Type 0 where
  pub inside : from + n ≤ length l
  pub room : to + pad n ≤ len
  pub small : len ≤ 16384
  pub short : length l ≤ 65536

-- contents from cur up to stop, in a container that starts at base
pub record SeatCan (base cur stop : ℕ) : Type 0 where
  pub low : base ≤ cur
  pub long : cur ≤ stop
  pub small : stop ≤ 16384

-- the bitmap of a struct of n fields
pub record ClearCan (n at len : ℕ) : Type 0 where
  pub low : 1 ≤ n
  pub high : n ≤ 128
  pub room : at + bitmap n ≤ len

-- an array's count, its bitmap and its slots of w bytes, from pos on
pub record FrontCan (n w pos len : ℕ) : Type 0 where
  pub few : n < 4294967296
  pub room : pos + 8 + bitmap n + pad (n * w) ≤ len
  pub small : len ≤ 16384

-- the count, and zeros in the bitmap and behind the slots
abbrev pub front_of : List ℕ → ℕ → ℕ → ℕ → List ℕ
front_of x n w pos =
    sets (sets (sets x pos (le 8 n)) (pos + 8) (zeros (bitmap n))) (pos + 8 + bitmap n + n * w) (zeros (pad (n * w) - n * w))

-- ---- the cycle

-- contents of a type behind their mark, from pos on with their padding; without it they end at stop
pub record Held (t : Ty) (l : List ℕ) (from pos : ℕ) (x y : List ℕ) (next stop : ℕ) : Type 0 where
  pub thing : Cell
  pub reads : (script t).get (drop from l) ≡ some (thing, drop next l)
  pub inside : next ≤ length l
  pub bytes : y ≡ sets x pos (padded (content t thing))
  pub ends : stop ≡ pos + length (content t thing)

-- the contents of a container's type behind their mark
pub record PutValue (t : List ℕ) (c d : ℕ) (l : List ℕ) (from pos len : ℕ) : Type 0 where
  pub stands : InTable t c d
  pub holds : LIST ≤ place_at (schema_of t) (pos_of t c)
  pub ready : Ready ((script (type_of t c d)).get (drop from l)) (size (type_of t c d)) pos len
  pub small : len ≤ 16384
  pub short : length l ≤ 65536

pub record PutStruct (t : List ℕ) (c d : ℕ) (l : List ℕ) (from pos len : ℕ) : Type 0 where
  pub put : PutValue t c d l from pos len
  pub struct : place_at (schema_of t) (pos_of t c) ≡ STRUCT

pub record PutArray (t : List ℕ) (c d : ℕ) (l : List ℕ) (from n pos len : ℕ) : Type 0 where
  pub stands : InTable t c d
  pub inside : from ≤ length l
  pub few : n < 4294967296
  pub ready : Ready (run_get (replicate n (element (type_of t c d) (script (type_of t c d)))) (drop from l)) (λ cs. size (li (type_of t c d)) (node cs)) pos len
  pub small : len ≤ 16384
  pub short : length l ≤ 65536

abbrev pub ArrayWrote : Ty → List ℕ → ℕ → ℕ → ℕ → List ℕ → List ℕ → ℕ → ℕ → Type 0
ArrayWrote t l from n pos x y next stop = Wrote (run_get (replicate n (element t (script t))) (drop from l)) (λ cs. content (li t) (node cs)) l pos x y next stop

-- ---- the row

pub record PutRow (t l : List ℕ) (len : ℕ) : Type 0 where
  pub table : Table t
  pub gives : RowGives (schema_of t) l len
  pub small : len ≤ 16384
