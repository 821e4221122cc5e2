-- What measuring a listing answers: the reading refuses, or it yields contents of so many bytes and leaves the listing from a
-- position on. Assumes nothing: these are definitions.
use Rattle.std.specs.Prelude.{◌≡◌, List, ℕ, ◌+◌, ◌*◌, ◌-◌, ◌%◌, ◌≤◌, ◌<◌, length, drop, replicate}
use Rattle.std.proofs.Math.Option.{Option, none, some}
use Rattle.words.specs.Bytes.{num, part}
use Rattle.words.specs.Pairs.{low_in, high_in}
use Rattle.schema.specs.Marks.{STRING, LIST, STRUCT}
use Rattle.schema.specs.Types.{Ty, li, ro, Tys, mark, place}
use Rattle.schema.specs.Kinds.{place_at}
use Rattle.schema.specs.Walk.{TypedAll}
use Rattle.layout.specs.Cells.{Cell, node}
use Rattle.layout.specs.Layout.{kid_of, kid, kid_tail, codec, content}
use Rattle.layout.specs.Listing.{item, run_get, element, script, scripts}
use Rattle.table.specs.Words.{Lined, place_in}
use Rattle.table.specs.Tables.{Table, InTable, EntryAt, schema_of, pos_of}

-- ---- what it says: in one number, where the listing goes on in the low half and the bytes in the high half, 0 where it is refused

-- A reading yields a thing of n bytes, which are whole words, and leaves the listing from next on. The bytes are bounded by what was
-- read of the listing, so that no sum of them wraps.
pub record Gives {A : Type 0} (o : Option (A × List ℕ)) (size : A → ℕ) (l : List ℕ) (low high next n : ℕ) : Type 0 where
  pub thing : A
  pub reads : o ≡ some (thing, drop next l)
  pub is : n ≡ size thing
  pub words : n % 8 ≡ 0
  pub inside : next ≤ length l
  pub small : low + n ≤ 16 * next + high

pub record Told {A : Type 0} (o : Option (A × List ℕ)) (size : A → ℕ) (l : List ℕ) (low high r : ℕ) : Type 0 where
  pub refused : r ≡ 0 → o ≡ none
  pub good : (r ≡ 0 → ⊥) → Gives o size l low high (low_in r) (high_in r)

-- the bytes that contents of the type take behind their container's slots
unfoldable pub tail_len : Ty → Cell → ℕ
tail_len t c = length ((kid_of 8 (codec t).wide (codec t)).tail c)

unfoldable pub size : Ty → Cell → ℕ
size t c = length (content t c)

-- contents of a type behind their mark, by their bytes behind the slots
pub record BodyTold (t : Ty) (l : List ℕ) (at r : ℕ) : Type 0 where
  pub told : Told ((script t).get (drop at l)) (tail_len t) l (16 * at) 0 r

-- a child with its mark, in a slot of any width
pub record ChildTold (t : Ty) (l : List ℕ) (from r : ℕ) : Type 0 where
  pub each : (w : ℕ) → Told ((item w (mark t) (script t)).get (drop from l)) (λ c. length (kid_tail (kid w (codec t)) c)) l (16 * from + 32) 0 r

-- of whatever type that stands at place k of the table of types
pub record LeafTold (k : ℕ) (l : List ℕ) (from r : ℕ) : Type 0 where
  pub any : (t : Ty) → k ≡ place t → ChildTold t l from r

-- n elements of an array
pub record ArrayTold (t : Ty) (l : List ℕ) (from n r : ℕ) : Type 0 where
  pub told : Told (run_get (replicate n (element t (script t))) (drop from l)) (λ cs. size (li t) (node cs)) l (16 * from) 24 r

-- the fields of a struct
pub record FieldsTold (ts : Tys) (l : List ℕ) (from r : ℕ) : Type 0 where
  pub told : Told (run_get (scripts ts) (drop from l)) (λ cs. size (ro ts) (node cs)) l (16 * from) 0 r

-- a child whose mark's number m is not its type's: it is null, or refused
pub record NullTold (m from r : ℕ) : Type 0 where
  pub null : m ≡ 30062 → r ≡ from + 2
  pub other : (m ≡ 30062 → ⊥) → r ≡ 0

-- the same where too little is left for a mark and contents
pub record OnlyNull (l : List ℕ) (from r : ℕ) : Type 0 where
  pub short : length l - from < 2 → r ≡ 0
  pub seen : 2 ≤ length l - from → NullTold (num (part l from 2)) from r

-- ---- what measuring asks: the listing goes on at from

pub record Goes (l : List ℕ) (from : ℕ) : Type 0 where
  pub inside : from ≤ length l
  pub short : length l ≤ 65536

-- a number of fixed width, and a text, by its entry w
pub record FixedCan (w : ℕ) (l : List ℕ) (from : ℕ) : Type 0 where
  pub lined : Lined w
  pub fixed : place_in w < STRING
  pub goes : Goes l from

pub record TextCan (w : ℕ) (l : List ℕ) (from : ℕ) : Type 0 where
  pub lined : Lined w
  pub low : STRING ≤ place_in w
  pub high : place_in w < LIST
  pub goes : Goes l from

-- a container stands at place c of the table, at most d deep
pub record ChildCan (t : List ℕ) (c d : ℕ) (l : List ℕ) (from : ℕ) : Type 0 where
  pub stands : InTable t c d
  pub holds : LIST ≤ place_at (schema_of t) (pos_of t c)
  pub goes : Goes l from

-- a list or a map, whose entry is w
pub record ListsCan (t : List ℕ) (c d w : ℕ) (l : List ℕ) (from : ℕ) : Type 0 where
  pub stands : InTable t c d
  pub entry : EntryAt t c d w
  pub low : LIST ≤ place_in w
  pub high : place_in w < STRUCT
  pub goes : Goes l from

pub record ArrayCan (t : List ℕ) (c d : ℕ) (l : List ℕ) (from n : ℕ) : Type 0 where
  pub stands : InTable t c d
  pub goes : Goes l from
  pub few : n < 4294967296

pub record FieldsCan (t : List ℕ) (first n d : ℕ) (l : List ℕ) (from : ℕ) : Type 0 where
  pub table : Table t
  pub typed : TypedAll (schema_of t) (pos_of t first) d n
  pub low : 1 ≤ n
  pub high : n ≤ 128
  pub goes : Goes l from
