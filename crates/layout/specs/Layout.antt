-- The row layout, as four accounts of each type: Fits, which contents are the type's; put, the bytes that writing lays down for them, in
-- field order; Lays, every byte string that stands for them, in any order; get, how bytes are read and judged, up to the first fault.
-- proofs/Containers ties them, for every type: what is laid down for contents that fit stands for them (`lays-content`); bytes of a row's
-- length are read as contents exactly if they stand for them (`decode-lays`, `lays-decode`); what bytes stand for fits (`lays-fits`).
-- Assumes nothing: these are definitions.
use Rattle.std.specs.Prelude.{◌≡◌, List, [], ◌∷◌, ◌++◌, ℕ, zero, suc, ◌+◌, ◌*◌, ◌-◌, ◌/◌, ◌%◌, ◌^◌, ◌<◌, length, replicate, take, drop}
use Rattle.std.proofs.Math.Option.{Option, none, some}
use Rattle.std.proofs.Math.Decide.{dec_lt, ℕ_discrete}
use Rattle.words.specs.Bytes.{Bytes, le, num, fill, pad, padded, bitmap, zeros_ahead, past_byte}
use Rattle.words.specs.Text.{WellFormed}
use Rattle.words.specs.TextTest.{well_formed?}
use Rattle.schema.specs.Types.{Fixed, bo, i1, i2, i4, i8, f4, f8, width, Text, st, bi, Ty, fix, text, li, ma, ro, Tys, end, ◌then◌}
use Rattle.layout.specs.Faults.{Place, slot, byte, Read, got, ◌>>=◌, ◌>>◌, assert_at, cut_at, within, yielded, fault_in}
use Rattle.layout.specs.Tiles.{Range, range, total, Stands, stands?}
use Rattle.layout.specs.Cells.{Cell, null, leaf, node, on_null, flag, bytes, parts, part_of}

-- wide: the bytes of a fixed width. Lays c b: b is one of the byte strings that stand for c. get b: what b stands for, or where the
-- first fault is, in the document's order of judging.
pub record Codec : Type 1 where
  pub wide : Option ℕ
  pub Fits : Cell → Type 0
  pub put : Cell → List ℕ
  pub Lays : Cell → List ℕ → Type 0
  pub get : List ℕ → Read Cell

-- ---- leaves

-- what fits stands as it is written, and in no other way
pub record Exactly (Fits : Cell → Type 0) (put : Cell → List ℕ) (c : Cell) (b : List ℕ) : Type 0 where
  pub fits : Fits c
  pub is : put c ≡ b

pub record NumberFits (w m : ℕ) (c : Cell) : Type 0 where
  pub plain : c ≡ leaf (bytes c)
  pub wide : length (bytes c) ≡ w
  pub proper : Bytes (bytes c)
  pub below : num (bytes c) < m

-- A number of w bytes, below m.
unfoldable pub number : ℕ → ℕ → Codec
number w m = record {
  wide = some w;
  Fits = NumberFits w m;
  put = bytes;
  Lays = Exactly (NumberFits w m) bytes;
  get = λ b. (do
    assert_at (byte 0) (ℕ_discrete (length b) w)
    assert_at (byte 0) (dec_lt (num b) m)
    got (leaf b));
}

-- A string is text; binary is free.
abbrev pub Spells : Text → List ℕ → Type 0
Spells st u = WellFormed u
Spells bi u = Unit {0}

unfoldable pub spells? : (t : Text) (u : List ℕ) → Dec (Spells t u)
spells? st u = well_formed? u
spells? bi u = yes tt

pub record StringFits (t : Text) (c : Cell) : Type 0 where
  pub plain : c ≡ leaf (bytes c)
  pub proper : Bytes (bytes c)
  pub spelled : Spells t (bytes c)

-- A string or binary: one that is no text is told at its slot.
unfoldable pub string : Text → Codec
string t = record {
  wide = none;
  Fits = StringFits t;
  put = bytes;
  Lays = Exactly (StringFits t) bytes;
  get = λ b. (do
    assert_at slot (spells? t b)
    got (leaf b));
}

-- ---- a child in its container: a slot in the fixed part, and variable data

-- at: where the container's variable data d starts in it; rs: the ranges of the earlier children, rs': with its own. A child is read
-- from its slot s, which is the container's byte j and on.
pub record Kid : Type 1 where
  pub Fits : Cell → Type 0
  pub slot : ℕ → Cell → List ℕ
  pub tail : Cell → List ℕ
  pub Lays : ℕ → List ℕ → List Range → Cell → List ℕ → List Range → Type 0
  pub get : ℕ → ℕ → List ℕ → List Range → List ℕ → Read (Cell × List Range)

pub record Inside (Lays : Cell → List ℕ → Type 0) (w : ℕ) (rs : List Range) (x : Cell) (s : List ℕ) (rs' : List Range) : Type 0 where
  pub own : List ℕ
  pub lays : Lays x own
  pub slot : fill w own ≡ s
  pub same : rs ≡ rs'

-- v bytes at the start of a slot of w; the rest of the slot is zero.
unfoldable pub inside : ℕ → ℕ → Codec → Kid
inside w v c = record {
  Fits = c.Fits;
  slot = λ at x. fill w (c.put x);
  tail = λ x. [];
  Lays = λ at d. Inside c.Lays w;
  get = λ j at d rs s. (do
    (u, rest) ← cut_at (byte j) v s
    x ← within j j (c.get u)
    assert_at (byte (j + v + zeros_ahead rest)) (ℕ_discrete (num rest) 0)
    got (x, rs));
}

-- A value's bytes, own, stand padded at its place, the slot says place and size, and the range may stand there.
pub record Placed (Lays : Cell → List ℕ → Type 0) (at : ℕ) (d : List ℕ) (rs : List Range) (x : Cell) (s : List ℕ) (rs' : List Range) : Type 0 where
  pub place : ℕ
  pub own : List ℕ
  pub behind : List ℕ
  pub lays : Lays x own
  pub slot : le 8 (place * 2 ^ 32 + length own) ≡ s
  pub stands : Stands at (at + length d) rs (range place (pad (length own)))
  pub there : padded own ++ behind ≡ drop (place - at) d
  pub more : range place (pad (length own)) ∷ rs ≡ rs'

-- The slot is a 64-bit number: upper 32 bits the offset, lower 32 bits the size. The data takes Pad(size) bytes.
unfoldable pub outside : Codec → Kid
outside c = record {
  Fits = c.Fits;
  slot = λ at x. le 8 (at * 2 ^ 32 + length (c.put x));
  tail = λ x. padded (c.put x);
  Lays = Placed c.Lays;
  get = λ j at d rs s. (do
    assert_at (byte j) (stands? at (at + length d) rs (range (num s / 2 ^ 32) (pad (num s % 2 ^ 32))))
    (u, r) ← cut_at (byte j) (num s % 2 ^ 32) (drop (num s / 2 ^ 32 - at) d)
    x ← within j (num s / 2 ^ 32) (c.get u)
    (z, r') ← cut_at (byte j) (pad (num s % 2 ^ 32) - num s % 2 ^ 32) r
    assert_at (byte (num s / 2 ^ 32 + num s % 2 ^ 32 + zeros_ahead z)) (ℕ_discrete (num z) 0)
    got (x, range (num s / 2 ^ 32) (pad (num s % 2 ^ 32)) ∷ rs));
}

unfoldable pub kid_of : ℕ → Option ℕ → Codec → Kid
kid_of w none c = outside c
kid_of w (some v) c = inside w v c

-- the type's child in a slot of w bytes
abbrev pub kid : ℕ → Codec → Kid
kid w c = kid_of w c.wide c

-- its slot in an array: the table's width, 8 where it varies
unfoldable pub slot_of : Option ℕ → ℕ
slot_of none = 8
slot_of (some v) = v

-- A null's slot may hold anything, and it has no data.
pub record NullFits (w : ℕ) (u : List ℕ) : Type 0 where
  pub wide : length u ≡ w
  pub proper : Bytes u

abbrev pub kid_fits : ℕ → Kid → Cell → Type 0
kid_fits w k c = on_null (NullFits w) (k.Fits c) c

abbrev pub kid_slot : Kid → ℕ → Cell → List ℕ
kid_slot k at c = on_null (λ u. u) (k.slot at c) c

abbrev pub kid_tail : Kid → Cell → List ℕ
kid_tail k c = on_null (λ _. []) (k.tail c) c

pub record NullLays (w : ℕ) (rs : List Range) (u s : List ℕ) (rs' : List Range) : Type 0 where
  pub fits : NullFits w u
  pub is : u ≡ s
  pub same : rs ≡ rs'

abbrev pub kid_lays : ℕ → Kid → ℕ → List ℕ → List Range → Cell → List ℕ → List Range → Type 0
kid_lays w k at d rs c s rs' = on_null (λ u. NullLays w rs u s rs') (k.Lays at d rs c s rs') c

unfoldable pub kid_get : Kid → ℕ → ℕ → ℕ → List ℕ → List Range → List ℕ → Read (Cell × List Range)
kid_get k zero j at d rs s = k.get j at d rs s
kid_get k (suc _) j at d rs s = got (null s, rs)

-- ---- children in order

unfoldable pub AllFit : ℕ → List Kid → List Cell → Type 0
AllFit w [] [] = Unit {0}
AllFit w [] (c ∷ cs) = ⊥
AllFit w (k ∷ ks) [] = ⊥
AllFit w (k ∷ ks) (c ∷ cs) = kid_fits w k c × AllFit w ks cs

-- the bitmap as a number: bit i is 1 where child i is null
unfoldable pub flags : List Cell → ℕ
flags [] = 0
flags (c ∷ cs) = flag c + 2 * flags cs

unfoldable pub slots : ℕ → List Kid → List Cell → List ℕ
slots at [] cs = []
slots at (k ∷ ks) [] = []
slots at (k ∷ ks) (c ∷ cs) = kid_slot k at c ++ slots (at + length (kid_tail k c)) ks cs

unfoldable pub tails : List Kid → List Cell → List ℕ
tails [] cs = []
tails (k ∷ ks) [] = []
tails (k ∷ ks) (c ∷ cs) = kid_tail k c ++ tails ks cs

-- the first child lays down the slot first, and the others what is left of the slots
pub record First (One : List ℕ → List Range → Type 0) (Others : List ℕ → List Range → Type 0) (s : List ℕ) : Type 0 where
  pub slot : List ℕ
  pub left : List ℕ
  pub ranges : List Range
  pub whole : slot ++ left ≡ s
  pub one : One slot ranges
  pub others : Others left ranges

-- The slots s and the data d stand for the children, behind earlier ones with the ranges rs; rs' are the ranges of all.
unfoldable pub AllLay : ℕ → ℕ → List ℕ → List Kid → List Cell → List ℕ → List Range → List Range → Type 0
AllLay w at d [] [] s rs rs' = (s ≡ []) × (rs ≡ rs')
AllLay w at d [] (c ∷ cs) s rs rs' = ⊥
AllLay w at d (k ∷ ks) [] s rs rs' = ⊥
AllLay w at d (k ∷ ks) (c ∷ cs) s rs rs' = First (kid_lays w k at d rs c) (λ left ranges. AllLay w at d ks cs left ranges rs') s

-- The children in order, from their flags, their slots of w bytes each, the container's byte j and on, and the data; and the ranges of all.
unfoldable pub reads : ℕ → ℕ → List ℕ → List Kid → ℕ → ℕ → List ℕ → List Range → Read (List Cell × List Range)
reads w at d [] j m s rs = got ([], rs)
reads w at d (k ∷ ks) j m s rs = do
  (s₀, left) ← cut_at (byte j) w s
  (c, ranges) ← kid_get k (m % 2) j at d rs s₀
  (cs, rs') ← reads w at d ks (j + w) (m / 2) left ranges
  got (c ∷ cs, rs')

-- ---- bitmap, slots up to Pad, data: the body of a struct and of a list, behind a header of h bytes

-- the size of the fixed part
abbrev pub front : ℕ → ℕ → ℕ → ℕ
front h w n = h + bitmap n + pad (n * w)

unfoldable pub body_put : ℕ → ℕ → List Kid → List Cell → List ℕ
body_put h w ks cs = le (bitmap (length ks)) (flags cs) ++ (padded (slots (front h w (length ks)) ks cs) ++ tails ks cs)

-- The children's ranges take all the data.
pub record BodyLays (h w : ℕ) (ks : List Kid) (cs : List Cell) (b : List ℕ) : Type 0 where
  pub slots : List ℕ
  pub variable : List ℕ
  pub ranges : List Range
  pub whole : le (bitmap (length ks)) (flags cs) ++ (padded slots ++ variable) ≡ b
  pub children : AllLay w (front h w (length ks)) variable ks cs slots [] ranges
  pub ends : total ranges ≡ length variable

-- The fixed part, with a fault at short where there is no room for it; then the bitmap, then the children in order, then the zeros
-- behind the slots, then the end.
unfoldable pub body_get : Place → ℕ → ℕ → List Kid → List ℕ → Read (List Cell)
body_get short h w ks b = do
  (m, r) ← cut_at short (bitmap (length ks)) b
  (s, r') ← cut_at short (length ks * w) r
  (z, d) ← cut_at short (pad (length ks * w) - length ks * w) r'
  assert_at (byte (h + past_byte (length ks) m)) (dec_lt (num m) (2 ^ length ks))
  (cs, rs) ← reads w (front h w (length ks)) d ks (h + bitmap (length ks)) (num m) s []
  assert_at (byte (h + bitmap (length ks) + length ks * w + zeros_ahead z)) (ℕ_discrete (num z) 0)
  assert_at slot (ℕ_discrete (total rs) (length d))
  got cs

-- ---- containers

pub record StructFits (ks : List Kid) (c : Cell) : Type 0 where
  pub plain : c ≡ node (parts c)
  pub children : AllFit 8 ks (parts c)

pub record StructLays (ks : List Kid) (c : Cell) (b : List ℕ) : Type 0 where
  pub plain : c ≡ node (parts c)
  pub body : BodyLays 0 8 ks (parts c) b

unfoldable pub struct : List Kid → Codec
struct ks = record {
  wide = none;
  Fits = StructFits ks;
  put = λ c. body_put 0 8 ks (parts c);
  Lays = StructLays ks;
  get = λ b. (do
    assert_at slot (ℕ_discrete (length b % 8) 0)
    cs ← body_get slot 0 8 ks b
    got (node cs));
}

pub record ListFits (w : ℕ) (k : Kid) (c : Cell) : Type 0 where
  pub plain : c ≡ node (parts c)
  pub children : AllFit w (replicate (length (parts c)) k) (parts c)

pub record ListLays (w : ℕ) (k : Kid) (c : Cell) (b : List ℕ) : Type 0 where
  pub rest : List ℕ
  pub plain : c ≡ node (parts c)
  pub whole : le 8 (length (parts c)) ++ rest ≡ b
  pub body : BodyLays 8 w (replicate (length (parts c)) k) (parts c) rest

-- w bytes to an element
unfoldable pub array : ℕ → Kid → Codec
array w k = record {
  wide = none;
  Fits = ListFits w k;
  put = λ c. le 8 (length (parts c)) ++ body_put 8 w (replicate (length (parts c)) k) (parts c);
  Lays = ListLays w k;
  get = λ b. (do
    assert_at slot (ℕ_discrete (length b % 8) 0)
    (h, r) ← cut_at slot 8 b
    cs ← body_get (byte 0) 8 w (replicate (num h) k) r
    got (node cs));
}

pub record MapFits (k v : Codec) (c : Cell) : Type 0 where
  pub plain : c ≡ node (part_of 0 c ∷ part_of 1 c ∷ [])
  pub keys : k.Fits (part_of 0 c)
  pub values : v.Fits (part_of 1 c)
  pub counts : length (parts (part_of 0 c)) ≡ length (parts (part_of 1 c))

pub record MapLays (k v : Codec) (c : Cell) (b : List ℕ) : Type 0 where
  pub keys_array : List ℕ
  pub values_array : List ℕ
  pub plain : c ≡ node (part_of 0 c ∷ part_of 1 c ∷ [])
  pub whole : le 8 (length keys_array) ++ (keys_array ++ values_array) ≡ b
  pub keys : k.Lays (part_of 0 c) keys_array
  pub values : v.Lays (part_of 1 c) values_array
  pub counts : length (parts (part_of 0 c)) ≡ length (parts (part_of 1 c))

-- K, the size of the keys array; the keys array; the values array to the map's end; equal counts.
unfoldable pub pair : Codec → Codec → Codec
pair k v = record {
  wide = none;
  Fits = MapFits k v;
  put = λ c. le 8 (length (k.put (part_of 0 c))) ++ (k.put (part_of 0 c) ++ v.put (part_of 1 c));
  Lays = MapLays k v;
  get = λ b. (do
    assert_at slot (ℕ_discrete (length b % 8) 0)
    (h, r) ← cut_at slot 8 b
    assert_at (byte 0) (ℕ_discrete (num h % 8) 0)
    (p, q) ← cut_at (byte 0) (num h) r
    ks ← within 8 8 (k.get p)
    assert_at (byte (8 + num h)) (ℕ_discrete (num (take 8 q)) (length (parts ks)))
    vs ← within (8 + num h) (8 + num h) (v.get q)
    got (node (ks ∷ vs ∷ [])));
}

-- ---- types

-- what a number of the type stays below: 2 for a bool
unfoldable pub limit : Fixed → ℕ
limit bo = 2
limit i1 = 256 ^ 1
limit i2 = 256 ^ 2
limit i4 = 256 ^ 4
limit i8 = 256 ^ 8
limit f4 = 256 ^ 4
limit f8 = 256 ^ 8

abbrev pub list : Codec → Codec
list c = array (slot_of c.wide) (kid (slot_of c.wide) c)

unfoldable mutual
  pub codec : Ty → Codec
  codec (fix f) = number (width f) (limit f)
  codec (text t) = string t
  codec (li t) = list (codec t)
  codec (ma k v) = pair (list (codec k)) (list (codec v))
  codec (ro ts) = struct (kids ts)

  pub kids : Tys → List Kid
  kids end = []
  kids (t then ts) = kid 8 (codec t) ∷ kids ts

abbrev pub Fits : Ty → Cell → Type 0
Fits t = (codec t).Fits

-- the bytes that writing lays down
abbrev pub content : Ty → Cell → List ℕ
content t = (codec t).put

-- b is one of the byte strings that stand for c
abbrev pub Lays : Ty → Cell → List ℕ → Type 0
Lays t = (codec t).Lays

-- what checking and listing read
abbrev pub decode : Ty → List ℕ → Option Cell
decode t b = yielded ((codec t).get b)

-- the place of the first fault of a row, where it has one
abbrev pub fault_at : Ty → List ℕ → Option ℕ
fault_at t row = fault_in ((codec t).get row)
