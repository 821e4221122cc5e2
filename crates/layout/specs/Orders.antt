-- What it is for the variable values of a row to stand in some order: in every container the present ones are placed one after another,
-- with no gap, from the end of its fixed part to its end. `Layout` asks a value only to be apart from its earlier siblings (`Tiles`), and
-- so needs no search for the order; `AnyOrder` in proofs/ says that it comes to the same, and that every order has a row.
-- Assumes nothing: these are definitions.
use Rattle.std.specs.Prelude.{◌≡◌, List, [], ◌∷◌, ◌++◌, map, ℕ, suc, ◌+◌, ◌*◌, ◌^◌, length, replicate}
use Rattle.std.proofs.Math.Option.{Option, none, some}
use Rattle.words.specs.Bytes.{le, fill, pad, padded, bitmap}
use Rattle.schema.specs.Types.{width, Ty, fix, text, li, ma, ro, Tys, end, ◌then◌}
use Rattle.layout.specs.Cells.{Cell, node, on_null, bytes, parts, part_of}
use Rattle.layout.specs.Layout.{Exactly, NumberFits, StringFits, NullFits, slot_of, flags, front, limit, codec}

-- ---- an order

-- zs is ys with x put in somewhere
pub data Insert {A : Type 0} (x : A) : List A → List A → Type 0 where
  here : {ys : List A} → Insert x ys (x ∷ ys)
  there : {y : A} {ys zs : List A} → Insert x ys zs → Insert x (y ∷ ys) (y ∷ zs)

-- ys is xs in some order
pub data Order {A : Type 0} : List A → List A → Type 0 where
  nothing : Order [] []
  put : {x : A} {xs ys zs : List A} → Order xs ys → Insert x ys zs → Order (x ∷ xs) zs

-- where it is put in, and so which order it is: two may have the same things in the same places
unfoldable pub put_at : {A : Type 0} {x : A} {ys zs : List A} → Insert x ys zs → ℕ
put_at here = 0
put_at (there i) = suc (put_at i)

unfoldable pub which : {A : Type 0} {xs ys : List A} → Order xs ys → List ℕ
which nothing = []
which (put o i) = put_at i ∷ which o

-- ---- values

-- a value in its container: its offset, and its bytes without padding
pub record Value : Type 0 where
  pub start : ℕ
  pub own : List ℕ

abbrev pub owns : List Value → List (List ℕ)
owns = map (λ (v : Value). v.own)

-- the first starts at a byte, and each of the others where the one before it ends
unfoldable pub OneAfterAnother : ℕ → List Value → Type 0
OneAfterAnother at [] = Unit {0}
OneAfterAnother at (v ∷ vs) = (v.start ≡ at) × OneAfterAnother (at + pad (length v.own)) vs

-- their bytes
unfoldable pub joined : List Value → List ℕ
joined [] = []
joined (v ∷ vs) = padded v.own ++ joined vs

-- ---- a container's children

-- wide: the bytes of a fixed width. Image c u: u is one of the byte strings that stand for c.
pub record Child : Type 1 where
  pub wide : Option ℕ
  pub Image : Cell → List ℕ → Type 0

abbrev pub child_of : Option ℕ → (Cell → List ℕ → Type 0) → Child
child_of wide Image = record { wide = wide; Image = Image }

-- vs: the values of the children before it; vs': with its own. A null's slot may hold anything, and it has no value.
pub record NullSlot (w : ℕ) (u s : List ℕ) (vs vs' : List Value) : Type 0 where
  pub fits : NullFits w u
  pub is : u ≡ s
  pub same : vs ≡ vs'

-- a fixed width stands at the start of the slot, and the rest of the slot is zero
pub record OwnSlot (Image : Cell → List ℕ → Type 0) (w : ℕ) (c : Cell) (s : List ℕ) (vs vs' : List Value) : Type 0 where
  pub own : List ℕ
  pub image : Image c own
  pub slot : fill w own ≡ s
  pub same : vs ≡ vs'

-- the slot says where the value starts, and its size
pub record ValueSlot (Image : Cell → List ℕ → Type 0) (c : Cell) (s : List ℕ) (vs vs' : List Value) : Type 0 where
  pub value : Value
  pub image : Image c value.own
  pub slot : le 8 (value.start * 2 ^ 32 + length value.own) ≡ s
  pub more : value ∷ vs ≡ vs'

abbrev pub PresentSlot : ℕ → Option ℕ → (Cell → List ℕ → Type 0) → Cell → List ℕ → List Value → List Value → Type 0
PresentSlot w (some v) Image c s vs vs' = OwnSlot Image w c s vs vs'
PresentSlot w none Image c s vs vs' = ValueSlot Image c s vs vs'

abbrev pub Slot : ℕ → Child → Cell → List ℕ → List Value → List Value → Type 0
Slot w k c s vs vs' = on_null (λ u. NullSlot w u s vs vs') (PresentSlot w k.wide k.Image c s vs vs') c

-- the first child has the slot first, and the others what is left of the slots
pub record Then (One Others : List ℕ → List Value → Type 0) (s : List ℕ) : Type 0 where
  pub slot : List ℕ
  pub left : List ℕ
  pub values : List Value
  pub whole : slot ++ left ≡ s
  pub one : One slot values
  pub others : Others left values

unfoldable pub Slots : ℕ → List Child → List Cell → List ℕ → List Value → List Value → Type 0
Slots w [] [] s vs vs' = (s ≡ []) × (vs ≡ vs')
Slots w [] (c ∷ cs) s vs vs' = ⊥
Slots w (k ∷ ks) [] s vs vs' = ⊥
Slots w (k ∷ ks) (c ∷ cs) s vs vs' = Then (λ slot values. Slot w k c slot vs values) (λ left values. Slots w ks cs left values vs') s

-- bitmap, slots up to Pad, and the values in some order, one after another
pub record BodyInOrder (h w : ℕ) (ks : List Child) (cs : List Cell) (b : List ℕ) : Type 0 where
  pub slots : List ℕ
  pub values : List Value
  pub order : List Value
  pub children : Slots w ks cs slots [] values
  pub same : Order values order
  pub placed : OneAfterAnother (front h w (length ks)) order
  pub whole : le (bitmap (length ks)) (flags cs) ++ (padded slots ++ joined order) ≡ b

-- ---- containers

pub record StructInOrder (ks : List Child) (c : Cell) (b : List ℕ) : Type 0 where
  pub plain : c ≡ node (parts c)
  pub body : BodyInOrder 0 8 ks (parts c) b

pub record ListInOrder (k : Child) (c : Cell) (b : List ℕ) : Type 0 where
  pub rest : List ℕ
  pub plain : c ≡ node (parts c)
  pub whole : le 8 (length (parts c)) ++ rest ≡ b
  pub body : BodyInOrder 8 (slot_of k.wide) (replicate (length (parts c)) k) (parts c) rest

pub record MapInOrder (k v : Child) (c : Cell) (b : List ℕ) : Type 0 where
  pub keys_array : List ℕ
  pub values_array : List ℕ
  pub plain : c ≡ node (part_of 0 c ∷ part_of 1 c ∷ [])
  pub whole : le 8 (length keys_array) ++ (keys_array ++ values_array) ≡ b
  pub keys : ListInOrder k (part_of 0 c) keys_array
  pub values : ListInOrder v (part_of 1 c) values_array
  pub counts : length (parts (part_of 0 c)) ≡ length (parts (part_of 1 c))

-- b is the contents c of the type, with the values of every container in some order
unfoldable mutual
  pub InOrder : Ty → Cell → List ℕ → Type 0
  InOrder (fix f) = Exactly (NumberFits (width f) (limit f)) bytes
  InOrder (text t) = Exactly (StringFits t) bytes
  InOrder (li t) = ListInOrder (child_of (codec t).wide (InOrder t))
  InOrder (ma k v) = MapInOrder (child_of (codec k).wide (InOrder k)) (child_of (codec v).wide (InOrder v))
  InOrder (ro ts) = StructInOrder (children ts)

  pub children : Tys → List Child
  children end = []
  children (t then ts) = child_of (codec t).wide (InOrder t) ∷ children ts
