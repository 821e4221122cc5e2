-- What one step of the walk into bytes that stand for contents comes to: a child, where its bytes are, and what changing them, or its bit and
-- slot, makes of the whole. Assumes nothing: these are definitions, for laws.
use mathlib.Core.Path.{◌≡◌}
use mathlib.Core.Option.{none}
use mathlib.Core.List.{List}
use Prim.Native.Nat.{ℕ, ◌+◌, ◌/◌, ◌≤◌, ◌<◌}
use lib.ListN.{length, set}
use lib.Seq.{sets}
use Rattle.words.specs.Bytes.{zeros, fill, part}
use Rattle.words.specs.Bits.{put_bit}
use Rattle.schema.specs.Types.{Fixed, width, Ty, fix, text, li, ma, ro}
use Rattle.layout.specs.Cells.{Cell, null, leaf, node, flag, parts, part_of}
use Rattle.layout.specs.Layout.{NumberFits, number, limit, codec, Lays}
use Rattle.layout.specs.Refusals.{numbered}
use Rattle.layout.specs.Walk.{Seat, Step, stop, to_null, into, step_in}
use Rattle.layout.proofs.Bitmaps.{nulled}
use Rattle.layout.proofs.Aside.{Aside}

abbrev pub Leafy : Ty → Type 0
Leafy (fix f) = Unit {0}
Leafy (text t) = Unit {0}
Leafy (li t) = ⊥
Leafy (ma k v) = ⊥
Leafy (ro ts) = ⊥

-- what a fixed-width leaf may be set to, and its slot of w bytes then
pub data FixedSlot (w : ℕ) (f : Fixed) : Cell → List ℕ → Type 0 where
  nulls : FixedSlot w f (null (zeros w)) (zeros w)
  given : {u : List ℕ} → NumberFits (width f) (limit f) (leaf u) → FixedSlot w f (leaf u) (fill w u)

-- s is the seat of child i, of type t, in the bytes b of c, which start at the row's byte o: setting its bit and slot sets the child
pub record Seated (T t : Ty) (c : Cell) (i o : ℕ) (b : List ℕ) (s : Seat) : Type 0 where
  pub bits₀ : ℕ
  pub slot₀ : ℕ
  pub bits : s.bits ≡ o + bits₀
  pub number : s.number ≡ i
  pub slot : s.slot ≡ o + slot₀
  pub bit-room : bits₀ + i / 8 < length b
  pub slot-room : slot₀ + s.wide ≤ length b
  pub long : (f : Fixed) → t ≡ fix f → (x : Cell) (v : List ℕ) → FixedSlot s.wide f x v → length v ≡ s.wide
  pub fixed : (f : Fixed) → t ≡ fix f → (x : Cell) (v : List ℕ) → FixedSlot s.wide f x v
      → Lays T (node (set (parts c) i x)) (sets (put_bit b bits₀ i (nulled x)) slot₀ v)
  pub emptied : (codec t).wide ≡ none → flag (part_of i c) ≡ 1 → Lays T (node (set (parts c) i (null (zeros s.wide)))) (sets b slot₀ (zeros s.wide))
  pub fixed-aside : (f : Fixed) → t ≡ fix f → (x : Cell) (v : List ℕ) → FixedSlot s.wide f x v → Aside T i b (sets (put_bit b bits₀ i (nulled x)) slot₀ v)
  pub emptied-aside : (codec t).wide ≡ none → flag (part_of i c) ≡ 1 → Aside T i b (sets b slot₀ (zeros s.wide))

-- a step to child i comes to u in b, and to v in b', in the same place
pub record Into (T t : Ty) (i j o : ℕ) (z : Seat) (b u b' v : List ℕ) : Type 0 where
  pub seat : Seat
  pub was : step_in T i z o b ≡ into t seat (o + j) u
  pub is : step_in T i z o b' ≡ into t seat (o + j) v

-- the child's bytes u stand at j in b; others as long may stand there in their place
pub record Held (T t : Ty) (c : Cell) (i : ℕ) (b : List ℕ) (j : ℕ) (u : List ℕ) : Type 0 where
  pub lays : Lays t (part_of i c) u
  pub there : part b j (length u) ≡ u
  pub room : j + length u ≤ length b
  pub put : (codec t).wide ≡ none → (x : Cell) (v : List ℕ) → Lays t x v → length v ≡ length u → length (parts x) ≡ length (parts (part_of i c))
      → Lays T (node (set (parts c) i x)) (sets b j v)
  pub put-aside : (codec t).wide ≡ none → (v : List ℕ) → length v ≡ length u → Aside T i b (sets b j v)
  pub put-there : (codec t).wide ≡ none → (v : List ℕ) → length v ≡ length u → (z : Seat) (o : ℕ) → Into T t i j o z b u (sets b j v) v

-- a step to child i, of type t, of contents c of type T
pub data Comes (T t : Ty) (c : Cell) (i o : ℕ) (b : List ℕ) : Step → Type 0 where
  past : length (parts c) ≤ i → Comes T t c i o b (stop (numbered 5))
  missing : {s : Seat} → i < length (parts c) → flag (part_of i c) ≡ 1 → Seated T t c i o b s → Comes T t c i o b (to_null s)
  on : {s : Seat} {j : ℕ} {u : List ℕ} → i < length (parts c) → flag (part_of i c) ≡ 0 → Held T t c i b j u → (Leafy t → Seated T t c i o b s)
      → Comes T t c i o b (into t s (o + j) u)
