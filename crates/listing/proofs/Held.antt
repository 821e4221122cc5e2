-- Bytes that stand for contents, and the contents: each is found from the other. Assumes nothing.
use mathlib.Core.Path.{◌≡◌, refl, ap}
use mathlib.Core.Bool.{true}
use mathlib.Core.Option.{Option, none, some}
use mathlib.Core.List.{List, ◌++◌}
use Prim.Native.Nat.{ℕ, ◌≤◌}
use native.Mathlib.Omega.{arith}
use lib.ListN.{length}
use Rattle.words.specs.Bytes.{Bytes, le}
use Rattle.schema.specs.Marks.{mark_at}
use Rattle.schema.specs.Types.{Fixed, Text, Ty, fix, text, place, mark}
use Rattle.layout.specs.Cells.{Cell}
use Rattle.layout.specs.Layout.{number, string, codec, Lays, decode}
use Rattle.layout.specs.Listing.{number_script, text_script, script, listing}
use Rattle.layout.specs.Setting.{is_some}
use Rattle.layout.proofs.Containers.{decode-lays, lays-decode}
use Rattle.listing.specs.Lines.{or_leaf, cell_of, lines}
use Rattle.listing.specs.Room.{Holds}

pub cell-is : (t : Ty) (x : Cell) (b : List ℕ) → Lays t x b → length b ≤ 16384 → cell_of t b ≡ x
unfolding cell_of
cell-is t x b y l = ap or_leaf (decode-lays t x b y (omega arith))

pub holds-lays : (t : Ty) (x : Cell) (b : List ℕ) → Bytes b → length b ≤ 16384 → Lays t x b → Holds t b
holds-lays t x b hb l y = record { bytes = hb; small = l; lays = rw (cell-is t x b y l) y }

-- from what a check has shown
pub holds-sound : (t : Ty) (b : List ℕ) → Bytes b → length b ≤ 16384 → is_some (decode t b) ≡ true → Holds t b
holds-sound t b hb l e = go (decode t b) refl e
  where
    go : (o : Option Cell) → decode t b ≡ o → is_some o ≡ true → Holds t b
    go none q s = absurd (let z : ◌≡◌ {A = ℕ} 0 1 = cc in omega arith)
    go (some c) q s = holds-lays t c b hb l (lays-decode t b c hb q)

pub lines_of : (t : Ty) (x : Cell) (b : List ℕ) → Lays t x b → length b ≤ 16384 → lines t b ≡ mark t ++ (script t).put x
unfolding lines listing
lines_of t x b y l = rw (cell-is t x b y l)

-- ---- leaves

pub fixed-lines : (f : Fixed) (u : List ℕ) → Holds (fix f) u → lines (fix f) u ≡ mark (fix f) ++ u
unfolding lines listing script number_script codec number
fixed-lines f u h = rw h.lays.is

pub text-lines : (t : Text) (u : List ℕ) → Holds (text t) u → lines (text t) u ≡ mark (text t) ++ (le 4 (length u) ++ u)
unfolding lines listing script text_script codec string
text-lines t u h = rw h.lays.is

pub mark-at : (t : Ty) (k : ℕ) → k ≡ place t → mark_at k ≡ mark t
unfolding mark
mark-at t k e = ap mark_at e
