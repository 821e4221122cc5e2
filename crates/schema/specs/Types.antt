-- The types of document 01, and what the table says of each. Assumes nothing: these are definitions.
use Rattle.std.specs.Prelude.{List, [], ◌∷◌, ℕ, zero, suc, ◌-◌, get_or}
use Rattle.schema.specs.Marks.{STRING, LIST, MAP, STRUCT, line, mark_at}

-- the types of a fixed width: bool, int8, int16, int32, int64, float32, float64
pub data Fixed : Type 0 where
  bo i1 i2 i4 i8 f4 f8 : Fixed

-- string and binary
pub data Text : Type 0 where
  st bi : Text

-- a list of one type; a map from keys to values; a struct of its fields
infixr 30 ◌then◌
mutual
  pub data Ty : Type 0 where
    fix : Fixed → Ty
    text : Text → Ty
    li : Ty → Ty
    ma : Ty → Ty → Ty
    ro : Tys → Ty

  pub data Tys : Type 0 where
    end : Tys
    ◌then◌ : Ty → Tys → Tys

-- how many they are
unfoldable pub count : Tys → ℕ
count end = zero
count (t then ts) = suc (count ts)

-- the type numbered i; a string past the last
unfoldable pub field : Tys → ℕ → Ty
field end i = text st
field (t then ts) zero = t
field (t then ts) (suc i) = field ts i

-- ---- their lines of the table

unfoldable pub fixed_place : Fixed → ℕ
fixed_place bo = 0
fixed_place i1 = 1
fixed_place i2 = 2
fixed_place i4 = 3
fixed_place i8 = 4
fixed_place f4 = 5
fixed_place f8 = 6

unfoldable pub text_place : Text → ℕ
text_place st = 7
text_place bi = 8

-- the types at the table's places 0 to 6, and at 7 and 8
unfoldable pub fixed_at : ℕ → Fixed
fixed_at k = get_or (bo ∷ i1 ∷ i2 ∷ i4 ∷ i8 ∷ f4 ∷ f8 ∷ []) k bo

unfoldable pub text_at : ℕ → Text
text_at k = get_or (st ∷ bi ∷ []) (k - STRING) st

unfoldable pub place : Ty → ℕ
place (fix f) = fixed_place f
place (text t) = text_place t
place (li t) = LIST
place (ma k v) = MAP
place (ro ts) = STRUCT

unfoldable pub width : Fixed → ℕ
width f = (line (fixed_place f)).width

unfoldable pub mark : Ty → List ℕ
mark t = mark_at (place t)
