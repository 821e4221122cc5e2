-- The house form of a schema, as document 01 has it. Assumes nothing: these are definitions.
use Rattle.std.specs.Prelude.{List, [], ◌∷◌, ◌++◌, ◌≡◌, ℕ, zero, suc, max, ◌≤◌, length}
use Rattle.schema.specs.Types.{Ty, fix, text, li, ma, ro, Tys, end, ◌then◌, count, mark}

-- a leaf is its mark; `li` is followed by one type, `ma` by key type and value type, `ro` by one byte, the field count, and the field types
unfoldable mutual
  pub schema : Ty → List ℕ
  schema (fix f) = mark (fix f)
  schema (text t) = mark (text t)
  schema (li t) = mark (li t) ++ schema t
  schema (ma k v) = mark (ma k v) ++ (schema k ++ schema v)
  schema (ro ts) = mark (ro ts) ++ (count ts ∷ schemas ts)

  pub schemas : Tys → List ℕ
  schemas end = []
  schemas (t then ts) = schema t ++ schemas ts

-- how deep a type goes: a leaf 1, and every type one deeper than the deepest that it holds
unfoldable mutual
  pub depth : Ty → ℕ
  depth (fix f) = 1
  depth (text t) = 1
  depth (li t) = suc (depth t)
  depth (ma k v) = suc (max (depth k) (depth v))
  depth (ro ts) = suc (depths ts)

  pub depths : Tys → ℕ
  depths end = zero
  depths (t then ts) = max (depth t) (depths ts)

-- the field count is 1 to 128
pub record Counted (ts : Tys) : Type 0 where
  pub low : 1 ≤ count ts
  pub high : count ts ≤ 128

-- and is so in each struct
unfoldable mutual
  pub Right : Ty → Type 0
  Right (fix f) = Unit {0}
  Right (text t) = Unit {0}
  Right (li t) = Right t
  Right (ma k v) = Right k × Right v
  Right (ro ts) = Counted ts × Rights ts

  pub Rights : Tys → Type 0
  Rights end = Unit {0}
  Rights (t then ts) = Right t × Rights ts

-- a schema: the root is `ro`, none has depth 9, at most 1,024 bytes, and nothing after the root
pub record Schema (s : List ℕ) : Type 0 where
  pub fields : Tys
  pub form : s ≡ schema (ro fields)
  pub right : Right (ro fields)
  pub deep : depth (ro fields) ≤ 8
  pub short : length s ≤ 1024
