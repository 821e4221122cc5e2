-- The types of a schema by position. Assumes nothing: these are definitions.
use Rattle.std.specs.Prelude.{true, false, List, ◌≡◌, ℕ, zero, suc, ◌+◌, ◌-◌, ◌≤◌, ◌<◌, T, length, drop}
use Rattle.schema.specs.Types.{Ty, fix, text, li, ma, ro, Tys, end, st}
use Rattle.schema.specs.House.{schema, schemas}
use Rattle.schema.specs.Reading.{after, afters, parse_type, parse_all, judged}
use Rattle.schema.specs.declared.Judged.{Judged}
use Rattle.schema.specs.declared.Judged.TheVariants.{Accepted, Refused}

-- the bytes that a type takes in a schema, and that types take
unfoldable pub size : Ty → ℕ
size t = length (schema t)

unfoldable pub sizes : Tys → ℕ
sizes ts = length (schemas ts)

-- a type, at most d deep, stands at a position; and which one
unfoldable pub Typed : List ℕ → ℕ → ℕ → Type 0
Typed s at d = T (after (parse_type d (drop at s)) false (λ t r. true))

unfoldable pub type_at : List ℕ → ℕ → ℕ → Ty
type_at s at d = after (parse_type d (drop at s)) (text st) (λ t r. t)

-- n types stand one after the other from a position on; and which
unfoldable pub TypedAll : List ℕ → ℕ → ℕ → ℕ → Type 0
TypedAll s at d n = T (afters (parse_all (parse_type d) n (drop at s)) false (λ ts r. true))

unfoldable pub types_at : List ℕ → ℕ → ℕ → ℕ → Tys
types_at s at d n = afters (parse_all (parse_type d) n (drop at s)) end (λ ts r. ts)

-- the position after the type at a position
unfoldable pub next_at : List ℕ → ℕ → ℕ → ℕ
next_at s at d = at + size (type_at s at d)

-- the fields of an accepted schema
abbrev pub parts : Ty → Tys
parts (ro ts) = ts
parts (fix f) = end
parts (text t) = end
parts (li t) = end
parts (ma k v) = end

abbrev pub parts_if : Judged → Ty → Tys
parts_if Accepted t = parts t
parts_if Refused t = end

unfoldable pub fields_of : List ℕ → Tys
fields_of s = parts_if (judged s) (type_at s 0 8)

-- a list's elements' type stands at c; a map's keys' and values' types at k and v; a struct's n fields' types from f on
pub record ListAt (s : List ℕ) (at d c : ℕ) : Type 0 where
  pub whole : type_at s at d ≡ li (type_at s c (d - 1))
  pub deep : 0 < d
  pub element : Typed s c (d - 1)

pub record MapAt (s : List ℕ) (at d k v : ℕ) : Type 0 where
  pub whole : type_at s at d ≡ ma (type_at s k (d - 1)) (type_at s v (d - 1))
  pub deep : 0 < d
  pub keys : Typed s k (d - 1)
  pub values : Typed s v (d - 1)

pub record StructAt (s : List ℕ) (at d f n : ℕ) : Type 0 where
  pub whole : type_at s at d ≡ ro (types_at s f (d - 1) n)
  pub deep : 0 < d
  pub fields : TypedAll s f (d - 1) n
  pub low : 1 ≤ n
  pub high : n ≤ 128

-- the position of the i-th of the types that stand one after the other, and that there is one
unfoldable pub field_at : List ℕ → ℕ → ℕ → ℕ → ℕ
field_at s at d zero = at
field_at s at d (suc i) = field_at s (next_at s at d) d i

pub record HasField (s : List ℕ) (at d i : ℕ) : Type 0 where
  pub n : ℕ
  pub fields : TypedAll s at d n
  pub within : i < n
