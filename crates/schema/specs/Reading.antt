-- Bytes read as a type, and when they are a schema. Assumes nothing: these are definitions.
use Rattle.std.specs.Prelude.{List, [], ◌∷◌, ℕ, zero, suc, leb, length, get_or, drop}
use Rattle.schema.specs.Types.{Ty, fix, text, li, ma, ro, Tys, end, ◌then◌, fixed_at, text_at}
use Rattle.schema.specs.Kinds.{pick, head_kind, Kind, fixed_kind, text_kind, list_kind, map_kind, struct_kind, no_kind}
use Rattle.schema.specs.declared.Judged.{Judged}
use Rattle.schema.specs.declared.Judged.TheVariants.{Accepted, Refused}

-- What reading finds: a type, or types, and what is left; or none.
pub data Parsed : Type 0 where
  none : Parsed
  some : Ty → List ℕ → Parsed

pub data ParsedAll : Type 0 where
  nones : ParsedAll
  somes : Tys → List ℕ → ParsedAll

abbrev pub after : {A : Type 0} → Parsed → A → (Ty → List ℕ → A) → A
after none z f = z
after (some t r) z f = f t r

abbrev pub afters : {A : Type 0} → ParsedAll → A → (Tys → List ℕ → A) → A
afters nones z f = z
afters (somes ts r) z f = f ts r

-- n types one after the other, each read by p
unfoldable pub parse_all : (List ℕ → Parsed) → ℕ → List ℕ → ParsedAll
parse_all p zero s = somes end s
parse_all p (suc n) s = after (p s) nones (λ t r. afters (parse_all p n r) nones (λ ts q. somes (t then ts) q))

-- a struct of n fields
unfoldable pub parse_ro : (List ℕ → Parsed) → ℕ → List ℕ → Parsed
parse_ro p n s = pick (leb 1 n) (pick (leb n 128) (afters (parse_all p n s) none (λ ts q. some (ro ts) q)) none) none

-- a type of the kind that its mark says, whose holdings are read by p
unfoldable pub parse_kind : (List ℕ → Parsed) → Kind → List ℕ → Parsed
parse_kind p (fixed_kind k) s = some (fix (fixed_at k)) (drop 2 s)
parse_kind p (text_kind k) s = some (text (text_at k)) (drop 2 s)
parse_kind p list_kind s = after (p (drop 2 s)) none (λ t r. some (li t) r)
parse_kind p map_kind s = after (p (drop 2 s)) none (λ k r. after (p r) none (λ v q. some (ma k v) q))
parse_kind p struct_kind s = parse_ro p (get_or s 2 0) (drop 3 s)
parse_kind p no_kind s = none

-- the type that a list begins with, at most d deep
unfoldable pub parse_type : ℕ → List ℕ → Parsed
parse_type zero s = none
parse_type (suc d) s = parse_kind (parse_type d) (head_kind s) s

-- a struct and nothing after it
abbrev pub root : Ty → List ℕ → Judged
root (ro ts) [] = Accepted
root (ro ts) (x ∷ r) = Refused
root (fix f) r = Refused
root (text t) r = Refused
root (li t) r = Refused
root (ma k v) r = Refused

unfoldable pub judged : List ℕ → Judged
judged s = pick (leb (length s) 1024) (after (parse_type 8 s) Refused root) Refused
