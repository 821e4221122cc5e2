-- When a schema is accepted: what the judge finds is what document 01 asks. Assumes nothing.
use mathlib.Core.Path.{◌≡◌, refl, ap, sym, ◌∙◌, subst}
use mathlib.Core.Bool.{Bool, true, false}
use mathlib.Core.List.{List, [], ◌∷◌, append-nil}
use Prim.Native.Nat.{ℕ, ◌+◌, ◌<◌, ◌≤◌}
use native.Mathlib.Omega.{arith}
use borrow.Author.Tests.{le-leb, lt-leb, leb-true}
use lib.Dec.{leb}
use lib.ListN.{length, length-append}
use Rattle.schema.specs.Types.{Ty, fix, text, li, ma, ro, Tys, count}
use Rattle.schema.specs.House.{schema, depth, Right, Schema}
use Rattle.schema.specs.Kinds.{pick, kind_at, head_kind, kind_ty, struct_kind}
use Rattle.schema.specs.Reading.{Parsed, none, some, after, parse_type, root, judged}
use Rattle.schema.specs.Walk.{size, Typed, type_at, fields_of}
use Rattle.schema.specs.declared.Judged.{Judged}
use Rattle.schema.specs.declared.Judged.TheVariants.{Accepted, Refused}
use Rattle.schema.proofs.Parse.{Sound, sound, complete, schema-kind}

abbrev result : Parsed → Judged
result x = after x Refused root

-- what a list begins with is the type that it reads as
head-is : (s : List ℕ) (X : Ty) (r : List ℕ) → Sound 8 s (some X r) → kind_at s 0 ≡ kind_ty X
unfolding kind_at
head-is s X r h = ap head_kind h.form ∙ schema-kind X r

other : (s : List ℕ) → (kind_at s 0 ≡ struct_kind → ⊥) → (x : Parsed) → Sound 8 s x → result x ≡ Refused
other s n none h = refl
other s n (some (fix f) r) h = refl
other s n (some (text t) r) h = refl
other s n (some (li X) r) h = refl
other s n (some (ma K U) r) h = refl
other s n (some (ro ts) r) h = absurd (n (head-is s (ro ts) r h))

-- the laws that the builder of a table cites
module _ (s : List ℕ) where
  pub judged-long : 1024 < length s → judged s ≡ Refused
  unfolding judged
  judged-long h = rw (lt-leb _ _ h)

  module _ (h : length s ≤ 1024) where
    pub judged-other : (kind_at s 0 ≡ struct_kind → ⊥) → judged s ≡ Refused
    unfolding judged
    judged-other n = rw (le-leb _ _ h) (other s n (parse_type 8 s) (sound 8 s))

    pub judged-none : parse_type 8 s ≡ none → judged s ≡ Refused
    unfolding judged
    judged-none e = rw (le-leb _ _ h, e)

    -- a struct is read
    module _ {ts : Tys} {r : List ℕ} (e : parse_type 8 s ≡ some (ro ts) r) where
      lengths : length s ≡ size (ro ts) + length r
      unfolding size
      lengths = ap length (subst (Sound 8 s) e (sound 8 s)).form ∙ length-append (schema (ro ts)) r

      pub judged-beyond : (size (ro ts) ≡ length s → ⊥) → judged s ≡ Refused
      unfolding judged
      judged-beyond n = rw (le-leb _ _ h, e) (go r lengths)
        where
          go : (r : List ℕ) → length s ≡ size (ro ts) + length r → root (ro ts) r ≡ Refused
          go [] l = absurd (n (omega arith))
          go (y ∷ r) l = refl

      pub judged-whole : size (ro ts) ≡ length s → judged s ≡ Accepted
      unfolding judged
      judged-whole n = rw (le-leb _ _ h, e) (go r lengths)
        where
          go : (r : List ℕ) → length s ≡ size (ro ts) + length r → root (ro ts) r ≡ Accepted
          go [] l = refl
          go (y ∷ r) l = absurd (omega arith)

-- accepted exactly where document 01 says so
from : (s : List ℕ) → length s ≤ 1024 → (x : Parsed) → Sound 8 s x → result x ≡ Accepted → Schema s
from s l (some (ro ts) []) h e = record { fields = ts; form = h.form ∙ append-nil (schema (ro ts)); right = h.right; deep = h.deep; short = l }
from s l none h e = let z : ◌≡◌ {A = ℕ} 0 1 = cc in absurd (omega arith)
from s l (some (fix f) r) h e = let z : ◌≡◌ {A = ℕ} 0 1 = cc in absurd (omega arith)
from s l (some (text t) r) h e = let z : ◌≡◌ {A = ℕ} 0 1 = cc in absurd (omega arith)
from s l (some (li X) r) h e = let z : ◌≡◌ {A = ℕ} 0 1 = cc in absurd (omega arith)
from s l (some (ma K U) r) h e = let z : ◌≡◌ {A = ℕ} 0 1 = cc in absurd (omega arith)
from s l (some (ro ts) (y ∷ r)) h e = let z : ◌≡◌ {A = ℕ} 0 1 = cc in absurd (omega arith)

pub accepted-schema : (s : List ℕ) → judged s ≡ Accepted → Schema s
unfolding judged
accepted-schema s e = go (leb (length s) 1024) refl e
  where
    go : (t : Bool) → leb (length s) 1024 ≡ t → pick t (after (parse_type 8 s) Refused root) Refused ≡ Accepted → Schema s
    go true p q = from s (leb-true _ _ p) (parse_type 8 s) (sound 8 s) q
    go false p q = let z : ◌≡◌ {A = ℕ} 0 1 = cc in absurd (omega arith)

pub schema-accepted : (s : List ℕ) → Schema s → judged s ≡ Accepted
unfolding judged
schema-accepted s c = rw (le-leb _ _ c.short, c.form ∙ sym (append-nil (schema (ro c.fields))), complete (ro c.fields) 8 [] c.right c.deep)

-- what an accepted schema is: a struct of 1 to 128 fields at its start
pub record Root (s : List ℕ) : Type 0 where
  pub typed : Typed s 0 8
  pub kind : kind_at s 0 ≡ struct_kind
  pub whole : type_at s 0 8 ≡ ro (fields_of s)
  pub form : s ≡ schema (ro (fields_of s))
  pub right : Right (ro (fields_of s))
  pub deep : depth (ro (fields_of s)) ≤ 8
  pub short : length s ≤ 1024
  pub low : 1 ≤ count (fields_of s)
  pub high : count (fields_of s) ≤ 128

read_whole : (s : List ℕ) (c : Schema s) → parse_type 8 s ≡ some (ro c.fields) []
read_whole s c = ap (parse_type 8) (c.form ∙ sym (append-nil (schema (ro c.fields)))) ∙ complete (ro c.fields) 8 [] c.right c.deep

schema-fields : (s : List ℕ) (c : Schema s) → c.fields ≡ fields_of s
unfolding fields_of type_at
schema-fields s c = rw (schema-accepted s c, read_whole s c)

pub accepted-root : (s : List ℕ) → judged s ≡ Accepted → Root s
unfolding Typed type_at Right
accepted-root s e =
    let c = accepted-schema s e in
    let f : c.fields ≡ fields_of s = schema-fields s c in
    let p = read_whole s c in
    record {
      typed = rw p tt;
      kind = head-is s (ro c.fields) [] (subst (Sound 8 s) p (sound 8 s));
      whole = rw p (ap ro f);
      form = c.form ∙ ap (λ ts. schema (ro ts)) f;
      right = subst (λ (ts : Tys). Right (ro ts)) f c.right;
      deep = subst (λ (ts : Tys). depth (ro ts) ≤ 8) f c.deep;
      short = c.short;
      low = rw (← f) c.right.0.low;
      high = rw (← f) c.right.0.high;
    }
