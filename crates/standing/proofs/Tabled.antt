-- The loop over a struct's slots by the table: where the next field's entry stands, and whether its type varies. Assumes nothing.
use mathlib.Core.Path.{◌≡◌, refl, sym, ap, ◌∙◌, subst}
use mathlib.Core.Bool.{Bool, true, false, not}
use mathlib.Core.List.{List}
use Prim.Native.Nat.{ℕ, zero, suc, ◌+◌, ◌*◌, ◌≤◌, ◌<◌}
use native.Mathlib.Numerals.{add-one}
use native.Mathlib.Omega.{arith}
use mir.Val.{Fits}
use mir.Syntax.{w64}
use lib.ListN.{length}
use Rattle.words.specs.Bytes.{zeros, bitmap}
use Rattle.schema.specs.Types.{Ty, fix, text, li, ma, ro, place, field}
use Rattle.schema.specs.Walk.{Typed, type_at, types_at, next_at, field_at}
use Rattle.schema.proofs.Table.{fixed-high, text-low}
use Rattle.schema.proofs.Typing.{FieldLaw, field-typed, field-here}
use Rattle.schema.proofs.Places.{typed-place}
use Rattle.table.specs.Words.{place_in, after_in}
use Rattle.table.specs.Tables.{schema_of, pos_of, InTable, EntryAt}
use Rattle.standing.specs.Standing.{varies, field_varies, FieldsFrom, ChildRoom, FirstUnfit, PlacingChild}
use Rattle.standing.proofs.Passing.{
  Passed,
  slots-first,
  passed_start,
  passed-all,
  passed-map,
  passed-by,
  passed-slot,
  passed-asks,
  passed-fixed,
  passed-unfit,
  passed-next,
}

-- ---- the kinds that vary

pub kind-varies : (X : Ty) → 7 ≤ place X → varies X ≡ true
unfolding place varies
kind-varies (fix f) l = absurd (omega (arith, fixed-high f))
kind-varies (text t) l = refl
kind-varies (li t) l = refl
kind-varies (ma k v) l = refl
kind-varies (ro ts) l = refl

pub kind-fixed : (X : Ty) → place X < 7 → varies X ≡ false
unfolding place varies
kind-fixed (fix f) l = refl
kind-fixed (text t) l = absurd (omega (arith, text-low t))
kind-fixed (li t) l = absurd (omega arith)
kind-fixed (ma k v) l = absurd (omega arith)
kind-fixed (ro ts) l = absurd (omega arith)

-- ---- from field to field

pub field_next : (s : List ℕ) (d i at : ℕ) → next_at s (field_at s at d i) d ≡ field_at s at d (suc i)
unfolding field_at
field_next s d zero at = refl
field_next s d (suc i) at = field_next s d i (next_at s at d)

-- the fields before number i may all stand, and the entry of that field's type stands at a place
pub record FieldsPassed (t : List ℕ) (first d n : ℕ) (b : List ℕ) (slots start at i : ℕ) (m : List ℕ) : Type 0 where
  pub fields : FieldsFrom t first d n b
  pub type : pos_of t at ≡ field_at (schema_of t) (pos_of t first) d i
  pub passed : Passed 0 (field_varies t first d n) b n slots start i m

pub fields-start : {t : List ℕ} {first d n : ℕ} {b : List ℕ} → FieldsFrom t first d n b → {x : ℕ} → x ≡ bitmap n
    → FieldsPassed t first d n b x (x + 8 * n) first 0 (zeros 792)
fields-start {t} {first} {d} {n} f e = record {
  fields = f;
  type = sym (field-here (schema_of t) (pos_of t first) d 0 refl);
  passed = passed_start f.slots (slots-first f.slots e refl) (field_varies t first d n);
}

-- a struct has no header
headless : {vary : ℕ → Bool} {b : List ℕ} {n r : ℕ} → FirstUnfit 0 (0 + bitmap n) (0 + bitmap n + 8 * n) vary b n r
    → FirstUnfit 0 (bitmap n) (bitmap n + 8 * n) vary b n r
headless {n = n} u = let z : 0 + bitmap n ≡ bitmap n = omega arith in rw z at u

pub fields-all : {t : List ℕ} {first d n : ℕ} {b : List ℕ} {slots start at i : ℕ} {m : List ℕ} → FieldsPassed t first d n b slots start at i m → n ≤ i
    → FirstUnfit 0 (bitmap n) (bitmap n + 8 * n) (field_varies t first d n) b n n
fields-all p l = headless (passed-all p.passed l)

-- ---- the field that the loop has come to

module _ {t : List ℕ} {first d n : ℕ} {b : List ℕ} {slots start at i : ℕ} {m : List ℕ} (p : FieldsPassed t first d n b slots start at i m)
    (l : i < n) where
  field-law : FieldLaw (schema_of t) i (pos_of t first) d n
  field-law = field-typed (schema_of t) i (pos_of t first) d n p.fields.typed l

  pub field-stands : InTable t at d
  field-stands = record {
    table = p.fields.table;
    typed = subst (λ (x : ℕ). Typed (schema_of t) x d) (sym p.type) field-law.typed;
  }

-- its kind is k, and the next field's entry stands at next
pub record FieldIs {t : List ℕ} {first d n : ℕ} {b : List ℕ} {slots start at i : ℕ} {m : List ℕ}
    (p : FieldsPassed t first d n b slots start at i m) (next k : ℕ) : Type 0 where
  pub less : i < n
  pub word : ℕ
  pub entry : EntryAt t at d word
  pub after : next ≡ after_in word
  pub kind : k ≡ place_in word

module _ {t : List ℕ} {first d n : ℕ} {b : List ℕ} {slots start at i : ℕ} {m : List ℕ} {p : FieldsPassed t first d n b slots start at i m}
    {next k : ℕ} (f : FieldIs p next k) where
  abbrev s : List ℕ
  s = schema_of t

  type-on : pos_of t next ≡ field_at s (pos_of t first) d (i + 1)
  type-on =
      ap (pos_of t) f.after ∙ f.entry.next ∙ ap (λ (x : ℕ). next_at s x d) p.type ∙ field_next s d i (pos_of t first)
      ∙ ap (field_at s (pos_of t first) d) (sym (add-one i))

  place_is : k ≡ place (field (types_at s (pos_of t first) d n) i)
  place_is =
      f.kind ∙ f.entry.place ∙ typed-place s (pos_of t at) d (field-stands p f.less).typed
      ∙ ap (λ (x : ℕ). place (type_at s x d)) p.type ∙ ap place (field-law p f.less).same

  pub field-map : 792 ≡ length m
  field-map = passed-map p.passed

  pub field-by : Fits w64 (8 * i)
  field-by = passed-by p.passed f.less

  pub field-slot : Fits w64 (slots + 8 * i)
  field-slot = passed-slot p.passed f.less

  pub field-asks : ChildRoom m b 0 i (slots + 8 * i)
  field-asks = passed-asks p.passed f.less

  pub fields-fixed : k < 7 → FieldsPassed t first d n b slots start next (i + 1) m
  fields-fixed h = record {
    fields = p.fields;
    type = type-on;
    passed = passed-fixed p.passed f.less (kind-fixed _ (omega (arith, place_is)));
  }

  module _ (h : 7 ≤ k) {fits : Bool} {m' : List ℕ} (g : PlacingChild m b 0 i (slots + 8 * i) start fits m') where
    pub fields-unfit : not fits ≡ true → FirstUnfit 0 (bitmap n) (bitmap n + 8 * n) (field_varies t first d n) b n i
    fields-unfit q = headless (passed-unfit p.passed f.less (kind-varies _ (omega (arith, place_is))) g q)

    pub fields-next : not fits ≡ false → FieldsPassed t first d n b slots start next (i + 1) m'
    fields-next q = record {
      fields = p.fields;
      type = type-on;
      passed = passed-next p.passed f.less (kind-varies _ (omega (arith, place_is))) g q;
    }
