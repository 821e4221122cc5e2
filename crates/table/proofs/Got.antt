-- What a caller has where a table was built, and where none was. Assumes nothing.
use Rattle.std.proofs.Common.{◌≡◌, ℕ, ◌≤◌, List, length, take, sym, refl, ap, ◌∙◌, subst, arith, length-take-le}
use Rattle.schema.specs.Reading.{judged}
use Rattle.schema.specs.declared.Judged.{Judged}
use Rattle.schema.specs.declared.Judged.TheVariants.{Accepted, Refused}
use Rattle.table.specs.Tables.{Built, BuiltAt, Table, TableFor, schema_of}
use Rattle.table.proofs.Places.{says-schema, table-of}

-- the table at the start of the room T is that of the schema s
pub record Got (s : List ℕ) (n : ℕ) (T : List ℕ) : Type 0 where
  pub accepted : judged s ≡ Accepted
  pub room : n ≤ length T
  pub size : n ≡ length (take n T)
  pub table : Table (take n T)
  pub says : schema_of (take n T) ≡ s

pub got : {s : List ℕ} {n : ℕ} {T : List ℕ} → Built s n T → (n ≡ 0 → ⊥) → Got s n T
got {s} {n} {T} b z = go (judged s) refl
  where
    made : judged s ≡ Accepted → BuiltAt s n T → Got s n T
    made e x = record {
      accepted = e;
      room = x.room;
      size = sym (length-take-le n T x.room);
      table = subst Table (sym x.given) (table-of s e);
      says = ap schema_of x.given ∙ says-schema s e;
    }

    go : (j : Judged) → judged s ≡ j → Got s n T
    go Refused e = absurd (z (b.refused e))
    go Accepted e = made e (b.accepted e)

pub none : {s : List ℕ} {n : ℕ} {T : List ℕ} → Built s n T → n ≡ 0 → judged s ≡ Refused
none {s} {n} {T} b z = go (judged s) refl
  where
    go : (j : Judged) → judged s ≡ j → judged s ≡ Refused
    go Refused e = e
    go Accepted e = let x = b.accepted e in absurd (omega (arith, x.some))

-- what a step is handed
pub handed : {s : List ℕ} {n : ℕ} {T : List ℕ} → Built s n T → (n ≡ 0 → ⊥) → TableFor s (take n T)
handed b z = let g = got b z in record { table = g.table; says = g.says }
