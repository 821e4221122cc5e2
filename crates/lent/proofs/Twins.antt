-- The twins: by its own table each entry is the entry with its schema, and by any other it refuses with 1. Assumes nothing.
use mathlib.Core.Path.{◌≡◌, ap, ◌∙◌}
use mathlib.Core.List.{List, []}
use Prim.Native.Nat.{ℕ}
use Rattle.schema.specs.Reading.{judged}
use Rattle.schema.specs.declared.Judged.TheVariants.{Refused}
use Rattle.layout.specs.Entries as E
use Rattle.batch.specs.Entries as B
use Rattle.compare.proofs.Lent.{by-own, by-other, none-refused}
use Rattle.lent.specs.Twins.{Asked, judge, check, write, list, read, set, fetch_in, check_in, append_in, read_in, set_in, ends, refused, Twins}

-- a schema that is refused
refuses : (s : List ℕ) → judged s ≡ Refused → (q : Asked) → ends s q ≡ refused q
unfolding E.judge_of E.check_of E.write_of E.written_of E.list_of E.listed_of E.read_of E.set_of
    B.fetch_of B.check_of B.append_of B.appended_of B.read_of B.set_of
refuses s e judge = rw e
refuses s e (check row) = rw e
refuses s e (write l out) = rw e
refuses s e (list row out) = rw e
refuses s e (read row p) = rw e
refuses s e (set row p x) = rw e
refuses s e (fetch_in b k) = rw e
refuses s e (check_in b) = rw e
refuses s e (append_in room used row) = rw e
refuses s e (read_in b k p) = rw e
refuses s e (set_in b k p x) = rw e

pub twins : Twins
twins = record {
  own = λ s t q e. ap (λ (u : List ℕ). ends u q) (by-own s t e);
  other = λ s t q n. ap (λ (u : List ℕ). ends u q) (by-other s t n) ∙ refuses [] none-refused q;
}
