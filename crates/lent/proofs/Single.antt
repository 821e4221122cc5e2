-- The statements of `table` and `open_by` leave one outcome each, and the twins' do as their entries' do. Assumes nothing.
use mathlib.Core.Path.{◌≡◌, sym, ap, ◌∙◌}
use mathlib.Core.List.{List}
use Prim.Native.Nat.{ℕ}
use denote.Ref.{Bor}
use Rattle.answers.proofs.Unique.{length-one}
use Rattle.row.proofs.Unique as Row
use Rattle.batch.proofs.Single as Batch
use Rattle.lent.specs.declared.OpenedBy.{OpenedBy}
use Rattle.lent.specs.Unique.{Unique}

held : Bor (List ℕ) → Bor (List ℕ) → Bor (List ℕ) → OpenedBy
held schema table row = record { schema = schema; table = table; row = row }

opens : (schema table row : Bor (List ℕ)) (r r' : OpenedBy) → (r.schema ≡ schema) × (r.table ≡ table) × (r.row ≡ row)
    → (r'.schema ≡ schema) × (r'.table ≡ table) × (r'.row ≡ row) → r ≡ r'
unfolding held
opens schema table row r r' e e' =
    ap (λ (x : Bor (List ℕ)). held x r.table r.row) (e.0 ∙ sym e'.0)
    ∙ ap (λ (x : Bor (List ℕ)). held r'.schema x r.row) (e.1 ∙ sym e'.1)
    ∙ ap (held r'.schema r'.table) (e.2 ∙ sym e'.2)

pub unique : Unique
unique = record {
  table = λ s out r r' b b' w w'. record { answer = length-one r r' (w.answers ∙ sym w'.answers); bytes = w.leaves ∙ sym w'.leaves };
  opened = opens;
  rows = Row.unique;
  batches = Batch.unique;
}
