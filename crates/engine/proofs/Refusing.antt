-- `list` and `set` by a table: each refuses as a check does, and goes on where it is done. Assumes nothing.
use Rattle.std.specs.Prelude.{Ok, Err}
use mathlib.Core.Path.{◌≡◌, sym, ap, ◌∙◌}
use mathlib.Core.List.{List}
use Prim.Native.Nat.{ℕ}
use Rattle.schema.specs.Reading.{judged}
use Rattle.schema.specs.declared.Judged.TheVariants.{Accepted}
use Rattle.layout.specs.Setting.{Setting}
use Rattle.layout.specs.Entries.{check_of, set_of}
use Rattle.answers.specs.declared.Refusal.{Refusal}
use Rattle.answers.specs.Meaning.{Outcome}
use Rattle.answers.specs.Meaning.{outcome_means}
use Rattle.table.specs.Tables.{Table, schema_of}
use Rattle.listing.specs.Room.{Checked as Listed}
use Rattle.setting.specs.Writes.{SetAs, Checked as Settable}
use Rattle.setting.proofs.Refused.{set_long, set-unsound}
use Rattle.engine.specs.Lists.{ListsTo}
use Rattle.engine.proofs.Checked.{Passed, passed, Failed, long, torn, failed}
use Rattle.engine.proofs.Orders.{sound-decodes}
use Rattle.engine.proofs.Listings.{list-long, list-bad}

-- a row that passed can be listed, and its leaves set
pub listable : {t row : List ℕ} → Table t → Passed (schema_of t) row → Listed t row
listable {t} {row} h p = record { table = h; short = p.short; sound = sound-decodes (schema_of t) row p.sound }

pub settable : {t row : List ℕ} → Table t → Passed (schema_of t) row → Settable t row
settable h p = record { table = h; short = p.short; sound = p.sound }

-- a check's answer v of a row, where the schema is accepted
module _ (s row : List ℕ) (a : judged s ≡ Accepted) {v : Outcome} (e : outcome_means v ≡ check_of s row) where
  pub done-passed : v ≡ (Ok tt) → Passed s row
  done-passed q = passed s row a (ap outcome_means (sym q) ∙ e)

  why : {r : Refusal} → v ≡ Err r → Failed s row r
  why q = failed s row a (ap outcome_means (sym q) ∙ e)

  pub list-refused : (out : List ℕ) {r : Refusal} → v ≡ Err r → ListsTo s row out (Err r) out
  list-refused out {r} q = go (why q)
    where
      go : {r : Refusal} → Failed s row r → ListsTo s row out (Err r) out
      go (long h) = list-long s row out a h
      go (torn j h f) = list-bad s row out a j h f

  pub set-refused : (p : List ℕ) (x : Setting) {r : Refusal} → v ≡ Err r → SetAs (set_of s row p x) row row (Err r)
  set-refused p x {r} q = go (why q)
    where
      go : {r : Refusal} → Failed s row r → SetAs (set_of s row p x) row row (Err r)
      go (long h) = set_long s row p x a h
      go (torn j h f) = set-unsound s row p x a h f
