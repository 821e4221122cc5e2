-- What an entry of a catalogue answers meets what telling it asks, and is told as the entry's. Assumes nothing.
use mathlib.Core.Path.{◌≡◌, refl, ap, ◌∙◌, subst}
use mathlib.Core.Option.{Option, none, some}
use mathlib.Core.List.{List}
use Prim.Native.Nat.{ℕ}
use Rattle.words.specs.Bytes.{Bytes}
use Rattle.layout.specs.Refusals.{Refusal}
use Rattle.layout.specs.Reading.{Answer}
use Rattle.layout.specs.Setting.{Setting, refusal_in, ◌or◌}
use Rattle.layout.specs.Entries.{Verdict, Sized, check_of, read_after, read_of, set_after, set_of, set_verdict}
use Rattle.answers.specs.Meaning.{Outcome as Done}
use Rattle.answers.specs.declared.Path.{Path}
use Rattle.answers.specs.Meaning.{outcome_means, Numbered}
use Rattle.answers.specs.Paths.{path_of}
use Rattle.setting.specs.Writes.{SetAs}
use Rattle.row.specs.Outcomes.{LowIn, LowVerdict}
use Rattle.shelf.specs.Catalogue.{schema_in}
use Rattle.answers.specs.Meaning.{Length as Number}
use Rattle.catalogue.specs.Entries.{Numbering, given, refused, add_of, number_bad, verdict_after, check_at, write_at, list_at, read_at, set_at}
use Rattle.catalogue.specs.Meaning.{number_means, Adds}
use Rattle.catalogue.proofs.Low.{check-low, write_low, write-below, list-low, list-below, read_low, set-low, add_low}
use Rattle.catalogue.proofs.Single.{numbered-read}
use Rattle.codes.specs.Asked.{verdict_refusal, or_eight, set_asked, Leaves}
use Rattle.codes.specs.Catalogue.{numbering_code, LowNumbering, AddsTo, set_asked_at}
use Rattle.codes.specs.Codes.{refusal_code, verdict_code, Halved}
use Rattle.codes.specs.Steps.{Taken}
use Rattle.codes.specs.Words.{Tells}
use Rattle.codes.proofs.Asking.{leaves_none, leaves-set}
use Rattle.codes.proofs.Codes.{halved}
use Rattle.codes.proofs.Steps.{taken-reads}

-- ---- what telling asks

pub check-at-known : (t : List ℕ) (k : ℕ) (row : List ℕ) {v : Verdict} → v ≡ check_at t k row → LowVerdict 16384 v
check-at-known t k row e = rw e (check-low t k row)

pub write-at-known : (t : List ℕ) (k : ℕ) (l : List ℕ) (room : ℕ) {z : Sized} → z ≡ write_at t k l room → Halved z
write-at-known t k l room e = halved _ _ e (write-below t k l room) (write_low t k l room)

pub list-at-known : (t : List ℕ) (k : ℕ) (row : List ℕ) (room : ℕ) {z : Sized} → Bytes row → z ≡ list_at t k row room → Halved z
list-at-known t k row room b e = halved _ _ e (list-below t k row room b) (list-low t k row room)

pub read-at-known : (t : List ℕ) (k : ℕ) (row p : List ℕ) {a : Answer} → a ≡ read_at t k row p → Numbered a × LowIn 16384 (refusal_in a)
read-at-known t k row p e = rw e (numbered-read t k row p, read_low t k row p)

pub set-at-known : (t : List ℕ) (k : ℕ) (row p : List ℕ) (x : Setting) {v : Verdict} → v ≡ set_verdict (set_at t k row p x) → LowVerdict 16384 v
set-at-known t k row p x e = rw e (set-low t k row p x)

pub add-number-known : (t s : List ℕ) {v : Numbering} → v ≡ add_of t s → LowNumbering v
add-number-known t s {v = given n} e = tt
add-number-known t s {v = refused r} e = add_low t s e

-- ---- told as the entry's

pub adds-as : {t s t' : List ℕ} {n : Number} {r : ℕ} → Adds t s n t' → r ≡ numbering_code (number_means n) → AddsTo t s r t'
adds-as a q = record { answers = q ∙ ap numbering_code a.answers; leaves = a.leaves }

module _ (l : List ℕ) (p : Path) (w : Taken l p) (t : List ℕ) (k : ℕ) (row : List ℕ) where
  pub read-at-as : {a : Answer} {out out' : List ℕ} {r : ℕ} → a ≡ read_at t k row (path_of p) → Tells a out r out' → Tells (read_at t k row l) out r out'
  unfolding read_at
  read-at-as {out = out} {out'} {r} e h =
      subst (λ (y : Answer). Tells y out r out') (e ∙ ap (read_after (number_bad t k)) (taken-reads l p w (schema_in t k) row)) h

  -- a refusal that comes before the schema, and a setting with the schema
  after_none : (m : Option Refusal) (o : Option Setting) (r : ℕ) {v : Verdict} {a : Answer} → none ≡ o → v ≡ verdict_after m (check_of (schema_in t k) row)
      → a ≡ read_after m (read_of (schema_in t k) row (path_of p)) → r ≡ refusal_code (or_eight (verdict_refusal v or refusal_in a))
      → Leaves (set_after m (set_asked (schema_in t k) row l o)) row r row
  after_none none o r e c d q = leaves_none l p w (schema_in t k) row o r e c d q
  after_none (some x) o r {v} {a} e c d q =
      record { answers = q ∙ ap (λ (y : Verdict). refusal_code (or_eight (verdict_refusal y or refusal_in a))) c; after = refl }

  pub leaves-none-at : (o : Option Setting) (r : ℕ) {v : Verdict} {a : Answer} → none ≡ o → v ≡ check_at t k row → a ≡ read_at t k row (path_of p)
      → r ≡ refusal_code (or_eight (verdict_refusal v or refusal_in a)) → Leaves (set_asked_at t k row l o) row r row
  unfolding check_at read_at
  leaves-none-at o r e c d q = after_none (number_bad t k) o r e c d q

  after-set : (m : Option Refusal) (o : Option Setting) (x : Setting) (d : Done) (r : ℕ) (row' : List ℕ) → some x ≡ o
      → SetAs (set_after m (set_of (schema_in t k) row (path_of p) x)) row row' d → r ≡ verdict_code (outcome_means d)
      → Leaves (set_after m (set_asked (schema_in t k) row l o)) row r row'
  after-set none o x d r row' e a q = leaves-set l p w (schema_in t k) row o x d r row' e a q
  after-set (some y) o x d r row' e a q = record { answers = q ∙ ap verdict_code a.answers; after = a.after }

  pub leaves-set-at : (o : Option Setting) (x : Setting) (d : Done) (r : ℕ) (row' : List ℕ) → some x ≡ o → SetAs (set_at t k row (path_of p) x) row row' d
      → r ≡ verdict_code (outcome_means d) → Leaves (set_asked_at t k row l o) row r row'
  unfolding set_at
  leaves-set-at o x d r row' e a q = after-set (number_bad t k) o x d r row' e a q
