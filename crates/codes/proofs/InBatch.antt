-- Setting in a batch by lent steps, and the refusal of a setting that is none. Assumes nothing.
use mathlib.Core.Path.{◌≡◌, refl, ap, ◌∙◌}
use mathlib.Core.Bool.{false}
use mathlib.Core.Option.{Option, none, some}
use mathlib.Core.List.{List}
use Prim.Native.Nat.{ℕ}
use lib.ListN.{length}
use Rattle.schema.specs.Types.{Ty, ro}
use Rattle.schema.specs.Walk.{fields_of}
use Rattle.layout.specs.Refusals as N
use Rattle.layout.specs.Reading.{Answer, placed}
use Rattle.layout.specs.Setting.{Setting, Outcome, refuses, suits, refusal_in, ◌or◌}
use Rattle.layout.specs.Entries.{schema_bad, row_long, layout_bad, read_after, set_after, read_of as row_read, set_verdict, row_after}
use Rattle.answers.specs.declared.Refusal.{Refusal}
use Rattle.answers.specs.declared.Path.{Path}
use Rattle.answers.specs.Meaning.{Outcome as Done, outcome_means}
use Rattle.answers.specs.Paths.{path_of}
use Rattle.setting.specs.Writes.{SetAs}
use Rattle.batch.specs.Frames.{framed}
use Rattle.batch.specs.Entries.{row_of, start_of, batch_bad, row_missing, no_row, row_bad, Fetching, fetch_after, fetch_of, read_of, within, set_of}
use Rattle.row.proofs.Low.{read-after}
use Rattle.layout.proofs.Entered.{or-none}
use Rattle.codes.specs.Asked.{or_eight, unfit_of, Leaves}
use Rattle.codes.specs.Batch.{fetch_refusal}
use Rattle.codes.specs.Batch.{or_else, unfit_in, set_asked_in}
use Rattle.codes.specs.Codes.{refusal_code, verdict_code}
use Rattle.codes.specs.Steps.{Taken}
use Rattle.codes.proofs.Steps.{taken-reads}
use Rattle.codes.proofs.Asking.{unfit-alike, taken-sets, taken-unfit}

-- ---- a setting that is none

fetch-first : (m : Option N.Refusal) (start len : ℕ) → fetch_refusal (fetch_after m start len) ≡ m
fetch-first none start len = refl
fetch-first (some r) start len = refl

or-two : (a b c : Option N.Refusal) → ((a or b) or c) ≡ (a or b or c)
or-two none b c = refl
or-two (some r) b c = refl

-- the refusals of the batch n, of them the schema's s; of the row l and y; and of the place d
in-turn : (n s l y d : Option N.Refusal) → (n ≡ none → s ≡ none) → or_eight ((n or l or y) or (n or d)) ≡ or_else n (or_eight (s or l or y or d))
in-turn (some r) s l y d h = refl
in-turn none s l y d h = rw (h refl) (ap (λ (m : Option N.Refusal). or_eight m) (or-two l y d))

unfit-told-in : (s b : List ℕ) (k : ℕ) (p : List ℕ) → or_eight (fetch_refusal (fetch_of s b k) or refusal_in (read_of s b k p)) ≡ unfit_in s b k p
unfolding fetch_of read_of unfit_in unfit_of
unfit-told-in s b k p =
    let row = row_of b k in
    rw (fetch-first (no_row s b k or row_bad s row) (start_of b k) (length row), read-after (no_row s b k) (row_read s row p))
    (in-turn (no_row s b k) (schema_bad s) (row_long row) (layout_bad s row) (refusal_in (row_read s row p))
    (λ e. (or-none (schema_bad s) (batch_bad (framed b) or row_missing b k) e).0))

-- ---- reading and setting by lent steps

module _ (l : List ℕ) (p : Path) (t : Taken l p) (s b : List ℕ) (k : ℕ) where
  pub reads_in : read_of s b k (path_of p) ≡ read_of s b k l
  unfolding read_of
  reads_in = ap (read_after (no_row s b k)) (taken-reads l p t s (row_of b k))

  sets-in : (x : Setting) → set_of s b k (path_of p) x ≡ set_of s b k l x
  unfolding set_of
  sets-in x = ap (λ (o : Outcome). set_after (no_row s b k) (within b (start_of b k) o)) (taken-sets l p t s (row_of b k) x)

  none_in : unfit_in s b k (path_of p) ≡ unfit_in s b k l
  unfolding unfit_in
  none_in = ap (or_else (no_row s b k)) (taken-unfit l p t s (row_of b k))

  pub leaves-none-in : (o : Option Setting) (r : ℕ) {f : Fetching} {a : Answer} → none ≡ o → f ≡ fetch_of s b k → a ≡ read_of s b k (path_of p)
      → r ≡ refusal_code (or_eight (fetch_refusal f or refusal_in a)) → Leaves (set_asked_in s b k l o) b r b
  leaves-none-in o r e c m q =
      let h : r ≡ refusal_code (or_eight (fetch_refusal (fetch_of s b k) or refusal_in (read_of s b k (path_of p)))) = rw (c, m) at q in
      rw (← e) (record { answers = h ∙ ap (λ (n : N.Refusal). refusal_code n) (unfit-told-in s b k (path_of p) ∙ none_in); after = refl })

  pub leaves-set-in : (o : Option Setting) (x : Setting) (d : Done) (r : ℕ) (b' : List ℕ) → some x ≡ o → SetAs (set_of s b k (path_of p) x) b b' d
      → r ≡ verdict_code (outcome_means d) → Leaves (set_asked_in s b k l o) b r b'
  leaves-set-in o x d r b' e a q =
      rw (← e) (record {
        answers = q ∙ ap verdict_code a.answers ∙ ap (λ (z : Outcome). verdict_code (set_verdict z)) (sets-in x);
        after = a.after ∙ ap (λ (z : Outcome). row_after z b) (sets-in x);
      })

-- a setting that is none is refused as one that fits no type of its place is
pub unfit-alike-in : (s b : List ℕ) (k : ℕ) (p : List ℕ) (t : Ty) (x : Setting) → placed p (ro (fields_of s)) ≡ some t → suits t x ≡ false
    → set_of s b k p x ≡ refuses (unfit_in s b k p)
unfolding set_of unfit_in
unfit-alike-in s b k p t x e h = rw (unfit-alike s (row_of b k) p t x e h) (go (no_row s b k))
  where
    go : (m : Option N.Refusal) → set_after m (refuses (unfit_of s (row_of b k) p)) ≡ refuses (or_else m (unfit_of s (row_of b k) p))
    go none = refl
    go (some n) = refl
