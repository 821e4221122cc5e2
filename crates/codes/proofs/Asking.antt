-- The setting that a kind and a value stand for, and the refusal of one that is none. Assumes nothing.
use Rattle.std.specs.Prelude as P
use Rattle.std.specs.Prelude.{Ok, Err}
use mathlib.Core.Path.{◌≡◌, refl, sym, ap, ◌∙◌}
use mathlib.Core.Bool.{Bool, true, false}
use mathlib.Core.Option.{Option, none, some}
use mathlib.Core.List.{List}
use Prim.Native.Nat.{ℕ, ◌≤◌, ◌<◌}
use native.Mathlib.Omega.{arith}
use native.Mathlib.Decide.{dec_le}
use lib.Dec.{leb}
use lib.ListN.{length}
use Rattle.schema.specs.Types.{Ty, ro}
use Rattle.schema.specs.Reading.{judged}
use Rattle.schema.specs.Walk.{fields_of}
use Rattle.layout.specs.Refusals.{Refusal, numbered}
use Rattle.layout.specs.Layout.{fault_at}
use Rattle.layout.specs.Walk.{root_seat, walk}
use Rattle.layout.specs.Reading.{Answer, placed, read_in}
use Rattle.layout.specs.Setting.{Setting, suits, keeps, unless, ◌or◌, refusal_in, judge_at, write_at, Outcome, refuses, outcome, set_in}
use Rattle.layout.specs.Entries.{Verdict, verdict, broken, is_accepted, schema_bad, row_long, layout_bad, check_of}
use Rattle.layout.specs.Entries.{read_after, read_of, set_after, set_of, set_verdict, row_after}
use Rattle.answers.specs.declared.Path.{Path}
use Rattle.answers.specs.declared.Answer.{Answer as Answered}
use Rattle.answers.specs.declared.Refusal.{Refusal as Cause}
use Rattle.answers.specs.declared.Setting.{Setting as Value}
use Rattle.answers.specs.Meaning.{Outcome as Done, outcome_means, refusal_means, setting_of, Read, read_means, Numbered}
use Rattle.answers.specs.Paths.{path_of}
use Rattle.answers.proofs.PathLaws.{length-path}
use Rattle.codes.specs.Asked.{asked_of, asked_means, verdict_refusal, or_eight, unfit_of, set_asked, Leaves}
use Rattle.codes.specs.Codes.{refusal_code, verdict_code}
use Rattle.codes.specs.Steps.{Taken}
use Rattle.setting.specs.Writes.{SetAs}
use Rattle.codes.proofs.Words.{given-none}
use Rattle.codes.proofs.Steps.{no_place, taken-short, above, taken-reads}

-- ---- the kinds

-- what a kind and a value were found to ask for
module _ {a : P.Option Value} (kind v : ℕ) (h : (u : List ℕ) → asked_means a u ≡ asked_of kind v u) (u : List ℕ) where
  pub asks_none : a ≡ P.None → none ≡ asked_of kind v u
  asks_none e = sym (ap (λ (x : P.Option Value). asked_means x u) e) ∙ h u

  pub asks-for : {x : Value} → a ≡ P.Some x → some (setting_of x u) ≡ asked_of kind v u
  asks-for e = sym (ap (λ (y : P.Option Value). asked_means y u) e) ∙ h u

-- ---- a setting that is none

-- the place is read, and nothing but 8 is refused
pub eight_left : (x : Read) {a : Answered} → x ≡ Ok a → Numbered (read_means x) → 34359738368 ≡ refusal_code (or_eight (refusal_in (read_means x)))
eight_left x e g = rw (given-none x e g) refl

pub eight-told : (x : Read) {f : Cause} {k : ℕ} → x ≡ Err f → k ≡ refusal_code (refusal_means f) → k ≡ refusal_code (or_eight (refusal_in (read_means x)))
unfolding refusal_in
eight-told x e q = rw e q

-- the refusals of the row, and then the place's
told-first : (m d : Option Refusal) → (verdict_refusal (verdict m) or d) ≡ (m or d)
told-first none d = refl
told-first (some r) d = refl

or-three : (a b c d : Option Refusal) → ((a or b or c) or d) ≡ (a or b or c or d)
or-three none none c d = refl
or-three none (some r) c d = refl
or-three (some r) b c d = refl

unfit-told : (s row p : List ℕ) → or_eight (verdict_refusal (check_of s row) or refusal_in (read_of s row p)) ≡ unfit_of s row p
unfolding check_of unfit_of
unfit-told s row p =
    let d = refusal_in (read_of s row p) in
    ap (λ (m : Option Refusal). or_eight m)
    (told-first (schema_bad s or row_long row or layout_bad s row) d ∙ or-three (schema_bad s) (row_long row) (layout_bad s row) d)

-- it is refused as a setting that fits no type of its place is
as-unfit : (a b : Bool) (d : Option ℕ) (y : Answer) (k : Option Refusal) (w : List ℕ)
    → set_after (unless a 1 or unless b 3) (outcome d (refusal_in y or some (numbered 8) or k) w)
    ≡ refuses (or_eight (unless a 1 or unless b 3 or broken d or refusal_in (read_after (unless a 1 or unless b 3) y)))
unfolding outcome
as-unfit true true (some q) y k w = refl
as-unfit true true none y k w = go (refusal_in y)
  where
    go : (r : Option Refusal) → outcome none (r or some (numbered 8) or k) w ≡ refuses (or_eight r)
    go none = refl
    go (some n) = refl
as-unfit true false d y k w = refl
as-unfit false b d y k w = refl

pub unfit-alike : (s row p : List ℕ) (t : Ty) (x : Setting) → placed p (ro (fields_of s)) ≡ some t → suits t x ≡ false
    → set_of s row p x ≡ refuses (unfit_of s row p)
unfolding set_of set_in unfit_of read_of judge_at
unfit-alike s row p t x e h =
    rw (e, h) (as-unfit (is_accepted (judged s)) (leb (length row) 16384) (fault_at (ro (fields_of s)) row) (read_in (fields_of s) row p)
    (unless (keeps t (read_in (fields_of s) row p) x) 9) (write_at (some t) x (walk p (ro (fields_of s)) root_seat 0 row) row))

-- ---- a path taken from lent steps sets as they do

long-sets : (s row p q : List ℕ) (x : Setting) → 16 < length p → 16 < length q → set_of s row p x ≡ set_of s row q x
unfolding set_of set_in judge_at write_at placed
long-sets s row p q x a b = rw (no_place (dec_le (length p) 16) _ (λ l. omega (arith, a)), no_place (dec_le (length q) 16) _ (λ l. omega (arith, b)))

module _ (l : List ℕ) (p : Path) (t : Taken l p) (s row : List ℕ) where
  pub taken-sets : (x : Setting) → set_of s row (path_of p) x ≡ set_of s row l x
  taken-sets x = go (dec_le (length l) 16)
    where
      go : Dec (length l ≤ 16) → set_of s row (path_of p) x ≡ set_of s row l x
      go (yes h) = ap (λ (q : List ℕ). set_of s row q x) (taken-short l p t h)
      go (no n) = long-sets s row (path_of p) l x (rw (length-path p ∙ t.long) (above l n)) (above l n)

  pub taken-unfit : unfit_of s row (path_of p) ≡ unfit_of s row l
  unfolding unfit_of
  taken-unfit = ap (λ (a : Answer). or_eight (schema_bad s or row_long row or layout_bad s row or refusal_in a)) (taken-reads l p t s row)

  pub leaves_none : (o : Option Setting) (r : ℕ) {v : Verdict} {a : Answer} → none ≡ o → v ≡ check_of s row → a ≡ read_of s row (path_of p)
      → r ≡ refusal_code (or_eight (verdict_refusal v or refusal_in a)) → Leaves (set_asked s row l o) row r row
  leaves_none o r e c m q =
      let f : r ≡ refusal_code (or_eight (verdict_refusal (check_of s row) or refusal_in (read_of s row (path_of p)))) = rw (c, m) at q in
      rw (← e) (record { answers = f ∙ ap (λ (n : Refusal). refusal_code n) (unfit-told s row (path_of p) ∙ taken-unfit); after = refl })

  pub leaves-set : (o : Option Setting) (x : Setting) (d : Done) (r : ℕ) (row' : List ℕ) → some x ≡ o
      → SetAs (set_of s row (path_of p) x) row row' d → r ≡ verdict_code (outcome_means d) → Leaves (set_asked s row l o) row r row'
  leaves-set o x d r row' e a q =
      rw (← e) (record {
        answers = q ∙ ap verdict_code a.answers ∙ ap (λ (z : Outcome). verdict_code (set_verdict z)) (taken-sets x);
        after = a.after ∙ ap (λ (z : Outcome). row_after z row) (taken-sets x);
      })
