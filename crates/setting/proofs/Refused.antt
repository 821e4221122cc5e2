-- The refusals before the path: what a caller of `set` answers for a row that it does not hand on. Assumes nothing.
use Rattle.std.specs.Prelude.{Err}
use mathlib.Core.Path.{◌≡◌, refl, sym, subst}
use mathlib.Core.Option.{some}
use mathlib.Core.List.{List}
use Prim.Native.Nat.{ℕ, ◌≤◌, ◌<◌}
use lib.ListN.{length}
use borrow.Author.Tests.{le-leb, lt-leb}
use Rattle.schema.specs.Types.{ro}
use Rattle.schema.specs.Reading.{judged}
use Rattle.schema.specs.Walk.{fields_of}
use Rattle.schema.specs.declared.Judged.TheVariants.{Accepted, Refused}
use Rattle.layout.specs.Refusals.{broken_at}
use Rattle.layout.specs.Layout.{fault_at}
use Rattle.layout.specs.Setting as S
use Rattle.layout.specs.Setting.{Setting, outcome, set_in}
use Rattle.layout.specs.Entries.{set_of}
use Rattle.answers.specs.declared.Refusal.TheVariants as F
use Rattle.setting.specs.Writes.{SetAs}

module _ (s row p : List ℕ) (x : Setting) where
  pub set-schema : judged s ≡ Refused → SetAs (set_of s row p x) row row (Err F.Schema)
  unfolding set_of
  set-schema e = record { answers = rw e; after = rw e }

  module _ (a : judged s ≡ Accepted) where
    pub set_long : 16384 < length row → SetAs (set_of s row p x) row row (Err F.TooLong)
    unfolding set_of
    set_long h = record { answers = rw (a, lt-leb (length row) 16384 h); after = rw (a, lt-leb (length row) 16384 h) }

    -- broken at a place
    pub set-unsound : length row ≤ 16384 → {j : ℕ} → fault_at (ro (fields_of s)) row ≡ some j
        → SetAs (set_of s row p x) row row (Err (F.Layout j))
    unfolding set_of set_in outcome
    set-unsound h {j} g =
        let q : set_of s row p x ≡ S.refuses (broken_at j) = rw (a, le-leb (length row) 16384 h, g) in
        subst (λ (o : S.Outcome). SetAs o row row (Err (F.Layout j))) (sym q) (record { answers = refl; after = refl })
