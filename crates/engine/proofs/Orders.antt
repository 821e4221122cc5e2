-- The answers of `check`, each where the document gives it. Assumes nothing.
use mathlib.Core.Path.{◌≡◌, refl, sym, ap, ◌∙◌}
use mathlib.Core.Bool.{true}
use mathlib.Core.Option.{Option, none}
use mathlib.Core.List.{List}
use Prim.Native.Nat.{ℕ, ◌≤◌, ◌<◌}
use native.Mathlib.Omega.{arith}
use lib.ListN.{length}
use borrow.Author.Tests.{le-leb, lt-leb}
use Rattle.schema.specs.Types.{ro}
use Rattle.schema.specs.Reading.{judged}
use Rattle.schema.specs.Walk.{fields_of}
use Rattle.schema.specs.declared.Judged.TheVariants.{Accepted}
use Rattle.layout.specs.Entries.{done, refused, verdict, broken, check_of}
use Rattle.layout.specs.Faults.{Read, fault, got, yielded, fault_in}
use Rattle.layout.specs.Refusals.{numbered, broken_at}
use Rattle.layout.specs.Layout.{codec, decode, fault_at}
use Rattle.layout.specs.Setting.{is_some}
use Rattle.std.specs.Prelude as P
use Rattle.std.specs.Prelude.{Some, None}
use Rattle.checking.specs.Sound.{checked_means}

-- a reading without a fault yields
fault-free : {A : Type 0} (m : Read A) → fault_in m ≡ none → is_some (yielded m) ≡ true
unfolding fault_in yielded
fault-free (fault p) e = let z : ◌≡◌ {A = ℕ} 0 1 = cc in absurd (omega arith)
fault-free (got a) e = refl

module _ (s row : List ℕ) where
  pub sound-decodes : fault_at (ro (fields_of s)) row ≡ none → is_some (decode (ro (fields_of s)) row) ≡ true
  sound-decodes e = fault-free ((codec (ro (fields_of s))).get row) e

  module _ (a : judged s ≡ Accepted) where
    pub check-long : 16384 < length row → refused (numbered 3) ≡ check_of s row
    unfolding check_of
    check-long h = rw (a, lt-leb (length row) 16384 h)

    module _ (h : length row ≤ 16384) where
      pub check-short : verdict (broken (fault_at (ro (fields_of s)) row)) ≡ check_of s row
      unfolding check_of
      check-short = rw (a, le-leb (length row) 16384 h)

      -- what the checker answers is where the row is broken
      module _ (r : P.Option ℕ) (e : checked_means r ≡ fault_at (ro (fields_of s)) row) where
        answered : (r' : P.Option ℕ) → r ≡ r' → verdict (broken (checked_means r')) ≡ check_of s row
        answered r' q = ap (λ (o : Option ℕ). verdict (broken o)) (ap checked_means (sym q) ∙ e) ∙ check-short

        pub check-bad : (j : ℕ) → r ≡ Some j → refused (broken_at j) ≡ check_of s row
        check-bad j q = answered (Some j) q

        pub check-good : r ≡ None → done ≡ check_of s row
        check-good q = answered None q
