-- What the entries say of an accepted schema, and of an accepted row. Assumes nothing.
use mathlib.Core.Path.{◌≡◌, refl}
use mathlib.Core.Bool.{Bool, true, false}
use mathlib.Core.Option.{Option, none, some}
use mathlib.Core.List.{List}
use Prim.Native.Nat.{ℕ, ◌≤◌}
use native.Mathlib.Omega.{arith}
use lib.Dec.{leb}
use lib.ListN.{length}
use borrow.Author.Tests.{le-leb, leb-true}
use Rattle.words.specs.Bytes.{Bytes}
use Rattle.schema.specs.Types.{ro}
use Rattle.schema.specs.Reading.{judged}
use Rattle.schema.specs.Walk.{fields_of}
use Rattle.schema.specs.declared.Judged.{Judged}
use Rattle.schema.specs.declared.Judged.TheVariants.{Accepted, Refused}
use Rattle.layout.specs.Cells.{Cell}
use Rattle.layout.specs.Faults.{Read, fault, got, in_row, fault_in}
use Rattle.layout.specs.Refusals.{Refusal, numbered, broken_at}
use Rattle.layout.specs.Layout.{codec, decode, fault_at}
use Rattle.layout.specs.Reading.{read_in}
use Rattle.layout.specs.Setting.{Setting, ◌or◌, unless, set_in}
use Rattle.layout.specs.Entries.{verdict, done, refused, broken, judge_of, check_of, read_of, set_of}
use Rattle.layout.proofs.Faults.{got-some, no-fault}
use Rattle.layout.proofs.After as After

-- two that together refuse nothing
pub or-none : (a b : Option Refusal) → (a or b) ≡ none → (a ≡ none) × (b ≡ none)
or-none none b e = (refl, e)
or-none (some n) b e = let z : ◌≡◌ {A = ℕ} 0 1 = cc in absurd (omega arith)

clash-done : (n : Refusal) → refused n ≡ done → ⊥
clash-done n e = let z : ◌≡◌ {A = ℕ} 0 1 = cc in omega arith

-- a schema that is not refused is accepted
unrefused : (s : List ℕ) → (judged s ≡ Refused → ⊥) → judged s ≡ Accepted
unrefused s n = go (judged s) refl
  where
    go : (j : Judged) → judged s ≡ j → judged s ≡ Accepted
    go Accepted q = q
    go Refused q = absurd (n q)

-- as that of an accepted row is
pub check-judged : (s row : List ℕ) → check_of s row ≡ done → judged s ≡ Accepted
unfolding check_of
check-judged s row e = unrefused s (λ q. clash-done (numbered 1) (rw q at e))

pub judge-done : (s : List ℕ) → judged s ≡ Accepted → judge_of s ≡ done
unfolding judge_of
judge-done s a = rw a

pub judged-done : (s : List ℕ) → judge_of s ≡ done → judged s ≡ Accepted
unfolding judge_of
judged-done s e = unrefused s (λ q. clash-done (numbered 1) (rw q at e))

-- an accepted row's contents are read
pub checked : (s row : List ℕ) → Bytes row → check_of s row ≡ done → After.Accepted (fields_of s) row
unfolding check_of fault_in
checked s row hb e = go (leb (length row) 16384) refl ((codec (ro (fields_of s))).get row) refl (rw (check-judged s row e) at e)
  where
    go : (t : Bool) → leb (length row) 16384 ≡ t → (m : Read Cell) → (codec (ro (fields_of s))).get row ≡ m
        → verdict (unless (leb (length row) 16384) 3 or broken (fault_at (ro (fields_of s)) row)) ≡ done → After.Accepted (fields_of s) row
    go true h (got c) d q = record { bytes = hb; size = leb-true (length row) 16384 h; tree = c; reads = got-some d }
    go true h (fault p) d q = absurd (clash-done (broken_at (in_row p)) (rw (h, d) at q))
    go false h m d q = absurd (clash-done (numbered 3) (rw h at q))

pub checks : (s row : List ℕ) (c : Cell) → judged s ≡ Accepted → length row ≤ 16384 → decode (ro (fields_of s)) row ≡ some c → check_of s row ≡ done
unfolding check_of
checks s row c a h d = rw (a, le-leb (length row) 16384 h, no-fault ((codec (ro (fields_of s))).get row) d)

-- setting and reading are the layout's own
module _ (s row : List ℕ) (a : judged s ≡ Accepted) (h : length row ≤ 16384) where
  pub set_same : (p : List ℕ) (x : Setting) → set_of s row p x ≡ set_in (fields_of s) row p x
  unfolding set_of
  set_same p x = rw (a, le-leb (length row) 16384 h)

  pub read_same : (p : List ℕ) → read_of s row p ≡ read_in (fields_of s) row p
  unfolding read_of
  read_same p = rw (a, le-leb (length row) 16384 h)
