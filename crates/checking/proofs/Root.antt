-- The root of a table: a struct whose fields stand from its second entry on. Assumes nothing.
use mathlib.Core.Path.{◌≡◌, refl, sym, ap, ◌∙◌}
use mathlib.Core.Option.{Option, none, some}
use mathlib.Core.List.{List}
use Prim.Native.Nat.{ℕ, zero, suc, ◌-◌, ◌≤◌}
use native.Mathlib.Omega.{arith}
use lib.ListN.{length}
use Rattle.schema.specs.Types.{Ty, ro}
use Rattle.schema.specs.Walk.{fields_of}
use Rattle.layout.specs.Faults.{slot, byte, Read, fault, got, in_row, fault_in}
use Rattle.layout.specs.Layout.{codec, fault_at}
use Rattle.table.specs.Words.{place_in, count_in}
use Rattle.table.specs.Tables.{Table, EntryAt, schema_of, types_of}
use Rattle.table.proofs.Places.{root_stands, root-whole, root-place}
use Rattle.checking.specs.Sound.{code, fault_of}
use Rattle.checking.specs.Room.{Fields}
use Rattle.checking.proofs.Values.{Child, child-struct, struct-whole}

-- the place that a number stands for
abbrev place_of : ℕ → Option ℕ
place_of zero = none
place_of (suc zero) = some 0
place_of (suc (suc i)) = some i

place-code : {A : Type 0} (m : Read A) → place_of (code m) ≡ fault_in m
unfolding code fault_in in_row
place-code (fault slot) = refl
place-code (fault (byte i)) = refl
place-code (got a) = refl

place_none : (r : ℕ) → r ≡ 0 → none ≡ place_of r
place_none zero h = refl
place_none (suc r) h = absurd (omega arith)

place-slot : (r : ℕ) → r ≡ 1 → some 0 ≡ place_of r
place-slot zero h = absurd (omega arith)
place-slot (suc zero) h = refl
place-slot (suc (suc r)) h = absurd (omega arith)

place_byte : (r : ℕ) → (r ≡ 0 → ⊥) → (r ≡ 1 → ⊥) → some (r - 2) ≡ place_of r
place_byte zero h g = absurd (h refl)
place_byte (suc zero) h g = absurd (g refl)
place_byte (suc (suc r)) h g = let e : suc (suc r) - 2 ≡ r = omega arith in ap some e

module _ {t : List ℕ} (h : Table t) where
  abbrev s : List ℕ
  s = schema_of t

  -- its entry is a struct's
  eleven : {w : ℕ} → EntryAt t 0 8 w → place_in w ≡ 11
  eleven e = e.place ∙ root-place h

  module _ {w : ℕ} (e : EntryAt t 0 8 w) (b : List ℕ) (l : length b ≤ 16384) {n : ℕ} (en : n ≡ count_in w) where
    root-value : Child t 0 8 w 11 66 b
    root-value = record { stands = root_stands h; entry = e; kind = sym (eleven e); holds = omega arith; small = l; rank = refl }

    pub root-fields : Fields t 1 n 7 b
    root-fields = (child-struct root-value refl en).1

    -- the number as the place of a fault
    module _ {r : ℕ} (er : r ≡ fault_of (ro (types_of t 1 7 n)) b) where
      is : place_of r ≡ fault_at (ro (fields_of s)) b
      unfolding fault_of
      is =
          ap place_of (struct-whole root-value refl en refl er ∙ ap (λ (x : Ty). fault_of x b) (root-whole h))
          ∙ place-code ((codec (ro (fields_of s))).get b)

      pub root_none : r ≡ 0 → none ≡ fault_at (ro (fields_of s)) b
      root_none q = place_none r q ∙ is

      pub root-slot : r ≡ 1 → some 0 ≡ fault_at (ro (fields_of s)) b
      root-slot q = place-slot r q ∙ is

      pub root-byte : (r ≡ 0 → ⊥) → (r ≡ 1 → ⊥) → some (r - 2) ≡ fault_at (ro (fields_of s)) b
      root-byte q g = place_byte r q g ∙ is
