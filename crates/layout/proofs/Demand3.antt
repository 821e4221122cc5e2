-- Demand 3 holds of every accepted row. Assumes nothing.
use mathlib.Core.Path.{◌≡◌, sym, ap, ◌∙◌}
use mathlib.Core.Logic.{◌≢◌}
use mathlib.Core.List.{List}
use Prim.Native.Nat.{ℕ}
use Rattle.schema.specs.Types.{Tys}
use Rattle.schema.specs.Reading.{judged}
use Rattle.schema.specs.Walk.{fields_of}
use Rattle.schema.specs.declared.Judged.TheVariants as J
use Rattle.layout.specs.Reading.{read_in}
use Rattle.layout.specs.Setting.{Setting, becomes, set_in}
use Rattle.layout.specs.Entries.{read_of, set_of}
use Rattle.layout.specs.Demand3.{Proper, refusal_of, Meet, SetsWell, Demand3}
use Rattle.layout.proofs.After.{Accepted}
use Rattle.layout.proofs.Demanded as In
use Rattle.layout.proofs.Refused as Refused
use Rattle.layout.proofs.Entered.{check-judged, checked, checks, set_same, read_same}

module _ (s row : List ℕ) (j : judged s ≡ J.Accepted) (a : Accepted (fields_of s) row) where
  abbrev ts : Tys
  ts = fields_of s

  set_is : (p : List ℕ) (x : Setting) → set_of s row p x ≡ set_in ts row p x
  set_is = set_same s row j a.size

  read_is : (p : List ℕ) → read_of s row p ≡ read_in ts row p
  read_is = read_same s row j a.size

  -- after an accepted setting
  module _ (p : List ℕ) (x : Setting) (row' : List ℕ) (b : Proper x) (e : set_of s row p x ≡ becomes row') where
    in-layout : set_in ts row p x ≡ becomes row'
    in-layout = sym (set_is p x) ∙ e

    after : Accepted ts row'
    after = In.still ts row a p x row' b in-layout

    set_after : (q : List ℕ) (y : Setting) → set_of s row' q y ≡ set_in ts row' q y
    set_after = set_same s row' j after.size

    read-after : (q : List ℕ) → read_of s row' q ≡ read_in ts row' q
    read-after = read_same s row' j after.size

  either_order : (p q : List ℕ) (x y : Setting) (row₁ row₂ : List ℕ) → Proper x → Proper y → p ≢ q → set_of s row p x ≡ becomes row₁
      → set_of s row q y ≡ becomes row₂ → Meet s row₁ row₂ p q x y
  either_order p q x y row₁ row₂ bx by n e₁ e₂ =
      let m = In.either_order ts row a p q x y row₁ row₂ bx by n (in-layout p x row₁ bx e₁) (in-layout q y row₂ by e₂) in
      record { end = m.end; p-first = set_after p x row₁ bx e₁ q y ∙ m.p-first; q-first = set_after q y row₂ by e₂ p x ∙ m.q-first }

  sets-well : SetsWell s row
  sets-well = record {
    still = λ p x row' b e. (let z = after p x row' b e in checks s row' z.tree j z.size z.reads);
    bytes = λ p x row' b e. (after p x row' b e).bytes;
    reads-as-set = λ p x row' b e. rw (read-after p x row' b e p) (In.reads-as-set ts row a p x row' b (in-layout p x row' b e));
    others = λ p q x row' b e n. rw (read-after p x row' b e q, read_is q) (In.others ts row a p x row' b (in-layout p x row' b e) q n);
    no_change = λ p x e n. set_is p x ∙ In.no_change ts row a p x (rw (read_is p) at e) n;
    last-alone = λ p x y row' b by e.
        set_after p x row' b e p y ∙ In.last-alone ts row a p x row' b (in-layout p x row' b e) y by ∙ sym (set_is p y);
    either_order = either_order;
    refused-only = λ p x r e. rw (read_is p) (Refused.refused-only ts row a p x r (sym (set_is p x) ∙ e));
    refused-there = λ p x r g. set_is p x ∙ Refused.refused-there ts row a p x r (rw (read_is p) at g);
    unmoved = λ p q x y row' b n e. ap refusal_of (set_after p x row' b e q y)
        ∙ In.unmoved ts row a p x row' b (in-layout p x row' b e) q y n ∙ sym (ap refusal_of (set_is q y));
  }

pub demand3 : Demand3
demand3 s row hb e = sets-well s row (check-judged s row e) (checked s row hb e)
