-- Where an input is taken apart, and that it lies in the input. Assumes nothing.
use Rattle.std.specs.Prelude.{Option, Some, None}
use mathlib.Core.Path.{◌≡◌, refl, sym, ap, ◌∙◌, subst}
use mathlib.Core.Bool.{Bool, true, false}
use mathlib.Core.List.{List}
use Prim.Native.Nat.{ℕ, ◌+◌, ◌-◌, ◌≤◌, ◌<◌}
use native.Mathlib.Omega.{arith}
use lib.Dec.{ltb}
use lib.ListN.{length}
use borrow.Author.Tests.{lt-ltb, le-ltb, ltb-false}
use Rattle.words.specs.Bytes.{part}
use Rattle.words.specs.Reads.{Reads}
use Rattle.schema.specs.Kinds.{pick}
use Rattle.card.specs.Input.{announced, split_of}
use Rattle.card.specs.Output.{refusal, by_split}

module _ (s : List ℕ) where
  pub no_length : length s < 2 → None ≡ split_of s
  unfolding split_of
  no_length h = rw (lt-ltb (length s) 2 h)

  module _ (n : ℕ) (r : Reads s 0 2 n) (h : 2 ≤ length s) where
    says : announced s ≡ n
    unfolding announced
    says = sym r.is

    pub too_short : length s - 2 < n → None ≡ split_of s
    unfolding split_of
    too_short l = rw (says, le-ltb (length s) 2 h, lt-ltb (length s - 2) n l)

    pub long-enough : n ≤ length s - 2 → Some (2 + n) ≡ split_of s
    unfolding split_of
    long-enough l = rw (says, le-ltb (length s) 2 h, le-ltb (length s - 2) n l)

-- the schema's end lies in the input
abbrev Inside : Option ℕ → List ℕ → Type 0
Inside None s = Unit {0}
Inside (Some e) s = (2 ≤ e) × (e ≤ length s)

inside : (s : List ℕ) → Inside (split_of s) s
unfolding split_of
inside s = go (ltb (length s) 2) (ltb (length s - 2) (announced s)) refl refl
  where
    go : (u v : Bool) → ltb (length s) 2 ≡ u → ltb (length s - 2) (announced s) ≡ v → Inside (pick u None (pick v None (Some (2 + announced s)))) s
    go true v e f = tt
    go false true e f = tt
    go false false e f = (omega arith, omega (arith, ltb-false (length s) 2 e, ltb-false (length s - 2) (announced s) f))

pub ends-inside : (s : List ℕ) (r : Option ℕ) (e : ℕ) → r ≡ split_of s → r ≡ Some e → (2 ≤ e) × (e ≤ length s)
ends-inside s r e p q = subst (λ (x : Option ℕ). Inside x s) (sym p ∙ q) (inside s)

-- ---- what is written, by where the input is taken apart

module _ (f : List ℕ → List ℕ → List ℕ) (s : List ℕ) (r : Option ℕ) (p : r ≡ split_of s) where
  pub split-none : r ≡ None → refusal 1 ≡ by_split f (split_of s) s
  split-none q = ap (λ (x : Option ℕ). by_split f x s) (sym q ∙ p)

  pub split-some : (e : ℕ) → r ≡ Some e → f (part s 2 (e - 2)) (part s e (length s - e)) ≡ by_split f (split_of s) s
  split-some e q = ap (λ (x : Option ℕ). by_split f x s) (sym q ∙ p)
