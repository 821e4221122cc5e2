-- What judging a catalogue tells, and where the schema of a number then lies. Assumes nothing.
use Rattle.std.specs.Prelude as P
use Rattle.std.specs.Option.{ok_or}
use mathlib.Core.Path.{◌≡◌, ap, ◌∙◌, subst}
use mathlib.Core.Bool.{true}
use mathlib.Core.List.{List}
use Prim.Native.Nat.{ℕ, ◌+◌, ◌-◌, ◌≤◌, ◌<◌}
use native.Mathlib.Omega.{arith}
use lib.ListN.{take, drop}
use borrow.Author.Tests.{le-leb, lt-leb}
use Rattle.words.specs.Reads.{Reads}
use Rattle.answers.specs.declared.Refusal.{Refusal}
use Rattle.answers.specs.declared.Refusal.TheVariants.{Schema}
use Rattle.shelf.specs.Catalogue.{count_in, size_at, size_of, start_of, schema_in, is_catalogue}
use Rattle.shelf.specs.Places.{Short, SoundBut, JudgedBut, FoundAs, is_broken, SchemaAt, Ungiven}
use Rattle.shelf.proofs.Entries.{short-first, entry-lies}

pub judged-some : {t : List ℕ} {k end : ℕ} {o : P.Option ℕ} → JudgedBut t k o → o ≡ P.Some end → SoundBut t k end
judged-some {t} {k} j e = subst (JudgedBut t k) e j

pub judged-none : {t : List ℕ} {k : ℕ} {o : P.Option ℕ} {r : Refusal} → JudgedBut t k o → o ≡ P.None → ◌≡◌ {A = P.Result ℕ Refusal} (P.Err r) (ok_or o Schema)
    → FoundAs t k (P.Err r)
judged-none {t} {k} {r = r} j e f =
    let z : ◌≡◌ {A = P.Result ℕ Refusal} (P.Err r) (P.Err Schema) = rw e at f in
    let q : r ≡ Schema = cc in
    rw q (is_broken (subst (JudgedBut t k) e j))

module _ {t : List ℕ} {k end : ℕ} (y : SoundBut t k end) where
  -- no schema was left out
  pub whole : count_in t ≤ k → is_catalogue t ≡ true
  whole h = y.all ∙ rw (le-leb (count_in t) k h)

  pub ungiven : count_in t ≤ k → Ungiven t k
  ungiven h = record { sound = whole h; past = h }

  module _ (h : k < count_in t) where
    pub before-short : Short t k
    before-short = short-first y.lies k (omega arith)

    module _ {at : ℕ} (e : at ≡ start_of t k) where
      pub lies_at : at + 2 + size_of t k ≤ 16417
      lies_at = omega (arith, entry-lies y.lies k h, y.lies.size)

      pub found_at : {n : ℕ} → Reads t at 2 n → SchemaAt t k (at + 2) (at + 2 + n)
      unfolding schema_in
      found_at {n} r =
          let z : n ≡ size_of t k = r.is ∙ ap (size_at t) e in
          let m : at + 2 + n - (at + 2) ≡ size_of t k = omega arith in
          let p : at + 2 ≡ start_of t k + 2 = omega arith in
          record {
            given = h;
            forward = omega arith;
            within = omega (arith, lies_at, y.lies.size);
            is = ap (λ (w : ℕ). take w (drop (at + 2) t)) m ∙ ap (λ (w : ℕ). take (size_of t k) (drop w t)) p;
            all = y.all ∙ rw (lt-leb (count_in t) k h);
          }
