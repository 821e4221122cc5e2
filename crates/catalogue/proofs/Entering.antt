-- A schema that is none of those in a catalogue, laid behind them. Assumes nothing.
use Rattle.std.specs.Prelude.{Ok, Err}
use mathlib.Core.Path.{◌≡◌, refl, sym, ap, ◌∙◌}
use mathlib.Core.Logic.{◌⊎◌, inl, inr}
use mathlib.Core.Bool.{false}
use mathlib.Core.List.{List, [], ◌∷◌, ◌++◌}
use Prim.Native.Nat.{ℕ, suc, ◌+◌, ◌≤◌, ◌<◌}
use native.Mathlib.Omega.{arith}
use lib.ListN.{length, set}
use lib.Seq.{sets}
use borrow.Author.Tests.{le-ltb}
use Rattle.words.specs.Bytes.{le, part}
use Rattle.words.proofs.Numbers.{length-le}
use Rattle.words.proofs.Parts.{lt-or-le, part-whole}
use Rattle.layout.specs.Refusals.{numbered}
use Rattle.words.proofs.Runs.{sets_then, sets_behind, sets_over}
use Rattle.answers.specs.declared.Refusal.TheVariants as F
use Rattle.shelf.specs.Catalogue.{entry, entries, used, count_in, start_of, schemas_in, number_among, among}
use Rattle.shelf.specs.Holding.{Holds}
use Rattle.shelf.proofs.Entries.{start-most}
use Rattle.shelf.proofs.Standing.{sound, sound-short}
use Rattle.shelf.proofs.Holding.{entries-more, accepted-short, held-count, held-end, holds, rest, whole}
use Rattle.shelf.proofs.Growing.{New, length_more}
use Rattle.catalogue.specs.Entries.{given}
use Rattle.catalogue.specs.Meaning.{Entering, Adds}
use Rattle.catalogue.proofs.Adding.{twelve, refused-stays, add-new, added_new}

-- one more behind the used bytes, and the count: all the used bytes with it
module _ {t : List ℕ} {ss : List (List ℕ)} (h : Holds t ss) (s : List ℕ) where
  laid : sets t 0 (used (ss ++ (s ∷ []))) ≡ set (sets t (length (used ss)) (entry s)) 0 (suc (length ss))
  unfolding used
  laid =
      let u = used ss in
      let v = suc (length ss) ∷ entries ss in
      let a : used (ss ++ (s ∷ [])) ≡ v ++ entry s = rw (length_more ss s, entries-more ss s) in
      let b : sets t 0 v ≡ v ++ rest h = ap (λ (w : List ℕ). sets w 0 v) (whole h) ∙ sets_over u v (rest h) refl in
      let e : sets (v ++ rest h) (length v + 0) (entry s) ≡ v ++ sets (rest h) 0 (entry s) = sets_behind v (rest h) 0 (entry s) in
      let f : sets t (length u) (entry s) ≡ u ++ sets (rest h) 0 (entry s) =
      ap (λ (w : List ℕ). sets w (length u) (entry s)) (whole h) ∙ ap (λ (k : ℕ). sets (u ++ rest h) k (entry s)) (omega arith)
      ∙ sets_behind u (rest h) 0 (entry s) in
      ap (sets t 0) a ∙ sym (sets_then t 0 (length v + 0) v (entry s) (omega arith)) ∙ ap (λ (w : List ℕ). sets w (length v + 0) (entry s)) b ∙ e
      ∙ sym (ap (λ (w : List ℕ). set w 0 (suc (length ss))) f)

module _ {t : List ℕ} {end : ℕ} {s : List ℕ} (y : Entering t end s) where
  held : Holds t (schemas_in t)
  held = holds t y.behind.bytes y.behind.sound

  counted : length (schemas_in t) ≡ count_in t
  counted = sym (held-count held)

  is-new : among s (schemas_in t) ≡ false
  is-new = le-ltb (number_among s (schemas_in t)) (length (schemas_in t)) (omega (arith, y.behind.new, counted))

  pub enters-size : length t ≡ 16417
  enters-size = held.size

  pub enters-few : count_in t ≤ 16
  enters-few = (sound t y.behind.sound).few

  pub enters-short : length s ≤ 1024
  enters-short = accepted-short s y.schema

  pub enters_below : (count_in t ≡ 16 → ⊥) → count_in t < 16
  enters_below n = go (lt-or-le (count_in t) 16)
    where
      go : (count_in t < 16) ⊎ (16 ≤ count_in t) → count_in t < 16
      go (inl l) = l
      go (inr l) = absurd (n (omega (arith, enters-few)))

  pub enters-room : (count_in t ≡ 16 → ⊥) → end + 2 + length s ≤ length t
  enters-room n =
      omega (arith, start-most (sound-short (sound t y.behind.sound)) (count_in t) (omega arith), y.behind.ends, enters-short, enters-size, enters_below n)

  pub enters-full : count_in t ≡ 16 → Adds t s (Err F.Full) t
  enters-full e =
      let q = twelve t s (record { sound = y.behind.sound; schema = y.schema; all = e; new = is-new }) in
      record { answers = sym q; leaves = sym (refused-stays t s (numbered 12) q) }

  module _ (n : count_in t ≡ 16 → ⊥) where
    is-next : New (schemas_in t) s
    is-next = record { schema = y.schema; new = is-new; room = omega (arith, counted, enters_below n) }

    ends_at : end ≡ length (used (schemas_in t))
    ends_at = y.behind.ends ∙ ap (start_of t) (sym counted) ∙ held-end held

    stored : {b d : List ℕ} → b ≡ sets t end (le 2 (length s)) → d ≡ sets b (end + 2) (part s 0 (length s)) → d ≡ sets t (length (used (schemas_in t))) (entry s)
    unfolding entry
    stored e f =
        f ∙ rw (e, part-whole s) (sets_then t end (end + 2) (le 2 (length s)) s (omega (arith, length-le 2 (length s))))
        ∙ ap (λ (k : ℕ). sets t k (le 2 (length s) ++ s)) ends_at

    pub enters-new : {b d : List ℕ} → b ≡ sets t end (le 2 (length s)) → d ≡ sets b (end + 2) (part s 0 (length s))
        → Adds t s (Ok (count_in t)) (set d 0 (count_in t + 1))
    enters-new {d = d} e f =
        let z : count_in t + 1 ≡ suc (length (schemas_in t)) = omega (arith, counted) in
        record {
          answers = ap given (sym counted) ∙ sym (add-new held s is-next);
          leaves = ap (set d 0) z ∙ ap (λ (w : List ℕ). set w 0 (suc (length (schemas_in t)))) (stored e f) ∙ sym (laid held s)
              ∙ sym (added_new held s is-next);
        }
