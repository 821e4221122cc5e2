-- What holds of catalogues. Assumes nothing.
use mathlib.Core.Path.{◌≡◌, sym, ap, ◌∙◌}
use mathlib.Core.Bool.{true}
use mathlib.Core.List.{List, []}
use Prim.Native.Nat.{ℕ, ◌<◌}
use Rattle.words.specs.Bytes.{Bytes}
use Rattle.compare.proofs.Lent.{by-own, by-other, none-refused}
use Rattle.shelf.specs.Catalogue.{count_in, schema_in, schemas_in, is_catalogue}
use Rattle.shelf.proofs.Standing.{length-schemas, schema-at}
use Rattle.shelf.proofs.Holding.{held, holds}
use Rattle.catalogue.specs.Entries.{given, add_of, added_of}
use Rattle.catalogue.specs.Kept.{Asked, ends, ends_at, StandsAt, Kept}
use Rattle.catalogue.proofs.Adding.{given-then, twelve, twelve-then, next, At, at_on, stands_at, old-at, added}
use Rattle.catalogue.proofs.Answering.{adds-broken, adds_none}
use Rattle.catalogue.proofs.Runs.{left, leaves, told}
use Rattle.catalogue.proofs.ByNumber.{by_number, no-catalogue, thirteen, thirteen-then}

-- each number of a catalogue is its schema's in the list
at-number : (t : List ℕ) (k : ℕ) → k < count_in t → At (schemas_in t) k (schema_in t k)
unfolding schemas_in
at-number t k l = record { given = rw (length-schemas t (count_in t)) l; is = schema-at t (count_in t) k l }

stands : (t s : List ℕ) (n : ℕ) → Bytes t → add_of t s ≡ given n → StandsAt (added_of t s) s n
stands t s n b e = let a = added (holds t b (given-then e).sound) s in stands_at a.holds (a.told n e)

again : (t s : List ℕ) (n : ℕ) → Bytes t → add_of t s ≡ given n → (add_of (added_of t s) s ≡ given n) × (added_of (added_of t s) s ≡ added_of t s)
again t s n b e = let a = added (holds t b (given-then e).sound) s in old-at a.holds s (a.told n e)

-- by a number at which a schema stands every entry ends as with that schema
ends_with : {t s : List ℕ} {n : ℕ} → StandsAt t s n → (q : Asked) → ends_at t n q ≡ ends s q
ends_with {t} {n = n} a q = by_number t n q a.sound a.given ∙ ap (λ (u : List ℕ). ends u q) a.is

keeps : (t s : List ℕ) (k : ℕ) (q : Asked) → Bytes t → is_catalogue t ≡ true → k < count_in t → ends_at (added_of t s) k q ≡ ends_at t k q
keeps t s k q b e l =
    let a = added (holds t b e) s in
    ends_with (stands_at a.holds (at_on a.begins (at-number t k l))) q ∙ sym (by_number t k q e l)

pub kept : Kept
kept = record {
  holds = holds;
  held = held;
  left = left;
  leaves = leaves;
  stands = stands;
  next = next;
  old = λ t k b e l. old-at (holds t b e) (schema_in t k) (at-number t k l);
  again = again;
  by_number = by_number;
  keeps = keeps;
  one = λ t s e. sym (adds-broken t s e).answers;
  one-schema = λ t s e. sym (adds_none t s e).answers;
  no-catalogue = no-catalogue;
  twelve = twelve;
  twelve-then = twelve-then;
  thirteen = thirteen;
  thirteen-then = thirteen-then;
  by-own = λ t s table e. (ap (add_of t) (by-own s table e), ap (added_of t) (by-own s table e));
  by-other = λ t s table n. let e = by-other s table n in let a = adds_none t [] none-refused in
      (ap (add_of t) e ∙ sym a.answers, ap (added_of t) e ∙ sym a.leaves);
  parties = λ t run p s n q b w. ends_with (told b w) q;
}
