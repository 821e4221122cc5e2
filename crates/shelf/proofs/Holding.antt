-- Lent bytes hold a list of schemas where they are a catalogue, and then they read as that list. Assumes nothing.
use mathlib.Core.Path.{◌≡◌, refl, sym, ap, ◌∙◌}
use mathlib.Core.Bool.{true, false}
use mathlib.Core.List.{List, [], ◌∷◌, ◌++◌, append_assoc, append-nil}
use Prim.Native.Nat.{ℕ, zero, suc, ◌+◌, ◌≤◌, ◌<◌}
use native.Mathlib.Omega.{arith}
use lib.ListN.{length, take, drop, get_or, length-append, take-append-drop}
use lib.Seq.{take_at, drop_at, take-add, take-suc, take-length, split_at, drop-drop, get_or-take, length-take-le}
use borrow.Author.Tests.{le-leb, eq-eqb}
use Rattle.words.specs.Bytes.{Bytes, le, num, part}
use Rattle.words.proofs.Numbers.{length-le, num-le, le-num}
use Rattle.words.proofs.Parts.{length_part, bytes-part, part-cons, part-add}
use Rattle.schema.specs.Reading.{judged}
use Rattle.schema.specs.declared.Judged.TheVariants.{Accepted}
use Rattle.schema.proofs.Judging.{accepted-schema}
use Rattle.shelf.specs.Catalogue.{entry, entries, used, count_in, size_at, size_of, start_of, schema_in, schemas_to, schemas_in}
use Rattle.shelf.specs.Catalogue.{among, stands, stand, is_catalogue}
use Rattle.shelf.specs.Holding.{Catalogue, Holds}
use Rattle.shelf.proofs.Among.{among_none, not-among-at}
use Rattle.shelf.proofs.Standing.{length-schemas, schema-at, Sound, sound, sound-short}
use Rattle.shelf.proofs.Entries.{start-most}

-- ---- schemas back to back

pub length-entry : (s : List ℕ) → length (entry s) ≡ 2 + length s
unfolding entry
length-entry s = length-append (le 2 (length s)) s ∙ ap (λ (k : ℕ). k + length s) (length-le 2 (length s))

pub entries-append : (xs ys : List (List ℕ)) → entries (xs ++ ys) ≡ entries xs ++ entries ys
unfolding entries
entries-append [] ys = refl
entries-append (x ∷ xs) ys = rw (entries-append xs ys, append_assoc (entry x) (entries xs) (entries ys))

pub entries-more : (xs : List (List ℕ)) (s : List ℕ) → entries (xs ++ (s ∷ [])) ≡ entries xs ++ entry s
unfolding entries
entries-more xs s = entries-append xs (s ∷ []) ∙ ap (λ (u : List ℕ). entries xs ++ u) (append-nil (entry s))

-- an accepted schema is short
pub accepted-short : (s : List ℕ) → judged s ≡ Accepted → length s ≤ 1024
accepted-short s e = (accepted-schema s e).short

-- ---- an entry reads as its schema

module _ (t : List ℕ) (at : ℕ) (y more : List ℕ) (e : drop at t ≡ entry y ++ more) (l : length y ≤ 1024) where
  apart : drop at t ≡ le 2 (length y) ++ (y ++ more)
  unfolding entry
  apart = e ∙ append_assoc (le 2 (length y)) y more

  entry-size : size_at t at ≡ length y
  entry-size =
      ap (λ (u : List ℕ). num (take 2 u)) apart ∙ ap num (take_at (le 2 (length y)) (y ++ more) 2 (length-le 2 (length y)))
      ∙ num-le 2 (length y) (omega arith)

  entry-schema : part t (at + 2) (size_at t at) ≡ y
  entry-schema =
      ap (λ (u : List ℕ). take (size_at t at) u)
      (sym (drop-drop 2 at t) ∙ ap (drop 2) apart ∙ drop_at (le 2 (length y)) (y ++ more) 2 (length-le 2 (length y)))
      ∙ take_at y more (size_at t at) (sym entry-size)

-- ---- what bytes that hold a list read as

-- the first n read as the list's
record Reads (t : List ℕ) (ss : List (List ℕ)) (n : ℕ) : Type 0 where
  pub start : start_of t n ≡ suc (length (entries (take n ss)))
  pub schemas : schemas_to t n ≡ take n ss

module _ {t : List ℕ} {ss : List (List ℕ)} (h : Holds t ss) where
  -- what lies behind the used bytes
  pub rest : List ℕ
  rest = drop (length (used ss)) t

  pub whole : t ≡ used ss ++ rest
  unfolding rest
  whole = sym (take-append-drop (length (used ss)) t) ∙ ap (λ (u : List ℕ). u ++ drop (length (used ss)) t) h.begins

  pub held-count : count_in t ≡ length ss
  unfolding used
  held-count = ap (λ (u : List ℕ). get_or u 0 0) whole

  -- the entry of schema n lies behind those before it
  from : (n : ℕ) → n < length ss
      → drop (suc (length (entries (take n ss)))) t ≡ entry (get_or ss n []) ++ (entries (drop (suc n) ss) ++ rest)
  unfolding used entries
  from n l =
      let a = entries (take n ss) in
      let y = entry (get_or ss n []) in
      let b = entries (drop (suc n) ss) in
      let e : entries ss ≡ a ++ (y ++ b) = ap entries (split_at ss n [] l) ∙ entries-append (take n ss) (get_or ss n [] ∷ drop (suc n) ss) in
      ap (λ (u : List ℕ). drop (suc (length a)) u) whole ∙ ap (λ (u : List ℕ). drop (length a) (u ++ rest)) e
      ∙ ap (λ (u : List ℕ). drop (length a) u) (append_assoc a (y ++ b) rest) ∙ drop_at a ((y ++ b) ++ rest) (length a) refl ∙ append_assoc y b rest

  short : (n : ℕ) → n < length ss → length (get_or ss n []) ≤ 1024
  short n l = accepted-short (get_or ss n []) (h.is.schemas n l)

  module _ (n : ℕ) (l : n < length ss) (e : start_of t n ≡ suc (length (entries (take n ss)))) where
    at-start : drop (start_of t n) t ≡ entry (get_or ss n []) ++ (entries (drop (suc n) ss) ++ rest)
    at-start = ap (λ (k : ℕ). drop k t) e ∙ from n l

    size-at : size_of t n ≡ length (get_or ss n [])
    size-at = entry-size t (start_of t n) (get_or ss n []) _ at-start (short n l)

    is_at : schema_in t n ≡ get_or ss n []
    unfolding schema_in
    is_at = entry-schema t (start_of t n) (get_or ss n []) _ at-start (short n l)

    start-next : start_of t (suc n) ≡ suc (length (entries (take (suc n) ss)))
    unfolding start_of
    start-next =
        let y = get_or ss n [] in
        let a : entries (take (suc n) ss) ≡ entries (take n ss) ++ entry y = ap entries (take-suc ss n [] l) ∙ entries-more (take n ss) y in
        let c : length (entries (take (suc n) ss)) ≡ length (entries (take n ss)) + length (entry y) =
        ap length a ∙ length-append (entries (take n ss)) (entry y) in
        omega (arith, size-at, length-entry y)

  reads : (n : ℕ) → n ≤ length ss → Reads t ss n
  unfolding start_of schemas_to entries
  reads zero l = record { start = refl; schemas = refl }
  reads (suc n) l =
      let r = reads n (omega arith) in
      record {
        start = start-next n l r.start;
        schemas = rw (r.schemas, is_at n l r.start) (sym (take-suc ss n [] l));
      }

  pub held-schema : (i : ℕ) → i < length ss → schema_in t i ≡ get_or ss i []
  held-schema i l = is_at i l (reads i (omega arith)).start

  pub held_to : (n : ℕ) → n ≤ length ss → schemas_to t n ≡ take n ss
  held_to n l = (reads n l).schemas

  pub held-schemas : schemas_in t ≡ ss
  unfolding schemas_in
  held-schemas = ap (schemas_to t) held-count ∙ held_to (length ss) (omega arith) ∙ take-length ss

  pub held-end : start_of t (length ss) ≡ length (used ss)
  unfolding used
  held-end = (reads (length ss) (omega arith)).start ∙ ap (λ (u : List (List ℕ)). suc (length (entries u))) (take-length ss)

  held_new : (i : ℕ) → i < length ss → among (schema_in t i) (schemas_to t i) ≡ false
  held_new i l =
      let long : length (take i ss) ≡ i = length-take-le i ss (omega arith) in
      rw (held-schema i l, held_to i (omega arith))
      (among_none (get_or ss i []) (take i ss)
      (λ j k e. h.is.different j i (omega (arith, long)) l (sym (get_or-take i ss j [] (omega (arith, long))) ∙ e)))

  held-stands : (i : ℕ) → i < length ss → stands t i ≡ true
  unfolding stands
  held-stands i l =
      let a : judged (schema_in t i) ≡ Accepted = ap judged (held-schema i l) ∙ h.is.schemas i l in
      let b : size_of t i ≡ length (get_or ss i []) = size-at i l (reads i (omega arith)).start in
      rw (le-leb (size_of t i) 1024 (omega (arith, short i l)), a, held_new i l)

  held-stand : (n : ℕ) → n ≤ length ss → stand t n ≡ true
  unfolding stand
  held-stand zero l = refl
  held-stand (suc n) l = rw (held-stand n (omega arith), held-stands n l)

  pub held-sound : is_catalogue t ≡ true
  unfolding is_catalogue
  held-sound =
      rw (eq-eqb (length t) 16417 h.size, le-leb (count_in t) 16 (omega (arith, held-count, h.is.few)))
      (ap (stand t) held-count ∙ held-stand (length ss) (omega arith))

pub held : (t : List ℕ) (ss : List (List ℕ)) → Holds t ss → (is_catalogue t ≡ true) × (schemas_in t ≡ ss)
held t ss h = (held-sound h, held-schemas h)

-- ---- what a catalogue holds

module _ (t : List ℕ) (b : Bytes t) (s : Sound t) where
  -- the first n end within the lent bytes
  within : (n : ℕ) → n ≤ count_in t → start_of t n ≤ 16417
  within n l = omega (arith, start-most (sound-short s) n l, s.few)

  -- the entry of schema n, as it is read
  entry-is : (n : ℕ) → n < count_in t → part t (start_of t n) (2 + size_of t n) ≡ entry (schema_in t n)
  unfolding entry schema_in start_of
  entry-is n l =
      let end : start_of t n + 2 + size_of t n ≤ 16417 = within (suc n) l in
      let a : length (part t (start_of t n) 2) ≡ 2 = length_part t (start_of t n) 2 (omega (arith, s.size)) in
      let c : length (part t (start_of t n + 2) (size_of t n)) ≡ size_of t n =
      length_part t (start_of t n + 2) (size_of t n) (omega (arith, s.size)) in
      let d : le 2 (size_of t n) ≡ part t (start_of t n) 2 = rw a at (le-num (bytes-part (start_of t n) 2 b)) in
      part-add t (start_of t n) 2 (size_of t n) ∙ rw (c, d)

  begun : (n : ℕ) → n ≤ count_in t → take (start_of t n) t ≡ count_in t ∷ entries (schemas_to t n)
  unfolding start_of schemas_to entries
  begun zero l = part-cons t 0 0 (omega (arith, s.size))
  begun (suc n) l =
      let e : start_of t n + 2 + size_of t n ≡ start_of t n + (2 + size_of t n) = omega arith in
      rw (e, take-add (start_of t n) (2 + size_of t n) t, begun n (omega arith), entry-is n l, entries-more (schemas_to t n) (schema_in t n))

  schemas-are : Catalogue (schemas_in t)
  unfolding schemas_in
  schemas-are =
      let n = count_in t in
      let long : length (schemas_to t n) ≡ n = length-schemas t n in
      record {
        few = rw long s.few;
        schemas = λ i l. let k : i < n = rw long at l in rw (schema-at t n i k) (s.each i k).schema;
        different = λ i j l m e. let k : j < n = rw long at m in
            not-among-at (schema_in t j) (schemas_to t j) i (s.each j k).new (rw (length-schemas t j) l)
            (schema-at t j i l ∙ sym (schema-at t n i (omega arith)) ∙ e ∙ schema-at t n j k);
      }

  sound-holds : Holds t (schemas_in t)
  unfolding schemas_in used
  sound-holds =
      let n = count_in t in
      let long : length (schemas_to t n) ≡ n = length-schemas t n in
      let e : used (schemas_to t n) ≡ take (start_of t n) t = rw long (sym (begun n (omega arith))) in
      let k : length (used (schemas_to t n)) ≡ start_of t n = ap length e ∙ length-take-le (start_of t n) t (omega (arith, within n (omega arith), s.size)) in
      record { size = s.size; is = schemas-are; begins = ap (λ (m : ℕ). take m t) k ∙ sym e }

pub holds : (t : List ℕ) → Bytes t → is_catalogue t ≡ true → Holds t (schemas_in t)
holds t b e = sound-holds t b (sound t e)
