-- Runs of adding: from lent bytes that hold a list they leave one that goes on, and every catalogue is left by one. Assumes nothing.
use mathlib.Core.Path.{◌≡◌, refl, sym, ap, ◌∙◌}
use mathlib.Core.Bool.{Bool, true, false}
use mathlib.Core.List.{List, [], ◌∷◌, ◌++◌, append_assoc, append-nil}
use Prim.Native.Nat.{ℕ}
use native.Mathlib.Nat.{not-suc-le-zero}
use native.Mathlib.Omega.{arith}
use lib.ListN.{length, set, length-set}
use lib.Seq.{set-get_or}
use Rattle.words.specs.Bytes.{Bytes}
use Rattle.words.proofs.Parts.{part-cons}
use Rattle.shelf.specs.Catalogue.{entries, used, schemas_in, is_catalogue}
use Rattle.shelf.specs.Holding.{Holds}
use Rattle.shelf.proofs.Holding.{held-count, held-sound, holds}
use Rattle.shelf.proofs.Growing.{used-same, holds-fewer, last-new, sets-used}
use Rattle.catalogue.specs.Entries.{added_of}
use Rattle.catalogue.specs.Kept.{Empty, after, Left, Party, Adding, schemas_of, Told, here, later, StandsAt}
use Rattle.catalogue.proofs.Adding.{given-then, no-catalogue-stays, Begins, begins-self, begins-on, at_on, stands_at, added_new, added}

-- ---- the list goes on

-- lent bytes hold a list that begins with ss
record Later (t : List ℕ) (ss : List (List ℕ)) : Type 0 where
  pub now : List (List ℕ)
  pub holds : Holds t now
  pub begins : Begins ss now

run_on : {t : List ℕ} {ss : List (List ℕ)} → Holds t ss → (run : List (List ℕ)) → Later (after t run) ss
unfolding after
run_on {ss = ss} h [] = record { now = ss; holds = h; begins = begins-self ss }
run_on {t = t} {ss = ss} h (s ∷ run) =
    let a = added h s in
    let r = run_on {t = added_of t s} a.holds run in
    record { now = r.now; holds = r.holds; begins = begins-on a.begins r.begins }

-- an empty table holds no schema
empty_holds : {t : List ℕ} → Empty t → Holds t []
unfolding used entries
empty_holds {t} e = record {
  size = e.size;
  is = record { few = omega arith; schemas = λ i l. absurd (not-suc-le-zero l); different = λ i j l m. absurd (not-suc-le-zero m) };
  begins = part-cons t 0 0 (omega (arith, e.size)) ∙ ap (λ (n : ℕ). n ∷ []) e.nothing;
}

pub leaves : (t : List ℕ) (run : List (List ℕ)) → Empty t → is_catalogue (after t run) ≡ true
leaves t run e = held-sound (run_on (empty_holds e) run).holds

-- ---- what a party was told

told_at : {p : Party} {s : List ℕ} {n : ℕ} {t : List ℕ} {ss : List (List ℕ)} {run : List Adding} → Holds t ss → Told p s n t run
    → StandsAt (after t (schemas_of run)) s n
unfolding after
told_at {s = s} {n} h (here {run = run} b e g) =
    let x = added h s in
    let r = run_on x.holds (schemas_of run) in
    rw e (stands_at r.holds (at_on r.begins (x.told n g)))
told_at h (later {a = a} q) = told_at (added h a.schema).holds q

-- who was told a number had a catalogue from the start
pub told : {p : Party} {s : List ℕ} {n : ℕ} {t : List ℕ} {run : List Adding} → Bytes t → Told p s n t run → StandsAt (after t (schemas_of run)) s n
unfolding after
told {t = t} b (here {run = run} e f g) = told_at (holds t b (given-then g).sound) (here {run = run} e f g)
told {p} {s} {n} {t} b (later {a = a} {run} q) = go (is_catalogue t) refl (λ c. told c q)
  where
    go : (v : Bool) → is_catalogue t ≡ v → (Bytes (added_of t a.schema) → StandsAt (after (added_of t a.schema) (schemas_of run)) s n)
        → StandsAt (after (added_of t a.schema) (schemas_of run)) s n
    go true c f = told_at (added (holds t b c) a.schema).holds q
    go false c f = f (rw (no-catalogue-stays t a.schema c) b)

-- ---- every catalogue is left by a run

-- its schemas added in turn to its own bytes, the count set back
module _ {t : List ℕ} where
  add-next : (xs : List (List ℕ)) (y : List ℕ) (ys : List (List ℕ)) → Holds t (xs ++ (y ∷ ys)) → Holds t ((xs ++ (y ∷ [])) ++ ys)
      → added_of (set t 0 (length xs)) y ≡ set t 0 (length (xs ++ (y ∷ [])))
  add-next xs y ys h k =
      let more = xs ++ (y ∷ []) in
      let m = holds-fewer more ys k in
      added_new (holds-fewer xs (y ∷ ys) h) y (last-new xs y m.is) ∙ sets-used t (length xs) (length more) more ∙ used-same m

  run-all : (xs ys : List (List ℕ)) → Holds t (xs ++ ys) → after (set t 0 (length xs)) ys ≡ set t 0 (length (xs ++ ys))
  unfolding after
  run-all xs [] h = rw append-nil
  run-all xs (y ∷ ys) h =
      let k : Holds t ((xs ++ (y ∷ [])) ++ ys) = rw (append_assoc xs (y ∷ []) ys) h in
      rw (add-next xs y ys h k) (run-all (xs ++ (y ∷ [])) ys k ∙ rw (append_assoc xs (y ∷ []) ys))

pub left : (t : List ℕ) → Bytes t → is_catalogue t ≡ true → Left t
left t b e =
    let h = holds t b e in
    record {
      from = set t 0 0;
      run = schemas_in t;
      empty = record { size = length-set t 0 0 ∙ h.size; nothing = held-count (holds-fewer [] (schemas_in t) h) };
      leaves = run-all [] (schemas_in t) h ∙ ap (set t 0) (sym (held-count h)) ∙ set-get_or t 0 0;
    }
