-- Lent bytes that hold a list of schemas: they hold its first ones by another count, and one more where that is stored. Assumes nothing.
use mathlib.Core.Path.{◌≡◌, refl, sym, ap, ◌∙◌}
use mathlib.Core.Logic.{◌⊎◌, inl, inr, ⊎_elim}
use mathlib.Core.Bool.{false}
use mathlib.Core.List.{List, [], ◌∷◌, ◌++◌, append_assoc}
use Prim.Native.Nat.{ℕ, suc, ◌+◌, ◌*◌, ◌≤◌, ◌<◌}
use native.Mathlib.Omega.{arith}
use lib.ListN.{length, take, get_or, set, length-append, length-set, get_or-append}
use lib.Seq.{sets, length-sets, set-set, take_at, get_or_at}
use Rattle.words.proofs.Parts.{lt-or-le}
use Rattle.words.proofs.Runs.{part-sets, sets_same}
use Rattle.schema.specs.Reading.{judged}
use Rattle.schema.specs.declared.Judged.TheVariants.{Accepted}
use Rattle.shelf.specs.Catalogue.{entry, entries, used, among}
use Rattle.shelf.specs.Holding.{Catalogue, Holds}
use Rattle.shelf.proofs.Among.{not-among-at, among_none}
use Rattle.shelf.proofs.Holding.{length-entry, entries-append, accepted-short, rest, whole}

-- ---- the room

entries-long : (ss : List (List ℕ)) → ((i : ℕ) → i < length ss → length (get_or ss i []) ≤ 1024) → length (entries ss) ≤ 1026 * length ss
unfolding entries
entries-long [] h = omega arith
entries-long (s ∷ ss) h =
    omega (arith, length-append (entry s) (entries ss), length-entry s, h 0 (omega arith), entries-long ss (λ i l. h (suc i) (omega arith)))

-- there is room for every catalogue
pub used-fits : {ss : List (List ℕ)} → Catalogue ss → length (used ss) ≤ 16417
unfolding used
used-fits {ss} c = omega (arith, entries-long ss (λ i l. accepted-short (get_or ss i []) (c.schemas i l)), c.few)

-- the used bytes stand as they are stored
pub used-same : {t : List ℕ} {ss : List (List ℕ)} → Holds t ss → sets t 0 (used ss) ≡ t
used-same {t} {ss} h = ap (sets t 0) (sym h.begins) ∙ sets_same t 0 (length (used ss)) (omega (arith, h.size, used-fits h.is))

-- ---- the first of them

fewer : (xs ys : List (List ℕ)) → Catalogue (xs ++ ys) → Catalogue xs
fewer xs ys c =
    let long : length (xs ++ ys) ≡ length xs + length ys = length-append xs ys in
    record {
      few = omega (arith, c.few);
      schemas = λ i l. rw (get_or-append xs ys [] i l) at (c.schemas i (omega arith));
      different = λ i j l m e. c.different i j l (omega arith)
          (get_or-append xs ys [] i (omega arith) ∙ e ∙ sym (get_or-append xs ys [] j m));
    }

-- by their count the bytes hold the first ones
pub holds-fewer : {t : List ℕ} (xs ys : List (List ℕ)) → Holds t (xs ++ ys) → Holds (set t 0 (length xs)) xs
unfolding used
holds-fewer {t} xs ys h =
    let e : set t 0 (length xs) ≡ length xs ∷ (entries (xs ++ ys) ++ rest h) = ap (λ (u : List ℕ). set u 0 (length xs)) (whole h) in
    let f : entries (xs ++ ys) ++ rest h ≡ entries xs ++ (entries ys ++ rest h) =
    ap (λ (u : List ℕ). u ++ rest h) (entries-append xs ys) ∙ append_assoc (entries xs) (entries ys) (rest h) in
    record {
      size = length-set t 0 (length xs) ∙ h.size;
      is = fewer xs ys h.is;
      begins = ap (take (length (used xs))) e
          ∙ ap (λ (u : List ℕ). length xs ∷ u) (ap (take (length (entries xs))) f ∙ take_at (entries xs) (entries ys ++ rest h) (length (entries xs)) refl);
    }

-- ---- one more

-- a schema that a catalogue can take as its next
pub record New (ss : List (List ℕ)) (s : List ℕ) : Type 0 where
  pub schema : judged s ≡ Accepted
  pub new : among s ss ≡ false
  pub room : length ss < 16

module _ (ss : List (List ℕ)) (s : List ℕ) where
  pub length_more : length (ss ++ (s ∷ [])) ≡ suc (length ss)
  length_more = length-append ss (s ∷ []) ∙ omega arith

  pub at_old : (i : ℕ) → i < length ss → get_or (ss ++ (s ∷ [])) i [] ≡ get_or ss i []
  at_old i l = get_or-append ss (s ∷ []) [] i l

  pub at_new : (i : ℕ) → i ≡ length ss → get_or (ss ++ (s ∷ [])) i [] ≡ s
  at_new i e = get_or_at ss s [] [] i (sym e)

  -- one of the old ones, or the new one
  which : (i : ℕ) → i < length (ss ++ (s ∷ [])) → (i < length ss) ⊎ (i ≡ length ss)
  which i l = go (lt-or-le i (length ss))
    where
      go : (i < length ss) ⊎ (length ss ≤ i) → (i < length ss) ⊎ (i ≡ length ss)
      go (inl k) = inl k
      go (inr k) = inr (omega (arith, length_more))

  more : Catalogue ss → New ss s → Catalogue (ss ++ (s ∷ []))
  more c n = record {
    few = omega (arith, length_more, n.room);
    schemas = λ i l. ⊎_elim (λ k. rw (at_old i k) (c.schemas i k)) (λ k. rw (at_new i k) n.schema) (which i l);
    different = λ i j l m e. let o : i < length ss = omega (arith, length_more) in
        ⊎_elim (λ k. c.different i j l k (sym (at_old i o) ∙ e ∙ at_old j k))
        (λ k. not-among-at s ss i n.new o (sym (at_old i o) ∙ e ∙ at_new j k)) (which j m);
  }

  -- the last of a catalogue's is one
  pub last-new : Catalogue (ss ++ (s ∷ [])) → New ss s
  last-new c =
      let l : length ss < length (ss ++ (s ∷ [])) = omega (arith, length_more) in
      record {
        schema = rw (at_new (length ss) refl) at (c.schemas (length ss) l);
        new = among_none s ss (λ i k e. c.different i (length ss) k l (at_old i k ∙ e ∙ sym (at_new (length ss) refl)));
        room = omega (arith, length_more, c.few);
      }

  -- the bytes in which one more is stored hold it too
  pub holds_more : {t : List ℕ} → Holds t ss → New ss s → Holds (sets t 0 (used (ss ++ (s ∷ [])))) (ss ++ (s ∷ []))
  holds_more {t} h n =
      let c = more h.is n in
      let u = used (ss ++ (s ∷ [])) in
      record { size = length-sets t 0 u ∙ h.size; is = c; begins = part-sets t 0 u (omega (arith, h.size, used-fits c)) }

-- a count before does not matter to what is stored
pub sets-used : (t : List ℕ) (a b : ℕ) (ss : List (List ℕ)) → sets (set t 0 a) 0 (used ss) ≡ sets (set t 0 b) 0 (used ss)
unfolding used
sets-used t a b ss = ap (λ (u : List ℕ). sets u 1 (entries ss)) (set-set t 0 a (length ss) ∙ sym (set-set t 0 b (length ss)))
