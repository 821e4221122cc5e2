-- Reading and the house form are inverse. Assumes nothing.
use mathlib.Core.Path.{◌≡◌, refl, ap, sym, ◌∙◌}
use mathlib.Core.Bool.{Bool, true, false}
use mathlib.Core.List.{List, [], ◌∷◌, ◌++◌, append_assoc}
use Prim.Native.Nat.{ℕ, zero, suc, ◌<◌, ◌≤◌}
use native.Mathlib.Omega.{arith}
use borrow.Author.Tests.{leb-true, le-leb}
use lib.Dec.{leb, lit<}
use lib.ListN.{drop, get_or}
use Rattle.schema.specs.Marks.{types, mark_at}
use Rattle.schema.specs.Types.{Ty, fix, text, li, ma, ro, Tys, end, ◌then◌, count, fixed_place, text_place, fixed_at, text_at, place, mark}
use Rattle.schema.specs.House.{schema, schemas, depth, depths, Right, Rights}
use Rattle.schema.specs.Kinds.{pick, kind_of_place, kind_of, head_kind, kind_ty, Kind, fixed_kind, text_kind, list_kind, map_kind, struct_kind, no_kind}
use Rattle.schema.specs.Reading.{Parsed, none, some, ParsedAll, nones, somes, after, afters, parse_type, parse_all, parse_ro, parse_kind}
use Rattle.schema.proofs.Table.{fixed-at, text_at_lem, fixed-high, text-low, text-high, place-fixed, place-text}
use Rattle.schema.proofs.Marked.{headed, mark-kind, fixed-placed, text-placed}

-- what a reading says of the list that was read
pub record Found (d : ℕ) (s : List ℕ) (T : Ty) (r : List ℕ) : Type 0 where
  pub form : s ≡ schema T ++ r
  pub right : Right T
  pub deep : depth T ≤ d

pub record FoundAll (d n : ℕ) (s : List ℕ) (ts : Tys) (r : List ℕ) : Type 0 where
  pub form : s ≡ schemas ts ++ r
  pub many : count ts ≡ n
  pub right : Rights ts
  pub deep : depths ts ≤ d

abbrev pub Sound : ℕ → List ℕ → Parsed → Type 0
Sound d s none = Unit {0}
Sound d s (some T r) = Found d s T r

abbrev pub SoundAll : ℕ → ℕ → List ℕ → ParsedAll → Type 0
SoundAll d n s nones = Unit {0}
SoundAll d n s (somes ts r) = FoundAll d n s ts r

pub all_sound : (d : ℕ) (p : List ℕ → Parsed) → ((s : List ℕ) → Sound d s (p s)) → (n : ℕ) (s : List ℕ) → SoundAll d n s (parse_all p n s)
unfolding parse_all schema depth Right count
all_sound d p h zero s = record { form = refl; many = refl; right = tt; deep = omega arith }
all_sound d p h (suc n) s = one (p s) (h s) (all_sound d p h n)
  where
    more : (T : Ty) (r : List ℕ) → Sound d s (some T r) → (x : ParsedAll) → SoundAll d n r x
        → SoundAll d (suc n) s (afters x nones (λ ts q. somes (T then ts) q))
    more T r h nones k = tt
    more T r h (somes ts q) k = record {
      form = h.form ∙ rw k.form (sym (append_assoc (schema T) (schemas ts) q));
      many = ap suc k.many;
      right = (h.right, k.right);
      deep = omega arith;
    }

    one : (x : Parsed) → Sound d s x → ((r : List ℕ) → SoundAll d n r (parse_all p n r))
        → SoundAll d (suc n) s (after x nones (λ T r. afters (parse_all p n r) nones (λ ts q. somes (T then ts) q)))
    one none h f = tt
    one (some T r) h f = more T r h (parse_all p n r) (f r)

third : (s : List ℕ) → 1 ≤ get_or s 2 0 → drop 2 s ≡ get_or s 2 0 ∷ drop 3 s
third [] h = absurd (omega arith)
third (a ∷ []) h = absurd (omega arith)
third (a ∷ b ∷ []) h = absurd (omega arith)
third (a ∷ b ∷ c ∷ r) h = refl

module _ (d : ℕ) (p : List ℕ → Parsed) (h : (s : List ℕ) → Sound d s (p s)) (s : List ℕ) where
  sound-li : s ≡ mark_at 9 ++ drop 2 s → (x : Parsed) → Sound d (drop 2 s) x → Sound (suc d) s (after x none (λ T r. some (li T) r))
  unfolding schema depth Right mark place mark_at
  sound-li b none k = tt
  sound-li b (some T r) k = record { form = b ∙ ap (λ l. mark_at 9 ++ l) k.form; right = k.right; deep = omega arith }

  sound-ma-2 : s ≡ mark_at 10 ++ drop 2 s → (K : Ty) (r : List ℕ) → Sound d (drop 2 s) (some K r) → (x : Parsed) → Sound d r x
      → Sound (suc d) s (after x none (λ U q. some (ma K U) q))
  unfolding schema depth Right mark place mark_at
  sound-ma-2 b K r k none l = tt
  sound-ma-2 b K r k (some U q) l = record {
    form = b ∙ ap (λ l. mark_at 10 ++ l) (k.form ∙ rw l.form (sym (append_assoc (schema K) (schema U) q)));
    right = (k.right, l.right);
    deep = omega arith;
  }

  sound-ma : s ≡ mark_at 10 ++ drop 2 s → (x : Parsed) → Sound d (drop 2 s) x → Sound (suc d) s (after x none (λ K r. after (p r) none (λ U q. some (ma K U) q)))
  sound-ma b none k = tt
  sound-ma b (some K r) k = sound-ma-2 b K r k (p r) (h r)

  sound-ro : s ≡ mark_at 11 ++ drop 2 s → (n : ℕ) → get_or s 2 0 ≡ n → (t u : Bool) → leb 1 n ≡ t → leb n 128 ≡ u → (x : ParsedAll)
      → SoundAll d n (drop 3 s) x → Sound (suc d) s (pick t (pick u (afters x none (λ ts q. some (ro ts) q)) none) none)
  unfolding schema depth Right mark place mark_at count
  sound-ro b n e false u i j x k = tt
  sound-ro b n e true false i j x k = tt
  sound-ro b n e true true i j nones k = tt
  sound-ro b n e true true i j (somes ts q) k =
      let one : 1 ≤ n = leb-true 1 n i in
      let top : n ≤ 128 = leb-true n 128 j in
      record {
        form = b ∙ ap (λ l. mark_at 11 ++ l) (third s (omega arith) ∙ rw (e, k.many, k.form));
        right = (record { low = omega arith; high = omega arith }, k.right);
        deep = omega arith;
      }

  kind-sound : (κ : Kind) → head_kind s ≡ κ → Sound (suc d) s (parse_kind p κ s)
  unfolding parse_kind parse_ro schema depth Right mark place
  kind-sound (fixed_kind k) e =
      let b = headed s (fixed_kind k) e tt in
      record { form = b.begins ∙ ap (λ j. mark_at j ++ drop 2 s) (sym (place-fixed k b.small)); right = tt; deep = omega arith }
  kind-sound (text_kind k) e =
      let b = headed s (text_kind k) e tt in
      record { form = b.begins ∙ ap (λ j. mark_at j ++ drop 2 s) (sym (place-text k b.small.low b.small.high)); right = tt; deep = omega arith }
  kind-sound list_kind e = sound-li (headed s list_kind e tt).begins (p (drop 2 s)) (h (drop 2 s))
  kind-sound map_kind e = sound-ma (headed s map_kind e tt).begins (p (drop 2 s)) (h (drop 2 s))
  kind-sound struct_kind e = sound-ro (headed s struct_kind e tt).begins (get_or s 2 0) refl _ _ refl refl (parse_all p (get_or s 2 0) (drop 3 s))
      (all_sound d p h (get_or s 2 0) (drop 3 s))
  kind-sound no_kind e = tt

-- what is read is the type's house form, and after what is left
pub sound : (d : ℕ) (s : List ℕ) → Sound d s (parse_type d s)
unfolding parse_type
sound zero s = tt
sound (suc d) s = kind-sound d (parse_type d) (sound d) s (head_kind s) refl

-- a step of the reading at each mark
module _ (d : ℕ) (r : List ℕ) where
  step : (k : ℕ) (κ : Kind) → k < 12 → kind_of_place k ≡ κ → parse_type (suc d) (mark_at k ++ r) ≡ parse_kind (parse_type d) κ (mark_at k ++ r)
  unfolding parse_type
  step k κ h e = rw (mark-kind r k h, e)

  step-fixed : (k : ℕ) → k < 7 → parse_type (suc d) (mark_at k ++ r) ≡ some (fix (fixed_at k)) r
  unfolding parse_kind mark_at
  step-fixed k h = step k (fixed_kind k) (omega arith) (fixed-placed k h)

  step-text : (k : ℕ) → 7 ≤ k → k < 9 → parse_type (suc d) (mark_at k ++ r) ≡ some (text (text_at k)) r
  unfolding parse_kind mark_at
  step-text k l h = step k (text_kind k) (omega arith) (text-placed k l h)

  step-li : parse_type (suc d) (mark_at 9 ++ r) ≡ after (parse_type d r) none (λ T q. some (li T) q)
  unfolding parse_kind mark_at kind_of_place types kind_of
  step-li = step 9 list_kind (lit< tt) refl

  step-ma : parse_type (suc d) (mark_at 10 ++ r) ≡ after (parse_type d r) none (λ K q. after (parse_type d q) none (λ U o. some (ma K U) o))
  unfolding parse_kind mark_at kind_of_place types kind_of
  step-ma = step 10 map_kind (lit< tt) refl

step-ro : (d : ℕ) (n : ℕ) (r : List ℕ) → 1 ≤ n → n ≤ 128 → parse_type (suc d) (mark_at 11 ++ (n ∷ r))
    ≡ afters (parse_all (parse_type d) n r) none (λ ts q. some (ro ts) q)
unfolding parse_kind mark_at kind_of_place types kind_of parse_ro
step-ro d n r h k = step d (n ∷ r) 11 struct_kind (lit< tt) refl ∙ rw (le-leb 1 n h, le-leb n 128 k)

-- a type's house form is read as the type
mutual
  unfolding schema depth Right count parse_all mark place

  pub complete : (T : Ty) (d : ℕ) (r : List ℕ) → Right T → depth T ≤ d → parse_type d (schema T ++ r) ≡ some T r
  complete (fix f) zero r h e = absurd (omega arith)
  complete (text t) zero r h e = absurd (omega arith)
  complete (li T) zero r h e = absurd (omega arith)
  complete (ma K U) zero r h e = absurd (omega arith)
  complete (ro ts) zero r h e = absurd (omega arith)
  complete (fix f) (suc d) r h e = step-fixed d r (fixed_place f) (fixed-high f) ∙ ap (λ g. some (fix g) r) (fixed-at f)
  complete (text t) (suc d) r h e = step-text d r (text_place t) (text-low t) (text-high t) ∙ ap (λ g. some (text g) r) (text_at_lem t)
  complete (li T) (suc d) r h e = rw (append_assoc (mark_at 9) (schema T) r, step-li d (schema T ++ r), complete T d r h (omega arith))
  complete (ma K U) (suc d) r h e =
      rw (
        append_assoc (mark_at 10) (schema K ++ schema U) r,
        append_assoc (schema K) (schema U) r,
        step-ma d (schema K ++ (schema U ++ r)),
        complete K d (schema U ++ r) h.0 (omega arith),
        complete U d r h.1 (omega arith),
      )
  complete (ro ts) (suc d) r h e =
      rw (
        append_assoc (mark_at 11) (count ts ∷ schemas ts) r,
        step-ro d (count ts) (schemas ts ++ r) h.0.low h.0.high,
        complete-all ts d r h.1 (omega arith),
      )

  complete-all : (ts : Tys) (d : ℕ) (r : List ℕ) → Rights ts → depths ts ≤ d → parse_all (parse_type d) (count ts) (schemas ts ++ r) ≡ somes ts r
  complete-all end d r h e = refl
  complete-all (T then ts) d r h e = rw (
    append_assoc (schema T) (schemas ts) r,
    complete T d (schemas ts ++ r) h.0 (omega arith),
    complete-all ts d r
        h.1 (omega arith),
  )

-- the kind that a type's house form begins with
pub schema-kind : (X : Ty) (r : List ℕ) → head_kind (schema X ++ r) ≡ kind_ty X
unfolding schema mark place kind_of_place types kind_of
schema-kind (fix f) r = mark-kind r (fixed_place f) (omega (arith, fixed-high f)) ∙ fixed-placed (fixed_place f) (fixed-high f)
schema-kind (text t) r = mark-kind r (text_place t) (omega (arith, text-high t)) ∙ text-placed (text_place t) (text-low t) (text-high t)
schema-kind (li X) r = rw (append_assoc (mark_at 9) (schema X) r) (mark-kind _ 9 (lit< tt))
schema-kind (ma K U) r = rw (append_assoc (mark_at 10) (schema K ++ schema U) r) (mark-kind _ 10 (lit< tt))
schema-kind (ro ts) r = rw (append_assoc (mark_at 11) (count ts ∷ schemas ts) r) (mark-kind _ 11 (lit< tt))
