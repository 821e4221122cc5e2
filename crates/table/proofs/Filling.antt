-- Types read one after the other and laid into a table: what filling does at a leaf, at a container, and at what is no type. Assumes nothing.
use Rattle.std.proofs.Common.{◌≡◌, ℕ, zero, suc, ◌+◌, ◌-◌, ◌*◌, ◌%◌, ◌<◌, ◌≤◌, Bool, true, false, leb, ◌⊎◌, List, [], ◌∷◌, ◌++◌, length, get_or, drop, set, sym, refl, ap, ◌∙◌, subst, inl, inr, append-nil, add-one, arith, get_or-set_same, set-set, le-leb}
use lib.Seq.{sets}
use Rattle.words.proofs.Runs.{sets-append, sets-comm, sets-low}
use Rattle.schema.specs.Types.{Ty, li, ma, ro, Tys, end, ◌then◌, count, fixed_at, text_at}
use Rattle.schema.specs.Kinds.{kind_at, fixed_kind, text_kind, list_kind, map_kind, struct_kind, no_kind, pick}
use Rattle.schema.specs.Reading.{Parsed, none, some, ParsedAll, nones, somes, after, afters, parse_type, parse_all, parse_ro}
use Rattle.schema.specs.Walk.{size, sizes}
use Rattle.schema.proofs.Parse.{SoundAll, sound, all_sound}
use Rattle.schema.proofs.Table.{place-fixed, place-text}
use Rattle.schema.proofs.Laws.{Left, left, all_more, all_none, step-fixed, step-text, step-li, step-ma, step-ro, step-none, step-few, step-many}
use Rattle.schema.proofs.Laws.{size-fixed, size-text, size-li, size-ma, size-ro, sizes-done, sizes-more}
use Rattle.table.specs.Words.{word}
use Rattle.table.specs.Tables.{many, manys, entries, entries_all}
use Rattle.table.proofs.Decode.{word_after}
use Rattle.table.proofs.Spots.{entries-many}
use Rattle.table.proofs.Places.{many-size}

-- what filling comes to: nothing, or the position and the place behind all, and the table
pub data Filled : Type 0 where
  nothing : Filled
  filled : ℕ → ℕ → List ℕ → Filled

abbrev pub onward : Filled → (ℕ → ℕ → List ℕ → Filled) → Filled
onward nothing f = nothing
onward (filled a j U) f = f a j U

-- n types from the position at, at most D deep, of depth e, into the table T from place i on
unfoldable pub fill : List ℕ → (at i n D e : ℕ) → List ℕ → Filled
fill s at i n D e T = afters (parse_all (parse_type D) n (drop at s)) nothing (λ ts r. filled (at + sizes ts) (i + manys ts) (sets T i (entries_all e i ts)))

-- the place behind the last descendant comes last
unfoldable pub patch : List ℕ → ℕ → ℕ → List ℕ
patch U p j = set U p ((get_or U p 0 + j * 18014398509481984) % 18446744073709551616)

pub fill_done : (s : List ℕ) (at i n D e : ℕ) (T : List ℕ) → n ≡ 0 → fill s at i n D e T ≡ filled at i T
unfolding fill entries many
fill_done s at i n D e T z =
    let p : at + 0 ≡ at = omega arith in
    let q : i + 0 ≡ i = omega arith in
    rw (z, all_none s at D, sizes-done, p, q)

laid_more : (at i e : ℕ) (T : List ℕ) (X : Ty) (ts : Tys)
    → filled (at + sizes (X then ts)) (i + manys (X then ts)) (sets T i (entries_all e i (X then ts)))
    ≡ filled (at + size X + sizes ts) (i + many X + manys ts) (sets (sets T i (entries e i X)) (i + many X) (entries_all e (i + many X) ts))
unfolding entries many
laid_more at i e T X ts =
    let p : at + sizes (X then ts) ≡ at + size X + sizes ts = omega (arith, sizes-more X ts) in
    let q : i + (many X + manys ts) ≡ i + many X + manys ts = omega arith in
    let k : sets (sets T i (entries e i X)) (i + many X) (entries_all e (i + many X) ts) ≡ sets T i (entries e i X ++ entries_all e (i + many X) ts) =
    ap (λ (m : ℕ). sets (sets T i (entries e i X)) (i + m) (entries_all e (i + many X) ts)) (sym (entries-many X e i)) ∙ sets-append T i (entries e i X)
    (entries_all e (i + many X) ts) in
    rw (p, q, k)

-- one type, then the others
fill_more : (s : List ℕ) (at i n D e : ℕ) (T : List ℕ) → 0 < n
    → fill s at i n D e T ≡ after (parse_type D (drop at s)) nothing (λ X r. fill s (at + size X) (i + many X) (n - 1) D e (sets T i (entries e i X)))
unfolding fill
fill_more s at i n D e T h = rw (all_more s at D n h) (go (parse_type D (drop at s)) (left s at D))
  where
    two : (X : Ty) (x : ParsedAll)
        → afters (afters x nones (λ Xs q. somes (X then Xs) q)) nothing (λ ts r. filled (at + sizes ts) (i + manys ts) (sets T i (entries_all e i ts)))
        ≡ afters x nothing (λ ts r. filled (at + size X + sizes ts) (i + many X + manys ts)
        (sets (sets T i (entries e i X)) (i + many X) (entries_all e (i + many X) ts)))
    two X nones = refl
    two X (somes Xs q) = laid_more at i e T X Xs

    go : (x : Parsed) → Left s at x
        → afters (after x nones (λ X r. afters (parse_all (parse_type D) (n - 1) r) nones (λ Xs q. somes (X then Xs) q))) nothing
        (λ ts r. filled (at + sizes ts) (i + manys ts) (sets T i (entries_all e i ts)))
        ≡ after x nothing (λ X r. afters (parse_all (parse_type D) (n - 1) (drop (at + size X) s)) nothing
        (λ ts r. filled (at + size X + sizes ts) (i + many X + manys ts)
        (sets (sets T i (entries e i X)) (i + many X) (entries_all e (i + many X) ts))))
    go none l = refl
    go (some X r) l = rw l.form (two X (parse_all (parse_type D) (n - 1) (drop (at + size X) s)))

-- ---- stores in order

pub patched : (T E : List ℕ) (i j w₀ w : ℕ) → i < length T → (w₀ + j * 18014398509481984) % 18446744073709551616 ≡ w → patch
    (sets (set T i w₀) (i + 1) E) i j ≡ sets T i (w ∷ E)
unfolding patch
patched T E i j w₀ w h e =
    let g : get_or (sets (set T i w₀) (i + 1) E) i 0 ≡ w₀ = sets-low (set T i w₀) (i + 1) E i (omega arith) ∙ get_or-set_same T i w₀ 0 h in
    let v : (get_or (sets (set T i w₀) (i + 1) E) i 0 + j * 18014398509481984) % 18446744073709551616 ≡ w = ap
    (λ (u : ℕ). (u + j * 18014398509481984) % 18446744073709551616) g ∙ e in
    ap (set (sets (set T i w₀) (i + 1) E) i) v
    ∙ sets-comm (set T i w₀) i (i + 1) (w ∷ []) E (omega arith)
    ∙ ap (λ (u : List ℕ). sets u (i + 1) E) (set-set T i w₀ w) ∙ ap (λ (u : ℕ). sets (set T i w) u E) (add-one i)

-- ---- what a container is

li-many : (X : Ty) → many (li X) ≡ suc (manys (X then end))
unfolding many
li-many X = omega arith

li-entries : (X : Ty) (e i : ℕ) → entries e i (li X) ≡ word 9 e 1 i (i + many (li X)) ∷ entries_all (e + 1) (i + 1) (X then end)
unfolding entries many
li-entries X e i = ap (λ (u : List ℕ). word 9 e 1 i (i + suc (many X)) ∷ u) (sym (append-nil (entries (e + 1) (i + 1) X)))

ma-many : (K U : Ty) → many (ma K U) ≡ suc (manys (K then (U then end)))
unfolding many
ma-many K U = omega arith

ma-entries : (K U : Ty) (e i : ℕ) → entries e i (ma K U) ≡ word 10 e 2 i (i + many (ma K U)) ∷ entries_all (e + 1) (i + 1) (K then (U then end))
unfolding entries many
ma-entries K U e i = ap (λ (u : List ℕ). word 10 e 2 i (i + suc (many K + many U)) ∷ (entries (e + 1) (i + 1) K ++ u))
    (sym (append-nil (entries (e + 1) (i + 1 + many K) U)))

pub ro-many : (ts : Tys) → many (ro ts) ≡ suc (manys ts)
unfolding many
ro-many ts = refl

pub ro-entries : (ts : Tys) (c : ℕ) → count ts ≡ c → (e i : ℕ) → entries e i (ro ts) ≡ word 11 e c i (i + many (ro ts)) ∷ entries_all (e + 1) (i + 1) ts
unfolding entries
ro-entries ts c q e i = ap (λ (u : ℕ). word 11 e u i (i + many (ro ts)) ∷ entries_all (e + 1) (i + 1) ts) q

none_left : (p : List ℕ → Parsed) (r : List ℕ) → parse_all p (1 - 1) r ≡ somes end r
unfolding parse_all
none_left p r = refl

one_left : (p : List ℕ → Parsed) (r : List ℕ) → parse_all p (2 - 1) r ≡ after (p r) nones (λ X q. somes (X then end) q)
unfolding parse_all
one_left p r = go (p r)
  where
    go : (x : Parsed) → after x nones (λ X q. afters (parse_all p 0 q) nones (λ Xs o. somes (X then Xs) o)) ≡ after x nones (λ X q. somes (X then end) q)
    go none = refl
    go (some X q) = refl

shut-all : (c : ℕ) (r : List ℕ) (f : Ty → List ℕ → Filled) → after (parse_ro (parse_type (1 - 1)) c r) nothing f ≡ nothing
unfolding parse_ro parse_all parse_type
shut-all zero r f = refl
shut-all (suc c) r f = go (leb 1 (suc c)) (leb (suc c) 128)
  where
    go : (t u : Bool) → after (pick t (pick u none none) none) nothing f ≡ nothing
    go true true = refl
    go true false = refl
    go false u = refl

shut_at : (D c : ℕ) (r : List ℕ) (f : Ty → List ℕ → Filled) → D ≡ 1 → after (parse_ro (parse_type (D - 1)) c r) nothing f ≡ nothing
shut_at D c r f z = rw z (shut-all c r f)

-- ---- one step

-- where code stands: an entry for every two bytes so far, in a schema that is short enough
pub record Stand (s T : List ℕ) (at i D e : ℕ) : Type 0 where
  pub short : length s ≤ 1024
  pub room : i < length T
  pub half : 2 * i + 1 ≤ at
  pub fuel : 0 < D
  pub depth : e < 16

module _ (s : List ℕ) (at i n D e : ℕ) (T : List ℕ) (h : Stand s T at i D e) (l : 0 < n) where
  pub fill_none : kind_at s at ≡ no_kind → fill s at i n D e T ≡ nothing
  fill_none k = fill_more s at i n D e T l ∙ rw (step-none s at D h.fuel k)

  pub fill-fixed : (k : ℕ) → k < 7 → kind_at s at ≡ fixed_kind k → fill s at i n D e T ≡ fill s (at + 2) (i + 1) (n - 1) D e (set T i (word k e 0 i (i + 1)))
  unfolding entries many
  fill-fixed k lo q = fill_more s at i n D e T l ∙ rw (step-fixed s at D h.fuel k q, size-fixed (fixed_at k), place-fixed k lo)

  pub fill-text : (k : ℕ) → 7 ≤ k → k < 9 → kind_at s at ≡ text_kind k → fill s at i n D e T ≡ fill s (at + 2) (i + 1) (n - 1) D e
      (set T i (word k e 0 i (i + 1)))
  unfolding entries many
  fill-text k lo hi q = fill_more s at i n D e T l ∙ rw (step-text s at D h.fuel k q, size-text (text_at k), place-text k lo hi)

  -- a container whose children's types are ts
  same : (X : Ty) (ts : Tys) (k c at' : ℕ) → at + size X ≤ length s → k < 12 → c < 256 → at + size X ≡ at' + sizes ts → many X ≡ suc (manys ts)
      → entries e i X ≡ word k e c i (i + many X) ∷ entries_all (e + 1) (i + 1) ts
      → fill s (at + size X) (i + many X) (n - 1) D e (sets T i (entries e i X))
      ≡ fill s (at' + sizes ts) (i + 1 + manys ts) (n - 1) D e
      (patch (sets (set T i (word k e c i 0)) (i + 1) (entries_all (e + 1) (i + 1) ts)) i (i + 1 + manys ts))
  same X ts k c at' r hk hc p q o =
      let m : i + many X ≡ i + 1 + manys ts = omega arith in
      let z : 2 * many X ≤ size X = many-size X in
      let j : i + 1 + manys ts < 1024 = omega (arith, h.short, h.half) in
      let w : (word k e c i 0 + (i + 1 + manys ts) * 18014398509481984) % 18446744073709551616 ≡ word k e c i (i + 1 + manys ts) =
      word_after k e c i 0 hk h.depth hc (omega (arith, h.short, h.half)) (i + 1 + manys ts) j in
      rw (p, o, m) (ap (λ (u : List ℕ). fill s (at' + sizes ts) (i + 1 + manys ts) (n - 1) D e u)
      (sym (patched T (entries_all (e + 1) (i + 1) ts) i (i + 1 + manys ts) (word k e c i 0) (word k e c i (i + 1 + manys ts)) h.room w)))

  abbrev Opens : ℕ → ℕ → ℕ → Type 0
  Opens k c at' = fill s at i n D e T ≡ onward (fill s at' (i + 1) c (D - 1) (e + 1) (set T i (word k e c i 0))) (λ a j U. fill s a j (n - 1) D e (patch U i j))

  abbrev on : Ty → Filled
  on X = fill s (at + size X) (i + many X) (n - 1) D e (sets T i (entries e i X))

  pub fill-li : kind_at s at ≡ list_kind → Opens 9 1 (at + 2)
  unfolding fill
  fill-li q =
      let p = step-li s at D h.fuel q in
      fill_more s at i n D e T l ∙ rw (p, all_more s (at + 2) (D - 1) 1 (omega arith))
      (go (parse_type (D - 1) (drop (at + 2) s)) (subst (Left s at) p (left s at D)))
    where
      one : (X : Ty) (r : List ℕ) → at + size (li X) ≤ length s
          → on (li X) ≡ fill s (at + 2 + sizes (X then end)) (i + 1 + manys (X then end)) (n - 1) D e
          (patch (sets (set T i (word 9 e 1 i 0)) (i + 1) (entries_all (e + 1) (i + 1) (X then end))) i (i + 1 + manys (X then end)))
      one X r z = same (li X) (X then end) 9 1 (at + 2) z (omega arith) (omega arith) (omega (arith, size-li X, sizes-more X end, sizes-done)) (li-many X)
          (li-entries X e i)

      go : (x : Parsed) → Left s at (after x none (λ X r. some (li X) r))
          → after (after x none (λ X r. some (li X) r)) nothing (λ X r. on X)
          ≡ onward (afters (after x nones (λ X r. afters (parse_all (parse_type (D - 1)) (1 - 1) r) nones (λ Xs q. somes (X then Xs) q))) nothing
          (λ ts r. filled (at + 2 + sizes ts) (i + 1 + manys ts) (sets (set T i (word 9 e 1 i 0)) (i + 1) (entries_all (e + 1) (i + 1) ts))))
          (λ a j U. fill s a j (n - 1) D e (patch U i j))
      go none z = refl
      go (some X r) z = one X r z.room ∙ rw (none_left (parse_type (D - 1)) r)

  pub fill-ro : kind_at s at ≡ struct_kind → (c : ℕ) → c ≡ get_or s (at + 2) 0 → 1 ≤ c → c ≤ 128 → Opens 11 c (at + 3)
  unfolding fill parse_ro
  fill-ro q c ec lo hi =
      let p : parse_type D (drop at s) ≡ afters (parse_all (parse_type (D - 1)) c (drop (at + 3) s)) none (λ ts q. some (ro ts) q) =
      step-ro s at D h.fuel q ∙ rw
      (← ec, le-leb 1 c lo, le-leb c 128 hi) in
      fill_more s at i n D e T l ∙ rw p (go (parse_all (parse_type (D - 1)) c (drop (at + 3) s))
      (all_sound (D - 1) (parse_type (D - 1)) (sound (D - 1)) c (drop (at + 3) s)) (subst (Left s at) p (left s at D)))
    where
      go : (x : ParsedAll) → SoundAll (D - 1) c (drop (at + 3) s) x → Left s at (afters x none (λ ts q. some (ro ts) q))
          → after (afters x none (λ ts q. some (ro ts) q)) nothing (λ X r. on X)
          ≡ onward (afters x nothing (λ ts r. filled (at + 3 + sizes ts) (i + 1 + manys ts)
          (sets (set T i (word 11 e c i 0)) (i + 1) (entries_all (e + 1) (i + 1) ts)))) (λ a j U. fill s a j (n - 1) D e (patch U i j))
      go nones y z = refl
      go (somes ts r) y z = same (ro ts) ts 11 c (at + 3) z.room (omega arith) (omega arith) (omega (arith, size-ro ts)) (ro-many ts)
          (ro-entries ts c y.many e i)

  pub fill-few : kind_at s at ≡ struct_kind → (get_or s (at + 2) 0 < 1) ⊎ (128 < get_or s (at + 2) 0) → fill s at i n D e T ≡ nothing
  fill-few q z = fill_more s at i n D e T l ∙ rw (go z)
    where
      go : (get_or s (at + 2) 0 < 1) ⊎ (128 < get_or s (at + 2) 0) → parse_type D (drop at s) ≡ none
      go (inl y) = step-few s at D h.fuel q y
      go (inr y) = step-many s at D h.fuel q y

  pub fill-ma : kind_at s at ≡ map_kind → Opens 10 2 (at + 2)
  unfolding fill
  fill-ma q =
      let p = step-ma s at D h.fuel q in
      fill_more s at i n D e T l ∙ rw (p, all_more s (at + 2) (D - 1) 2 (omega arith))
      (go (parse_type (D - 1) (drop (at + 2) s)) (subst (Left s at) p (left s at D)))
    where
      K₀ : ℕ → ℕ → List ℕ → Filled
      K₀ a j U = fill s a j (n - 1) D e (patch U i j)

      fin : Tys → Filled
      fin ts = filled (at + 2 + sizes ts) (i + 1 + manys ts) (sets (set T i (word 10 e 2 i 0)) (i + 1) (entries_all (e + 1) (i + 1) ts))

      both : (K U : Ty) → at + size (ma K U) ≤ length s → on (ma K U) ≡ onward (fin (K then (U then end))) K₀
      both K U z = same (ma K U) (K then (U then end)) 10 2 (at + 2) z (omega arith) (omega arith)
          (omega (arith, size-ma K U, sizes-more K (U then end), sizes-more U end, sizes-done)) (ma-many K U) (ma-entries K U e i)

      two : (K : Ty) (y : Parsed) → Left s at (after y none (λ U q. some (ma K U) q))
          → after (after y none (λ U q. some (ma K U) q)) nothing (λ X r. on X)
          ≡ onward (afters (afters (after y nones (λ X q. somes (X then end) q)) nones (λ Xs q. somes (K then Xs) q)) nothing (λ ts r. fin ts)) K₀
      two K none z = refl
      two K (some U q) z = both K U z.room

      go : (x : Parsed) → Left s at (after x none (λ K r. after (parse_type (D - 1) r) none (λ U q. some (ma K U) q)))
          → after (after x none (λ K r. after (parse_type (D - 1) r) none (λ U q. some (ma K U) q))) nothing (λ X r. on X)
          ≡ onward (afters (after x nones (λ X r. afters (parse_all (parse_type (D - 1)) (2 - 1) r) nones (λ Xs q. somes (X then Xs) q)))
          nothing (λ ts r. fin ts)) K₀
      go none z = refl
      go (some K r) z = rw (one_left (parse_type (D - 1)) r) (two K (parse_type (D - 1) r) z)

  -- at the greatest depth no container has room for its children's types
  pub fill_stop : D ≡ 1 → (kind_at s at ≡ list_kind) ⊎ ((kind_at s at ≡ map_kind) ⊎ (kind_at s at ≡ struct_kind)) → fill s at i n D e T ≡ nothing
  fill_stop z (inl q) = fill_more s at i n D e T l ∙ rw (step-li s at D h.fuel q, z) (unfold parse_type in refl)
  fill_stop z (inr (inl q)) = fill_more s at i n D e T l ∙ rw (step-ma s at D h.fuel q, z) (unfold parse_type in refl)
  fill_stop z (inr (inr q)) = fill_more s at i n D e T l ∙ rw (step-ro s at D h.fuel q) (shut_at D (get_or s (at + 2) 0) (drop (at + 3) s) (λ X r. on X) z)
