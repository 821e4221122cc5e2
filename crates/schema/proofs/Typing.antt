-- The laws of `Typed`, `type_at` and `types_at`: all that a function needs which walks a schema by position. Assumes nothing.
use mathlib.Core.Path.{◌≡◌, refl, ap, sym, ◌∙◌, subst}
use mathlib.Core.Bool.{Bool, true, false}
use mathlib.Core.List.{List}
use Prim.Native.Nat.{ℕ, zero, suc, ◌+◌, ◌-◌, ◌<◌, ◌≤◌}
use native.Mathlib.Omega.{arith}
use borrow.Author.Tests.{leb-true}
use lib.Dec.{T, leb}
use lib.ListN.{length, drop, get_or}
use Rattle.schema.specs.Types.{Ty, text, li, ma, ro, Tys, end, ◌then◌, st, count, field}
use Rattle.schema.specs.Kinds.{pick, kind_at, head_kind, kind_ty, list_kind, map_kind, struct_kind}
use Rattle.schema.specs.Reading.{Parsed, none, some, ParsedAll, nones, somes, after, afters, parse_type, parse_all, parse_ro}
use Rattle.schema.specs.Walk.{size, Typed, type_at, TypedAll, types_at, next_at, ListAt, MapAt, StructAt, HasField, field_at}
use Rattle.schema.proofs.Parse.{Sound, SoundAll, sound, all_sound, complete, schema-kind}
use Rattle.schema.proofs.Laws.{Left, left, step-li, step-ma, step-ro, all_none, all_more}

-- Each law is proved on the readings that stand in its statement, by their cases.
abbrev good : Parsed → Bool
good x = after x false (λ X r. true)

abbrev ty : Parsed → Ty
ty x = after x (text st) (λ X r. X)

abbrev goods : ParsedAll → Bool
goods x = afters x false (λ Xs r. true)

abbrev tys : ParsedAll → Tys
tys x = afters x end (λ Xs r. Xs)

abbrev both : Ty → Parsed → Parsed
both K y = after y none (λ U q. some (ma K U) q)

abbrev more : Ty → ParsedAll → ParsedAll
more X y = afters y nones (λ Xs q. somes (X then Xs) q)

-- what a list, a map, a struct and its fields are made of
abbrev pub ListLaw : List ℕ → ℕ → ℕ → Type 0
ListLaw s at d = ListAt s at d (at + 2)

abbrev pub MapLaw : List ℕ → ℕ → ℕ → Type 0
MapLaw s at d = MapAt s at d (at + 2) (next_at s (at + 2) (d - 1))

abbrev pub StructLaw : List ℕ → ℕ → ℕ → ℕ → Type 0
StructLaw s at d n = StructAt s at d (at + 3) n

pub record FieldsLaw (s : List ℕ) (at d n : ℕ) : Type 0 where
  pub whole : types_at s at d n ≡ type_at s at d then types_at s (next_at s at d) d (n - 1)
  pub first : Typed s at d
  pub others : TypedAll s (next_at s at d) d (n - 1)

module _ (s : List ℕ) (at d : ℕ) (h : Typed s at d) where
  pub typed-deep : 0 < d
  unfolding Typed parse_type
  typed-deep = go d h
    where
      go : (d : ℕ) → T (good (parse_type d (drop at s))) → 0 < d
      go zero k = absurd k
      go (suc d) k = omega arith

  -- the mark that stands there is the type's
  pub typed-kind : kind_at s at ≡ kind_ty (type_at s at d)
  unfolding Typed type_at kind_at
  typed-kind = go (parse_type d (drop at s)) (sound d (drop at s)) h
    where
      go : (x : Parsed) → Sound d (drop at s) x → T (good x) → head_kind (drop at s) ≡ kind_ty (ty x)
      go none k g = absurd g
      go (some X r) k g = ap head_kind k.form ∙ schema-kind X r

  -- the type ends within the list
  pub typed-room : next_at s at d ≤ length s
  unfolding Typed type_at next_at
  typed-room = go (parse_type d (drop at s)) (left s at d) h
    where
      go : (x : Parsed) → Left s at x → T (good x) → at + size (ty x) ≤ length s
      go none k g = absurd g
      go (some X r) k g = k.room

  pub typed-li : kind_at s at ≡ list_kind → ListLaw s at d
  unfolding Typed type_at
  typed-li e =
      let g = go (parse_type (d - 1) (drop (at + 2) s)) (subst (λ (x : Parsed). T (good x)) (step-li s at d typed-deep e) h) in
      record { whole = rw (step-li s at d typed-deep e) g.0; deep = typed-deep; element = g.1 }
    where
      go : (x : Parsed) → T (good (after x none (λ X r. some (li X) r))) → (ty (after x none (λ X r. some (li X) r)) ≡ li (ty x)) × T (good x)
      go none g = absurd g
      go (some X r) g = (refl, tt)

  pub typed-ma : kind_at s at ≡ map_kind → MapLaw s at d
  unfolding Typed type_at next_at
  typed-ma e =
      let g = go (parse_type (d - 1) (drop (at + 2) s)) (left s (at + 2) (d - 1)) (subst (λ (x : Parsed). T (good x)) (step-ma s at d typed-deep e) h) in
      record { whole = rw (step-ma s at d typed-deep e) g.0; deep = typed-deep; keys = g.1; values = g.2 }
    where
      two : (K : Ty) (y : Parsed) → T (good (both K y)) → (ty (both K y) ≡ ma K (ty y)) × T (good y)
      two K none g = absurd g
      two K (some U q) g = (refl, tt)

      go : (x : Parsed) → Left s (at + 2) x → T (good (after x none (λ K r. both K (parse_type (d - 1) r))))
          → (ty (after x none (λ K r. both K (parse_type (d - 1) r))) ≡ ma (ty x) (ty (parse_type (d - 1) (drop (at + 2 + size (ty x)) s))))
          × T (good x) × T (good (parse_type (d - 1) (drop (at + 2 + size (ty x)) s)))
      go none l g = absurd g
      go (some K r) l g =
          let t = two K (parse_type (d - 1) r) g in
          rw (← l.form) (t.0, tt, t.1)

  -- of a struct, n is the byte after the mark
  pub typed-ro : kind_at s at ≡ struct_kind → (n : ℕ) → n ≡ get_or s (at + 2) 0 → StructLaw s at d n
  unfolding Typed type_at TypedAll types_at parse_ro
  typed-ro e n c =
      let p : parse_type d (drop at s) ≡ parse_ro (parse_type (d - 1)) n (drop (at + 3) s) = step-ro s at d typed-deep e ∙ rw (← c) in
      let g = go (leb 1 n) (leb n 128) refl refl (parse_all (parse_type (d - 1)) n (drop (at + 3) s)) (subst (λ (x : Parsed). T (good x)) p h) in
      record { whole = rw p g.0; deep = typed-deep; fields = g.1; low = g.2; high = g.3 }
    where
      go : (t u : Bool) → leb 1 n ≡ t → leb n 128 ≡ u → (x : ParsedAll)
          → T (good (pick t (pick u (afters x none (λ Xs r. some (ro Xs) r)) none) none))
          → (ty (pick t (pick u (afters x none (λ Xs r. some (ro Xs) r)) none) none) ≡ ro (tys x)) × T (goods x) × (1 ≤ n) × (n ≤ 128)
      go false u i j x g = absurd g
      go true false i j x g = absurd g
      go true true i j nones g = absurd g
      go true true i j (somes Xs r) g = (refl, tt, leb-true _ _ i, leb-true _ _ j)

-- fields, one after the other
module _ (s : List ℕ) (at d n : ℕ) (h : TypedAll s at d n) where
  pub typed-more : 0 < n → FieldsLaw s at d n
  unfolding Typed type_at TypedAll types_at next_at
  typed-more k =
      let p = all_more s at d n k in
      let g = go (parse_type d (drop at s)) (left s at d) (subst (λ (x : ParsedAll). T (goods x)) p h) in
      record { whole = rw p g.0; first = g.1; others = g.2 }
    where
      two : (X : Ty) (y : ParsedAll) → T (goods (more X y)) → (tys (more X y) ≡ X then tys y) × T (goods y)
      two X nones g = absurd g
      two X (somes Xs q) g = (refl, tt)

      go : (x : Parsed) → Left s at x → T (goods (after x nones (λ X r. more X (parse_all (parse_type d) (n - 1) r))))
          → (tys (after x nones (λ X r. more X (parse_all (parse_type d) (n - 1) r)))
          ≡ ty x then tys (parse_all (parse_type d) (n - 1) (drop (at + size (ty x)) s)))
          × T (good x) × T (goods (parse_all (parse_type d) (n - 1) (drop (at + size (ty x)) s)))
      go none l g = absurd g
      go (some X r) l g =
          let t = two X (parse_all (parse_type d) (n - 1) r) g in
          rw (← l.form) (t.0, tt, t.1)

  pub typed-done : n ≡ 0 → types_at s at d n ≡ end
  unfolding types_at
  typed-done e = rw (e, all_none s at d)

  pub typed-count : count (types_at s at d n) ≡ n
  unfolding TypedAll types_at
  typed-count = go (parse_all (parse_type d) n (drop at s)) (all_sound d (parse_type d) (sound d) n (drop at s)) h
    where
      go : (x : ParsedAll) → SoundAll d n (drop at s) x → T (goods x) → count (tys x) ≡ n
      go nones k g = absurd g
      go (somes Xs r) k g = k.many

pub next-is : (s : List ℕ) (at d : ℕ) → next_at s at d ≡ at + size (type_at s at d)
unfolding next_at
next-is s at d = refl

-- a type that stands at a position stands there at every greater depth, and is the same
pub record Deeper (s : List ℕ) (at d e : ℕ) : Type 0 where
  pub typed : Typed s at e
  pub same : type_at s at e ≡ type_at s at d

pub typed-deeper : (s : List ℕ) (at d e : ℕ) → Typed s at d → d ≤ e → Deeper s at d e
unfolding Typed type_at
typed-deeper s at d e h l =
    let g = go (parse_type d (drop at s)) (sound d (drop at s)) h in
    record { typed = g.0; same = g.1 }
  where
    go : (x : Parsed) → Sound d (drop at s) x → T (good x) → T (good (parse_type e (drop at s))) × (ty (parse_type e (drop at s)) ≡ ty x)
    go none k g = absurd g
    go (some X r) k g =
        let p : parse_type e (drop at s) ≡ some X r = ap (parse_type e) k.form ∙ complete X e r k.right (omega arith) in
        (subst (λ (x : Parsed). T (good x)) (sym p) tt, ap ty p)

-- fields by number: the i-th stands at `field_at`, and is the i-th of the struct's types
pub record FieldLaw (s : List ℕ) (i at d n : ℕ) : Type 0 where
  pub typed : Typed s (field_at s at d i) d
  pub same : type_at s (field_at s at d i) d ≡ field (types_at s at d n) i

pub field-typed : (s : List ℕ) (i at d n : ℕ) → TypedAll s at d n → i < n → FieldLaw s i at d n
unfolding field_at field
field-typed s zero at d n h l =
    let f = typed-more s at d n h (omega arith) in
    record { typed = f.first; same = sym (ap (λ ts. field ts 0) f.whole) }
field-typed s (suc i) at d n h l =
    let f = typed-more s at d n h (omega arith) in
    let r = field-typed s i (next_at s at d) d (n - 1) f.others (omega arith) in
    record { typed = r.typed; same = r.same ∙ sym (ap (λ ts. field ts (suc i)) f.whole) }

-- one field on
pub record FieldStep (s : List ℕ) (at d i : ℕ) : Type 0 where
  pub here : Typed s at d
  pub on : HasField s (next_at s at d) d (i - 1)
  pub same : field_at s at d i ≡ field_at s (next_at s at d) d (i - 1)

field_step : (s : List ℕ) (at d i : ℕ) → HasField s at d i → 0 < i → FieldStep s at d i
unfolding field_at
field_step s at d zero h l = absurd (omega arith)
field_step s at d (suc i) h l =
    let f = typed-more s at d h.n h.fields (omega arith) in
    let e : suc i - 1 ≡ i = omega arith in
    record { here = f.first; on = record { n = h.n - 1; fields = f.others; within = omega arith }; same = rw e }

pub field-here : (s : List ℕ) (at d i : ℕ) → i ≡ 0 → field_at s at d i ≡ at
unfolding field_at
field-here s at d i e = rw e

-- on the way to field i from the first, j fields on: the invariant of a walk over fields, with its start, its step and its end
pub record OnWay (s : List ℕ) (first d i at j : ℕ) : Type 0 where
  pub most : j ≤ i
  pub has : HasField s at d (i - j)
  pub same : field_at s first d i ≡ field_at s at d (i - j)

module _ (s : List ℕ) (first d i : ℕ) where
  pub way-start : HasField s first d i → OnWay s first d i first 0
  way-start h = let e : i - 0 ≡ i = omega arith in record { most = omega arith; has = rw e h; same = rw e }

  module _ (at j : ℕ) (w : OnWay s first d i at j) where
    pub way-typed : j < i → Typed s at d
    way-typed l = (field_step s at d (i - j) w.has (omega arith)).here

    pub way_step : (x : ℕ) → x ≡ next_at s at d → j < i → OnWay s first d i x (j + 1)
    way_step x p l =
        let f = field_step s at d (i - j) w.has (omega arith) in
        let e : i - (j + 1) ≡ i - j - 1 = omega arith in
        record { most = omega arith; has = rw (e, p) f.on; same = w.same ∙ rw (e, p) f.same }

    pub way_end : i ≤ j → at ≡ field_at s first d i
    way_end l = sym (w.same ∙ field-here s at d (i - j) (omega arith))
