-- Values and the data that they make up: placed one after another they are their joined bytes, and stand there; and an order of their
-- ranges, or of their bytes, is an order of the values. Assumes nothing.
use mathlib.Core.Path.{◌≡◌, refl, sym, ap, ◌∙◌, subst}
use mathlib.Core.List.{List, [], ◌∷◌, ◌++◌, append_assoc, map}
use Prim.Native.Nat.{ℕ, suc, ◌+◌, ◌-◌, ◌≤◌}
use native.Mathlib.Omega.{arith}
use lib.ListN.{length, drop, length-append}
use lib.Seq.{drop_at, drop-drop, drop-length}
use Rattle.words.specs.Bytes.{pad, padded}
use Rattle.words.proofs.Numbers.{length-padded}
use Rattle.layout.specs.Tiles.{Range, range}
use Rattle.layout.specs.Orders.{Insert, here, there, Order, nothing, put, put_at, which, Value, owns, OneAfterAnother, joined}
use Rattle.layout.proofs.Orders.{Row, Eights}

-- ---- ranges of values

abbrev pub range_of : Value → Range
range_of v = range v.start (pad (length v.own))

abbrev pub ranges : List Value → List Range
ranges = map range_of

pub ranges-eights : (vs : List Value) → Eights (ranges vs)
ranges-eights [] = tt
ranges-eights (v ∷ vs) = (omega arith, ranges-eights vs)

-- ---- orders

module _ {A B : Type 0} (f : A → B) where
  insert-map : {x : A} {ys zs : List A} → Insert x ys zs → Insert (f x) (map f ys) (map f zs)
  insert-map here = here
  insert-map (there i) = there (insert-map i)

  pub order-map : {xs ys : List A} → Order xs ys → Order (map f xs) (map f ys)
  order-map nothing = nothing
  order-map (put o i) = put (order-map o) (insert-map i)

  -- an order of the images is one of the things
  pub record From (xs : List A) (qs : List B) : Type 0 where
    pub things : List A
    pub order : Order xs things
    pub are : map f things ≡ qs

  record Inserted (x : A) (ys : List A) (qs : List B) : Type 0 where
    things : List A
    insert : Insert x ys things
    are : map f things ≡ qs

  insert-from : (x : A) (ys : List A) {ps qs : List B} → Insert (f x) ps qs → map f ys ≡ ps → Inserted x ys qs
  insert-from x ys here e = record { things = x ∷ ys; insert = here; are = ap (λ (l : List B). f x ∷ l) e }
  insert-from x [] (there i) e = absurd (omega (arith, ap length e))
  insert-from x (y ∷ ys) (there i) e =
      let r = insert-from x ys i cc in
      let q = r.are in
      record { things = y ∷ r.things; insert = there r.insert; are = cc }

  pub order_from : (xs : List A) {ps qs : List B} → Order ps qs → map f xs ≡ ps → From xs qs
  order_from [] nothing e = record { things = []; order = nothing; are = refl }
  order_from (x ∷ xs) nothing e = absurd (omega (arith, ap length e))
  order_from [] (put o i) e = absurd (omega (arith, ap length e))
  order_from (x ∷ xs) (put {x = p} {ys = ps} {zs = qs} o i) e =
      let r = order_from xs o cc in
      let z : p ≡ f x = cc in
      let n = insert-from x r.things (subst (λ (q : B). Insert q ps qs) z i) r.are in
      record { things = n.things; order = put r.order n.insert; are = n.are }

  -- and where the images in the order are those of things, so are the images that were put in order
  pub record To {ps qs : List B} (o : Order ps qs) (ys : List A) : Type 0 where
    pub things : List A
    pub order : Order things ys
    pub are : map f things ≡ ps
    pub same : which order ≡ which o

  record Taken {p : B} {ps qs : List B} (i : Insert p ps qs) (zs : List A) : Type 0 where
    thing : A
    things : List A
    insert : Insert thing things zs
    is : f thing ≡ p
    are : map f things ≡ ps
    place : put_at insert ≡ put_at i

  take_out : {p : B} {ps qs : List B} (zs : List A) (i : Insert p ps qs) → map f zs ≡ qs → Taken i zs
  unfolding put_at
  take_out [] here e = absurd (omega (arith, ap length e))
  take_out (z ∷ zs) here e = record { thing = z; things = zs; insert = here; is = cc; are = cc; place = refl }
  take_out [] (there i) e = absurd (omega (arith, ap length e))
  take_out (z ∷ zs) (there {ys = ys} i) e =
      let r = take_out {ps = ys} zs i cc in
      let q = r.are in
      record { thing = r.thing; things = z ∷ r.things; insert = there r.insert; is = r.is; are = cc; place = ap suc r.place }

  pub order-to : {ps qs : List B} (ys : List A) (o : Order ps qs) → map f ys ≡ qs → To o ys
  unfolding which
  order-to [] nothing e = record { things = []; order = nothing; are = refl; same = refl }
  order-to (y ∷ ys) nothing e = absurd (omega (arith, ap length e))
  order-to ys (put o i) e =
      let r = take_out ys i e in
      let t = order-to r.things o r.are in
      let p = r.is in
      let q = t.are in
      let l = r.place in
      let m = t.same in
      record { things = r.thing ∷ t.things; order = put t.order r.insert; are = cc; same = cc }

-- ---- what holds of each of them, in any order

abbrev pub All : {A : Type 0} → (A → Type 0) → List A → Type 0
All P [] = Unit {0}
All P (x ∷ xs) = P x × All P xs

module _ {A : Type 0} (P : A → Type 0) where
  insert_all : {x : A} {ys zs : List A} → Insert x ys zs → P x → All P ys → All P zs
  insert_all here p a = (p, a)
  insert_all (there i) p a = (a.0, insert_all i p a.1)

  pub order-all : {xs ys : List A} → Order xs ys → All P xs → All P ys
  order-all nothing a = tt
  order-all (put o i) a = insert_all i a.0 (order-all o a.1)

  all_insert : {x : A} {ys zs : List A} → Insert x ys zs → All P zs → P x × All P ys
  all_insert here a = a
  all_insert (there i) a = let r = all_insert i a.1 in (r.0, (a.0, r.1))

  pub all-order : {xs ys : List A} → Order xs ys → All P ys → All P xs
  all-order nothing a = tt
  all-order (put o i) a = let r = all_insert i a in (r.0, all-order o r.1)

-- ---- the data that values make up

-- the value stands in the data d, padded, which starts at a byte of the container
pub record There (at : ℕ) (d : List ℕ) (v : Value) : Type 0 where
  pub behind : List ℕ
  pub is : padded v.own ++ behind ≡ drop (v.start - at) d

pub row-values : (at : ℕ) (vs : List Value) {stop : ℕ} → Row at (ranges vs) stop → OneAfterAnother at vs × (at + length (joined vs) ≡ stop)
unfolding Row OneAfterAnother joined
row-values at [] r = (tt, omega (arith, r))
row-values at (v ∷ vs) r =
    let t = row-values (at + pad (length v.own)) vs r.1 in
    ((r.0, t.0), rw (length-append, length-padded v.own) (omega (arith, t.1)))

pub values-row : (at : ℕ) (vs : List Value) → OneAfterAnother at vs → Row at (ranges vs) (at + length (joined vs))
unfolding Row OneAfterAnother joined
values-row at [] r = omega arith
values-row at (v ∷ vs) r =
    let e : at + length (padded v.own ++ joined vs) ≡ at + pad (length v.own) + length (joined vs) = rw (length-append, length-padded v.own)
    (omega arith) in
    (r.0, subst (λ (stop : ℕ). Row (at + pad (length v.own)) (ranges vs) stop) (sym e) (values-row (at + pad (length v.own)) vs r.1))

-- data in which they stand one after another to its end is their joined bytes
pub data-joined : (at x : ℕ) (d : List ℕ) (vs : List Value) → at ≤ x → OneAfterAnother x vs → All (There at d) vs → x + length (joined vs) ≡ at + length d
    → drop (x - at) d ≡ joined vs
unfolding OneAfterAnother joined
data-joined at x d [] l r a e = let n : x - at ≡ length d = omega arith in rw n (drop-length d)
data-joined at x d (v ∷ vs) l r a e =
    let u = padded v.own in
    let n = length-padded v.own in
    let t = a.0 in
    let s : v.start - at ≡ x - at = omega (arith, r.0) in
    let k : x - at + length u ≡ x + pad (length v.own) - at = omega arith in
    let rest = data-joined at (x + pad (length v.own)) d vs (omega arith) r.1 a.1 (omega (arith, length-append u (joined vs), e)) in
    let z : t.behind ≡ joined vs = sym (drop_at u t.behind (length u) refl) ∙ ap (drop (length u)) (t.is ∙ ap (λ (j : ℕ). drop j d) s)
    ∙ drop-drop (length u) (x - at) d ∙ ap (λ (j : ℕ). drop j d) (k) ∙ rest in
    sym (t.is ∙ ap (λ (j : ℕ). drop j d) s) ∙ ap (λ (y : List ℕ). u ++ y) z

-- and in their joined bytes, behind what stands before them, they stand
pub joined-there : (at : ℕ) (pre : List ℕ) (vs : List Value) → OneAfterAnother (at + length pre) vs → All (There at (pre ++ joined vs)) vs
unfolding OneAfterAnother joined
joined-there at pre [] r = tt
joined-there at pre (v ∷ vs) r =
    let u = padded v.own in
    let n = length-padded v.own in
    let s : v.start - at ≡ length pre = omega (arith, r.0) in
    let k : at + length pre + pad (length v.own) ≡ at + length (pre ++ u) = rw length-append (omega arith) in
    let t = joined-there at (pre ++ u) vs (subst (λ (j : ℕ). OneAfterAnother j vs) k r.1) in (
      record { behind = joined vs; is = rw s (sym (drop_at pre (u ++ joined vs) (length pre) refl)) },
      subst (λ (d : List ℕ). All (There at d) vs) (append_assoc pre u (joined vs)) t,
    )

-- values with these bytes, placed one after another
unfoldable pub placing : ℕ → List (List ℕ) → List Value
placing at [] = []
placing at (u ∷ us) = record { start = at; own = u } ∷ placing (at + pad (length u)) us

pub placing-own : (at : ℕ) (us : List (List ℕ)) → owns (placing at us) ≡ us
unfolding placing
placing-own at [] = refl
placing-own at (u ∷ us) = ap (λ (l : List (List ℕ)). u ∷ l) (placing-own (at + pad (length u)) us)

pub placing-row : (at : ℕ) (us : List (List ℕ)) → OneAfterAnother at (placing at us)
unfolding placing OneAfterAnother
placing-row at [] = tt
placing-row at (u ∷ us) = (refl, placing-row (at + pad (length u)) us)
