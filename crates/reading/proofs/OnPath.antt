-- A path walked a step at a time, by the schema alone and in the row: what is left of it leads to the same end. Assumes nothing.
use mathlib.Core.Path.{◌≡◌, refl, sym, ap, ◌∙◌}
use mathlib.Core.Bool.{Bool, true, false, not}
use mathlib.Core.Option.{Option, none, some}
use mathlib.Core.List.{List, [], ◌∷◌}
use Prim.Native.Nat.{ℕ, zero, suc, ◌+◌, ◌≤◌, ◌<◌}
use native.Mathlib.Numerals.{add-one}
use native.Mathlib.Omega.{arith}
use native.Mathlib.Decide.{dec_le, dec_lt}
use lib.ListN.{length, drop, get_or, drop_of_length-le}
use lib.Seq.{drop-cons}
use borrow.Author.Tests.{not-true, not-false}
use mir.Syntax.{w64}
use mir.Val.{Fits}
use Rattle.words.proofs.Parts.{part-whole}
use Rattle.schema.specs.Types.{Ty, fix, text, li, ma, ro, count, field}
use Rattle.layout.specs.Reader.{◌>>◌, assert}
use Rattle.layout.specs.Refusals.{Refusal, numbered, broken_at}
use Rattle.layout.specs.Walk as W
use Rattle.layout.specs.Walk.{Seen, bad, seen, stop, into, own, step_in, go_on, walk}
use Rattle.layout.specs.Reading.{type_along as type_on, placed}
use Rattle.layout.specs.Setting.{is_some}
use Rattle.layout.proofs.Reader.{assert-yes, assert-no}
use Rattle.answers.specs.declared.Path.{Path}
use Rattle.answers.specs.Paths.{path_of}
use Rattle.answers.proofs.PathLaws.{length-path, path-at}
use Rattle.reading.specs.Children.{seat_as}
use Rattle.reading.specs.Opening.{open_ty, OpenIs, Opens, Lots}
use Rattle.reading.specs.Places.{holds_of, broken_in, place_ty, bytes_of, Rests, PlaceHolds, Breaks, NullIn, next_as, Steps}
use Rattle.reading.specs.Finding.{found_as, FoundTells, FoundLands, Open, Asked, Asks, is_on, or_no_place, seen_in, Goes, root_ty, Finds}
use Rattle.reading.specs.declared.TypeParts.{TypeParts}
use Rattle.reading.specs.declared.Seat.{Seat}
use Rattle.reading.specs.declared.Place.{Place}
use Rattle.std.specs.Prelude as P
use Rattle.std.specs.Prelude.{Some, None}
use Rattle.std.specs.Prelude.{Result, Ok, Err}
use Rattle.answers.specs.declared.Refusal.{Refusal as Answered}
use Rattle.answers.specs.declared.Refusal.TheVariants as F
use Rattle.answers.specs.Meaning.{refusal_means}
use Rattle.reading.specs.declared.Found.{Found}
use Rattle.reading.specs.declared.Found.TheVariants.{Null, At}
use Rattle.reading.proofs.Opening.{root-type}
use Rattle.reading.proofs.Rules.{own_is}
use Rattle.reading.proofs.Moving.{holder}

-- ---- one step more, by the schema

-- the type of step i, and the rest of the path from there
type-on : (t u : Ty) (i : ℕ) (p : List ℕ) → some u ≡ type_on (i ∷ []) t → type_on (i ∷ p) t ≡ type_on p u
unfolding type_on assert
type-on (fix f) u i p e = let z : ◌≡◌ {A = ℕ} 0 1 = cc in absurd (omega arith)
type-on (text f) u i p e = let z : ◌≡◌ {A = ℕ} 0 1 = cc in absurd (omega arith)
type-on (li t) u i p e = let z : u ≡ t = cc in rw z
type-on (ma k v) u zero p e = let z : u ≡ li k = cc in rw z
type-on (ma k v) u (suc zero) p e = let z : u ≡ li v = cc in rw z
type-on (ma k v) u (suc (suc i)) p e = let z : ◌≡◌ {A = ℕ} 0 1 = cc in absurd (omega arith)
type-on (ro ts) u i p e = go (dec_lt i (count ts)) e
  where
    go : (q : Dec (i < count ts)) → some u ≡ (assert q >> some (field ts i)) → (assert q >> type_on p (field ts i)) ≡ type_on p u
    go (yes h) e = let z : u ≡ field ts i = cc in rw z
    go (no h) e = let z : ◌≡◌ {A = ℕ} 0 1 = cc in absurd (omega arith)

type-off : (t : Ty) (i : ℕ) (p : List ℕ) → none ≡ type_on (i ∷ []) t → type_on (i ∷ p) t ≡ none
unfolding type_on assert
type-off (fix f) i p e = refl
type-off (text f) i p e = refl
type-off (li t) i p e = let z : ◌≡◌ {A = ℕ} 0 1 = cc in absurd (omega arith)
type-off (ma k v) zero p e = let z : ◌≡◌ {A = ℕ} 0 1 = cc in absurd (omega arith)
type-off (ma k v) (suc zero) p e = let z : ◌≡◌ {A = ℕ} 0 1 = cc in absurd (omega arith)
type-off (ma k v) (suc (suc i)) p e = refl
type-off (ro ts) i p e = go (dec_lt i (count ts)) e
  where
    go : (q : Dec (i < count ts)) → none ≡ (assert q >> some (field ts i)) → (assert q >> type_on p (field ts i)) ≡ none
    go (yes h) e = let z : ◌≡◌ {A = ℕ} 0 1 = cc in absurd (omega arith)
    go (no h) e = refl

-- ---- the path's steps

module _ (path : Path) (k : ℕ) where
  step-on : k < path.len → (i : ℕ) → i ≡ get_or path.steps k 0 → drop k (path_of path) ≡ i ∷ drop (suc k) (path_of path)
  step-on h i q = drop-cons (path_of path) k 0 (rw (length-path path) h) ∙ rw (path-at path k h, ← q)

  step_end : path.len ≤ k → drop k (path_of path) ≡ []
  step_end h = drop_of_length-le (path_of path) {i = k} (rw (length-path path) h)

-- ---- the walk by the schema: the invariant, its start, its step and its end

pub record OnKin (t : List ℕ) (path : Path) (from : TypeParts) (done : ℕ) (x : TypeParts) (k : ℕ) : Type 0 where
  pub few : path.len ≤ 16
  pub is : OpenIs t x
  pub same : type_on (drop done (path_of path)) (open_ty t from) ≡ type_on (drop k (path_of path)) (open_ty t x)

pub kin-start : {t : List ℕ} {path : Path} {from : TypeParts} → Asked t from path → (done : ℕ) → OnKin t path from done from done
kin-start A done = record { few = A.few; is = A.is; same = refl }

module _ {t : List ℕ} {path : Path} {from : TypeParts} {done : ℕ} {x : TypeParts} {k : ℕ} (O : OnKin t path from done x k) where
  pub kin-end : path.len ≤ k → true ≡ is_on t from path done
  unfolding type_on
  kin-end h = rw (O.same, step_end path k h)

  module _ (h : k < path.len) where
    pub kin-fits : Fits w64 (k + 1)
    kin-fits = omega (arith, O.few)

    module _ {i : ℕ} (q : i ≡ get_or path.steps k 0) {r : P.Option TypeParts} (l : Lots t r (type_on (i ∷ []) (open_ty t x))) where
      pub kin-off : r ≡ None → false ≡ is_on t from path done
      kin-off u =
          let n = type-off (open_ty t x) i _ (rw u at l.means) in
          let z : type_on (drop done (path_of path)) (open_ty t from) ≡ none = O.same ∙ rw (step-on path k h i q) n in
          rw z

      pub kin-on : {y : TypeParts} → r ≡ Some y → OnKin t path from done y (k + 1)
      kin-on {y} u = record {
        few = O.few;
        is = rw u at l.is;
        same = O.same ∙ rw (step-on path k h i q, add-one) (type-on (open_ty t x) (open_ty t y) i _ (rw u at l.means));
      }

module _ {b q : Bool} (f : Answered) (e : b ≡ q) where
  pub or-found : b ≡ true → f ≡ or_no_place q f
  or-found h = rw (sym e ∙ h)

  pub or-none : b ≡ false → F.NoPlace ≡ or_no_place q f
  or-none h = rw (sym e ∙ h)

-- ---- the walk in the row

own-yes : (t : Ty) (z : W.Seat) (o : ℕ) (b : List ℕ) (s : Seen) → holds_of t b ≡ true → own t z o b s ≡ s
own-yes t z o b s e = own_is t z o b s ∙ rw e

own-no : (t : Ty) (z : W.Seat) (o : ℕ) (b : List ℕ) (s : Seen) → holds_of t b ≡ false → own t z o b s ≡ bad (broken_at (broken_in t z o b))
own-no t z o b s e = own_is t z o b s ∙ rw e

walk_no : (p : List ℕ) (t : Ty) (z : W.Seat) (o : ℕ) (b : List ℕ) → holds_of t b ≡ false → walk p t z o b ≡ bad (broken_at (broken_in t z o b))
unfolding walk
walk_no [] t z o b e = own-no t z o b _ e
walk_no (i ∷ p) t z o b e = own-no t z o b _ e

walk_end : (t : Ty) (z : W.Seat) (o : ℕ) (b : List ℕ) → holds_of t b ≡ true → walk [] t z o b ≡ seen z o b
unfolding walk
walk_end t z o b e = own-yes t z o b _ e

abbrev onward : List ℕ → W.Step → Seen
onward p z = go_on p (λ t s o b. walk p t s o b) z

walk-on : (i : ℕ) (p : List ℕ) (t : Ty) (z : W.Seat) (o : ℕ) (b : List ℕ) → holds_of t b ≡ true → walk (i ∷ p) t z o b ≡ onward p (step_in t i z o b)
unfolding walk
walk-on i p t z o b e = own-yes t z o b _ e

on-stop : (p : List ℕ) (n : Refusal) → onward p (stop n) ≡ bad n
unfolding go_on
on-stop [] n = refl
on-stop (i ∷ p) n = refl

on-into : (p : List ℕ) (t : Ty) (z : W.Seat) (o : ℕ) (b : List ℕ) → onward p (into t z o b) ≡ walk p t z o b
unfolding go_on
on-into [] t z o b = refl
on-into (i ∷ p) t z o b = refl

-- the path's walk from a place, as the layout has it
abbrev walked : List ℕ → List ℕ → Place → List ℕ → Seen
walked t row p path = walk path (place_ty t p) (seat_as p.seat) p.start (bytes_of row p)

pub record OnWalk (t row : List ℕ) (path : Path) (from at : Place) (k : ℕ) : Type 0 where
  pub few : path.len ≤ 16
  pub most : k ≤ path.len
  pub rests : Rests t row at
  pub same : walked t row from (path_of path) ≡ walked t row at (drop k (path_of path))
  pub kin : type_on (path_of path) (place_ty t from) ≡ type_on (drop k (path_of path)) (place_ty t at)

-- at a step: the place's own rules hold, and the path goes on
pub record OnStep (t row : List ℕ) (path : Path) (from at : Place) (k : ℕ) : Type 0 where
  pub walk : OnWalk t row path from at k
  pub stands : PlaceHolds t row at
  pub more : k < path.len

pub walk_start : {t row : List ℕ} {path : Path} {from : Place} → Asks t row from path → OnWalk t row path from from 0
walk_start A = record { few = A.few; most = omega arith; rests = A.rests; same = refl; kin = refl }

-- what the row shows, and before it what the schema alone does
refused-goes : {t row : List ℕ} {from : Place} (p : List ℕ) (o : Option Ty) → type_on p (place_ty t from) ≡ o → (f : Answered)
    → bad (refusal_means f) ≡ walked t row from p → Goes t row from p (Err (or_no_place (is_some o) f))
unfolding found_as
refused-goes p none e f m = record { means = rw e; tells = tt; lands = tt }
refused-goes p (some y) e f m = record { means = rw e m; tells = tt; lands = tt }

some-seen : {o : Option Ty} {y : Ty} → o ≡ some y → (w : Seen) → w ≡ seen_in o w
some-seen e w = rw e

five-seen : (o : Option Ty) → bad (numbered 5) ≡ seen_in o (bad (numbered 5))
five-seen none = refl
five-seen (some y) = refl

module _ {t row : List ℕ} {path : Path} {from at : Place} {k : ℕ} (O : OnWalk t row path from at k) where
  pub walk-asked : Asked t at.opened path
  walk-asked = record { is = O.rests.is; few = O.few }

  -- f, or what the schema alone shows
  refused : {r : Answered} (f : Answered) → r ≡ or_no_place (is_on t at.opened path k) f → bad (refusal_means f) ≡ walked t row from (path_of path)
      → Goes t row from (path_of path) (Err r)
  refused f e m = rw (e, ← O.kin) (refused-goes (path_of path) (type_on (path_of path) (place_ty t from)) refl f m)

  pub walk-fails : {b : Bool} → b ≡ holds_of (place_ty t at) (bytes_of row at) → not b ≡ true → {q : ℕ} → Breaks at q
      → {r : Answered} → r ≡ or_no_place (is_on t at.opened path k) (F.Layout q) → Goes t row from (path_of path) (Err r)
  unfolding found_as
  walk-fails g h u e =
      let w = walk_no (drop k (path_of path)) _ _ _ _ (sym g ∙ not-true _ h) in
      refused _ e (ap (λ (n : ℕ). bad (broken_at n)) (u t row O.rests) ∙ sym (O.same ∙ w))

  module _ {b : Bool} (g : b ≡ holds_of (place_ty t at) (bytes_of row at)) (h : not b ≡ false) where
    stands : PlaceHolds t row at
    stands = record { rests = O.rests; holds = sym g ∙ not-false _ h }

    pub walk-done : path.len ≤ k → Goes t row from (path_of path) (Ok (At at))
    unfolding found_as type_on
    walk-done n =
        let y : type_on (path_of path) (place_ty t from) ≡ some (place_ty t at) = O.kin ∙ rw (step_end path k n) in
        record {
          means = sym (O.same ∙ rw (step_end path k n) (walk_end _ _ _ _ stands.holds)) ∙ some-seen y _;
          tells = sym y;
          lands = stands;
        }

    pub at-step : k < path.len → OnStep t row path from at k
    at-step n = record { walk = O; stands = stands; more = n }

module _ {t row : List ℕ} {path : Path} {from at : Place} {k : ℕ} (S : OnStep t row path from at k) where
  pub step_fits : Fits w64 (k + 1)
  step_fits = omega (arith, S.walk.few, S.more)

  module _ {i : ℕ} (q : i ≡ get_or path.steps k 0) {r : Result Found Answered} (m : Steps t row at i r) where
    goes : walked t row from (path_of path) ≡ onward (drop (suc k) (path_of path)) (next_as t row r)
    goes = S.walk.same ∙ rw (step-on path k S.more i q, m.means) (walk-on i _ _ _ _ _ S.stands.holds)

    pub walk-nowhere : r ≡ Err F.NoPlace → Goes t row from (path_of path) (Err F.NoPlace)
    unfolding found_as next_as
    walk-nowhere u =
        let w : walked t row from (path_of path) ≡ bad (numbered 5) = goes ∙ rw u (on-stop _ (numbered 5)) in
        record { means = rw w (five-seen (type_on (path_of path) (place_ty t from))); tells = tt; lands = tt }

    pub walk-stops : {j : Answered} → r ≡ Err j → {f : Answered} → f ≡ or_no_place (is_on t at.opened path k) j → Goes t row from (path_of path) (Err f)
    unfolding found_as next_as
    walk-stops {j} u e = refused S.walk _ e (sym (goes ∙ rw u (on-stop _ (refusal_means j))))

    module _ {x : TypeParts} {z : Seat} (u : r ≡ Ok (Null x z)) where
      null-in : NullIn t row x z
      null-in = rw u at m.lands

      null-tells : some (open_ty t x) ≡ type_on (i ∷ []) (place_ty t at)
      null-tells = rw u at m.tells

      pub walk-null : k + 1 ≡ path.len → Goes t row from (path_of path) (Ok (Null x z))
      unfolding found_as next_as go_on
      walk-null v =
          let l : path.len ≤ suc k = omega arith in
          let y : type_on (path_of path) (place_ty t from) ≡ some (open_ty t x) =
          S.walk.kin ∙ rw (step-on path k S.more i q, step_end path (suc k) l) (sym null-tells) in
          record { means = sym (goes ∙ rw (u, step_end path (suc k) l)) ∙ some-seen y _; tells = sym y; lands = null-in }

      pub walk-under : (k + 1 ≡ path.len → ⊥) → {f : Answered} → f ≡ or_no_place (is_on t at.opened path k) F.NullBefore → Goes t row from (path_of path) (Err f)
      unfolding found_as next_as go_on
      walk-under v e =
          let l : suc k < path.len = omega (arith, S.more) in
          refused S.walk _ e (sym (goes ∙ rw (u, step-on path (suc k) l (get_or path.steps (suc k) 0) refl)))

    pub walk-to : {p : Place} → r ≡ Ok (At p) → OnWalk t row path from p (k + 1)
    unfolding next_as
    walk-to u = record {
      few = S.walk.few;
      most = omega (arith, S.more);
      rests = rw u at m.lands;
      same = goes ∙ rw (u, add-one) (on-into _ _ _ _ _);
      kin = S.walk.kin ∙ rw (step-on path k S.more i q, add-one) (type-on _ _ i _ (rw u at m.tells));
    }

-- ---- from the root

pub find-long : (t row : List ℕ) (path : Path) → 16 < path.len → Finds t row (path_of path) (Err F.NoPlace)
unfolding found_as placed
find-long t row path h =
    record { means = rw (assert-no (dec_le (length (path_of path)) 16) _ (λ l. omega (arith, length-path path))); tells = tt; lands = tt }

module _ (path : Path) {t row : List ℕ} (O : Open t row) (h : path.len ≤ 16) {x : TypeParts} (o : Opens t 0 x) where
  abbrev pub root_place : Place
  root_place = record { opened = x; seat = record { bits = 0; number = 0; slot = 0; wide = 0 }; start = 0; len = length row }

  ty : open_ty t x ≡ root_ty t
  ty = root-type O.table o

  pub root-asks : Asks t row root_place path
  root-asks = record {
    rests = record {
      is = o.is;
      within = omega arith;
      short = O.short;
      sized = λ l. absurd (holder t x (rw ty tt) (omega arith));
      seated = λ l. absurd (holder t x (rw ty tt) l);
    };
    few = h;
  }

  placed-is : placed (path_of path) (root_ty t) ≡ type_on (path_of path) (root_ty t)
  unfolding placed
  placed-is = rw (assert-yes (dec_le (length (path_of path)) 16) (rw (length-path path) h))

  pub root-finds : {f : Result Found Answered} → Goes t row root_place (path_of path) f → Finds t row (path_of path) f
  root-finds w = record { means = rw placed-is (rw (ty, part-whole row) at w.means); tells = rw placed-is (rw ty at w.tells); lands = w.lands }
