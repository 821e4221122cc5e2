-- From a leaf's outcome to that of its place, of the path and of the whole setting. Assumes nothing.
use Rattle.std.specs.Prelude.{Result, Ok, Err}
use mathlib.Core.Path.{◌≡◌, refl, sym, ap, ◌∙◌, subst}
use mathlib.Core.Option.{Option, none, some}
use mathlib.Core.List.{List}
use Prim.Native.Nat.{ℕ, ◌≤◌, ◌<◌}
use native.Mathlib.Omega.{arith}
use lib.ListN.{length}
use borrow.Author.Tests.{le-leb}
use Rattle.words.proofs.Parts.{length_part}
use Rattle.schema.specs.Types.{Fixed, Ty, fix, Text, text, li, ma, ro, fixed_at, text_at}
use Rattle.table.specs.Words.{place_in}
use Rattle.table.specs.Tables.{schema_of}
use Rattle.layout.specs.Refusals.{Refusal, numbered, broken_at}
use Rattle.layout.specs.Walk as W
use Rattle.layout.specs.Walk.{Seen, bad, null_at, seen, root_seat, walk}
use Rattle.layout.specs.Reading.{answer_of, found, placed, read_in}
use Rattle.layout.specs.Setting as S
use Rattle.layout.specs.Setting.{Setting, suits, keeps_text, keeps, ◌or◌, refusal_in, judge_at, write, write_at, outcome, set_in}
use Rattle.layout.specs.Entries.{set_of}
use Rattle.layout.proofs.Told.{value-present}
use Rattle.answers.specs.Meaning.{Outcome}
use Rattle.answers.specs.declared.Refusal.{Refusal as Answered}
use Rattle.answers.specs.declared.Refusal.TheVariants as F
use Rattle.answers.specs.Meaning.{refusal_means}
use Rattle.answers.specs.declared.Given.{Given}
use Rattle.answers.specs.declared.Setting.{Setting as Asked}
use Rattle.answers.specs.Meaning.{given_means, setting_of}
use Rattle.reading.specs.Children.{seat_as}
use Rattle.reading.specs.Opening.{open_ty, Kinded}
use Rattle.reading.specs.Places.{place_ty, bytes_of, PlaceHolds, NullIn}
use Rattle.reading.specs.Finding.{found_as, seen_in, root_ty, Open, Finds}
use Rattle.reading.specs.declared.TypeParts.{TypeParts}
use Rattle.reading.specs.declared.Seat.{Seat}
use Rattle.reading.specs.declared.Place.{Place}
use Rattle.reading.specs.declared.Found.{Found}
use Rattle.reading.specs.declared.Found.TheVariants.{Null, At}
use Rattle.reading.proofs.Opening.{ty-fixed, ty-text, leaf-place}
use Rattle.reading.proofs.Moving.{Holder, held-kind}
use Rattle.setting.specs.Writes.{SetAs, decided, leaf_outcome, fixed_outcome, text_outcome, no_text_outcome}
use Rattle.setting.specs.Writes.{FixedSeat, NullThere, PlaceThere, Checked}

-- ---- a place's outcome is its leaf's

or-none : (o : Option Refusal) → (o or none) ≡ o
or-none none = refl
or-none (some n) = refl

module _ (x : Setting) (row : List ℕ) where
  null-fixed : (f : Fixed) (s : W.Seat) → leaf_outcome (fix f) x (null_at s) row ≡ fixed_outcome f x s row
  unfolding leaf_outcome fixed_outcome keeps write
  null-fixed f s = rw or-none

  seen-fixed : (f : Fixed) (s : W.Seat) (o : ℕ) (b : List ℕ) → leaf_outcome (fix f) x (seen s o b) row ≡ fixed_outcome f x s row
  unfolding leaf_outcome fixed_outcome keeps write
  seen-fixed f s o b = rw or-none

  null-text : (t : Text) (s : W.Seat) → leaf_outcome (text t) x (null_at s) row ≡ no_text_outcome t x s row
  unfolding leaf_outcome no_text_outcome suits keeps keeps_text answer_of write
  null-text t s = refl

  seen-text : (t : Text) (s : W.Seat) (o : ℕ) (b : List ℕ) → leaf_outcome (text t) x (seen s o b) row ≡ text_outcome t x o (length b) row
  unfolding leaf_outcome text_outcome suits keeps keeps_text answer_of write
  seen-text t s o b = refl

  -- a container takes nothing
  holder-refused : (T : Ty) (w : Seen) → Holder T → SetAs (leaf_outcome T x w row) row row (Err F.Unfit)
  unfolding leaf_outcome suits decided
  holder-refused (fix f) w h = absurd h
  holder-refused (text t) w h = absurd h
  holder-refused (li t) w h = record { answers = refl; after = refl }
  holder-refused (ma k v) w h = record { answers = refl; after = refl }
  holder-refused (ro ts) w h = record { answers = refl; after = refl }

-- its type's entry says the place of a leaf's type
fixed-type : (t : List ℕ) (x : TypeParts) → Kinded x → x.kind < 7 → open_ty t x ≡ fix (fixed_at (place_in x.entry))
fixed-type t x k l = ty-fixed t x l ∙ ap (λ (j : ℕ). fix (fixed_at j)) (sym (leaf-place k (omega arith)))

-- ---- a null

module _ {row : List ℕ} {x : TypeParts} {z : Seat} (N : NullThere row x z) where
  pub null-leaf : x.kind < 7 → FixedSeat row x.entry z
  null-leaf l = record {
    leaf = record { lined = N.known.lined; fixed = rw (leaf-place N.known (omega arith)) l };
    seat = N.seated;
  }

  module _ (v : Setting) where
    abbrev to-null : Ty → S.Outcome
    to-null T = leaf_outcome T v (null_at (seat_as z)) row

    pub null-refused : 9 ≤ x.kind → (t : List ℕ) → SetAs (to-null (open_ty t x)) row row (Err F.Unfit)
    null-refused l t = holder-refused v row (open_ty t x) (null_at (seat_as z)) (held-kind N.known t l)

    module _ {row' : List ℕ} {r : Outcome} where
      pub null-fixed-set : x.kind < 7 → SetAs (fixed_outcome (fixed_at (place_in x.entry)) v (seat_as z) row) row row' r
          → (t : List ℕ) → SetAs (to-null (open_ty t x)) row row' r
      null-fixed-set l h t =
          let f = fixed_at (place_in x.entry) in
          let e : to-null (open_ty t x) ≡ fixed_outcome f v (seat_as z) row =
          ap to-null (fixed-type t x N.known l) ∙ null-fixed v row f (seat_as z) in
          subst (λ (o : S.Outcome). SetAs o row row' r) (sym e) h

      pub null-text-set : 7 ≤ x.kind → x.kind < 9 → SetAs (no_text_outcome (text_at x.kind) v (seat_as z) row) row row' r
          → (t : List ℕ) → SetAs (to-null (open_ty t x)) row row' r
      null-text-set l m h t =
          let e : to-null (open_ty t x) ≡ no_text_outcome (text_at x.kind) v (seat_as z) row =
          ap to-null (ty-text t x l m) ∙ null-text v row (text_at x.kind) (seat_as z) in
          subst (λ (o : S.Outcome). SetAs o row row' r) (sym e) h

-- ---- a place

module _ {row : List ℕ} {p : Place} (P : PlaceThere row p) where
  abbrev here : Seen
  here = seen (seat_as p.seat) p.start (bytes_of row p)

  pub place-leaf : p.opened.kind < 7 → FixedSeat row p.opened.entry p.seat
  place-leaf l = record {
    leaf = record { lined = P.known.lined; fixed = rw (leaf-place P.known (omega arith)) l };
    seat = P.seated (omega arith);
  }

  module _ (x : Setting) where
    pub place-refused : 9 ≤ p.opened.kind → (t : List ℕ) → SetAs (leaf_outcome (place_ty t p) x here row) row row (Err F.Unfit)
    place-refused l t = holder-refused x row (place_ty t p) here (held-kind P.known t l)

    module _ {row' : List ℕ} {r : Outcome} where
      pub place-fixed-set : p.opened.kind < 7
          → SetAs (fixed_outcome (fixed_at (place_in p.opened.entry)) x (seat_as p.seat) row) row row' r
          → (t : List ℕ) → SetAs (leaf_outcome (place_ty t p) x here row) row row' r
      place-fixed-set l h t =
          let f = fixed_at (place_in p.opened.entry) in
          let e : leaf_outcome (place_ty t p) x here row ≡ fixed_outcome f x (seat_as p.seat) row =
          ap (λ (T : Ty). leaf_outcome T x here row) (fixed-type t p.opened P.known l)
          ∙ seen-fixed x row f (seat_as p.seat) p.start (bytes_of row p) in
          subst (λ (o : S.Outcome). SetAs o row row' r) (sym e) h

      pub place-text-set : 7 ≤ p.opened.kind → p.opened.kind < 9 → SetAs (text_outcome (text_at p.opened.kind) x p.start p.len row) row row' r
          → (t : List ℕ) → SetAs (leaf_outcome (place_ty t p) x here row) row row' r
      place-text-set l m h t =
          let e : leaf_outcome (place_ty t p) x here row ≡ text_outcome (text_at p.opened.kind) x p.start p.len row =
          ap (λ (T : Ty). leaf_outcome T x here row) (ty-text t p.opened l m)
          ∙ seen-text x row (text_at p.opened.kind) (seat_as p.seat) p.start (bytes_of row p)
          ∙ ap (λ (n : ℕ). text_outcome (text_at p.opened.kind) x p.start n row) (length_part row p.start p.len P.within) in
          subst (λ (o : S.Outcome). SetAs o row row' r) (sym e) h

-- ---- the path

outcome-is : (o : Option Refusal) (w : List ℕ) → outcome none o w ≡ decided o w
unfolding outcome decided
outcome-is none w = refl
outcome-is (some n) w = refl

null-none : (t : Ty) (z : W.Seat) → refusal_in (answer_of t (null_at z)) ≡ none
unfolding answer_of refusal_in
null-none (fix f) z = refl
null-none (text f) z = refl
null-none (li t) z = refl
null-none (ma k v) z = refl
null-none (ro ts) z = refl

seen_none : (t : Ty) (z : W.Seat) (o : ℕ) (b : List ℕ) → refusal_in (answer_of t (seen z o b)) ≡ none
unfolding answer_of refusal_in
seen_none (fix f) z o b = value-present f b
seen_none (text f) z o b = refl
seen_none (li t) z o b = refl
seen_none (ma k v) z o b = refl
seen_none (ro ts) z o b = refl

judge-refused : (x : Setting) (o : Option Ty) (w : Seen) (n : Refusal) → bad n ≡ seen_in o w → judge_at o (found o w) x ≡ some n
unfolding judge_at found answer_of refusal_in
judge-refused x none w n e = let z : numbered 5 ≡ n = cc in ap some z
judge-refused x (some (fix f)) w n e = rw (← e)
judge-refused x (some (text f)) w n e = rw (← e)
judge-refused x (some (li t)) w n e = rw (← e)
judge-refused x (some (ma k v)) w n e = rw (← e)
judge-refused x (some (ro ts)) w n e = rw (← e)

here-is : (x : Setting) (row : List ℕ) (o : Option Ty) (t : Ty) (v w : Seen) → some t ≡ o → w ≡ v → refusal_in (answer_of t w) ≡ none
    → decided (judge_at o (found o v) x) (write_at o x v row) ≡ leaf_outcome t x w row
unfolding judge_at found write_at leaf_outcome
here-is x row o t v w e q h = rw (← e, ← q, h)

pub checked-open : {t row : List ℕ} → Checked t row → Open t row
checked-open C = record { table = C.table; short = C.short }

module _ {t row p : List ℕ} {r : Result Found Answered} (C : Checked t row) (G : Finds t row p r) where
  -- the type that the path leads to, and what the walk along it sees
  abbrev to : Option Ty
  to = placed p (root_ty t)

  abbrev view : Seen
  view = walk p (root_ty t) root_seat 0 row

  set_is : (x : Setting) → set_of (schema_of t) row p x ≡ decided (judge_at to (found to view) x) (write_at to x view row)
  unfolding set_of set_in read_in
  set_is x = rw (C.table.accepted, le-leb (length row) 16384 C.short, C.sound) (outcome-is _ _)

  module _ (x : Setting) where
    set-refused : (n : Refusal) → found_as row r ≡ bad n → set_of (schema_of t) row p x ≡ S.refuses n
    unfolding decided
    set-refused n e = set_is x ∙ ap (λ (o : Option Refusal). decided o (write_at to x view row)) (judge-refused x to view n (sym e ∙ G.means))

    pub set-fails : {f : Answered} → r ≡ Err f → SetAs (set_of (schema_of t) row p x) row row (Err f)
    unfolding found_as
    set-fails {f} e = let q = set-refused (refusal_means f) (rw e) in rw q (record { answers = refl; after = refl })

  walk_is : (T : Ty) → some T ≡ to → found_as row r ≡ view
  walk_is T e = G.means ∙ rw (← e)

  set_here : (x : Setting) (T : Ty) → some T ≡ to → (w : Seen) → found_as row r ≡ w → refusal_in (answer_of T w) ≡ none
      → set_of (schema_of t) row p x ≡ leaf_outcome T x w row
  set_here x T e w q h = set_is x ∙ here-is x row to T view w e (sym q ∙ walk_is T e) h

  module _ {y : TypeParts} {z : Seat} (e : r ≡ Ok (Null y z)) where
    null-lies : NullIn t row y z
    null-lies = rw e at G.lands

    pub null-there : NullThere row y z
    null-there = record { known = null-lies.is.kinded; seated = null-lies.seated }

    pub set-at-null : (x : Setting) {row' : List ℕ} {a : Outcome}
        → ((t : List ℕ) → SetAs (leaf_outcome (open_ty t y) x (null_at (seat_as z)) row) row row' a)
        → SetAs (set_of (schema_of t) row p x) row row' a
    unfolding found_as
    set-at-null x {row'} {a} h =
        let T = open_ty t y in
        let q : set_of (schema_of t) row p x ≡ leaf_outcome T x (null_at (seat_as z)) row =
        set_here x T (rw e at G.tells) (null_at (seat_as z)) (ap (found_as row) e) (null-none T (seat_as z)) in
        subst (λ (o : S.Outcome). SetAs o row row' a) (sym q) (h t)

  module _ {y : Place} (e : r ≡ Ok (At y)) where
    stands : PlaceHolds t row y
    stands = rw e at G.lands

    pub place-there : PlaceThere row y
    place-there = record { known = stands.rests.is.kinded; within = stands.rests.within; seated = stands.rests.seated }

    pub set-at-place : (x : Setting) {row' : List ℕ} {a : Outcome}
        → ((t : List ℕ) → SetAs (leaf_outcome (place_ty t y) x (seen (seat_as y.seat) y.start (bytes_of row y)) row) row row' a)
        → SetAs (set_of (schema_of t) row p x) row row' a
    unfolding found_as
    set-at-place x {row'} {a} h =
        let T = place_ty t y in
        let w = seen (seat_as y.seat) y.start (bytes_of row y) in
        let q : set_of (schema_of t) row p x ≡ leaf_outcome T x w row =
        set_here x T (rw e at G.tells) w (ap (found_as row) e) (seen_none T (seat_as y.seat) y.start (bytes_of row y)) in
        subst (λ (o : S.Outcome). SetAs o row row' a) (sym q) (h t)

pub set_given : (s row p : List ℕ) (g : Given) (v : Asked) → ((u : List ℕ) → given_means g u ≡ setting_of v u) → (u : List ℕ) {row' : List ℕ}
    {r : Outcome} → SetAs (set_of s row p (given_means g u)) row row' r → SetAs (set_of s row p (setting_of v u)) row row' r
set_given s row p g v e u {row'} {r} h = subst (λ (x : Setting). SetAs (set_of s row p x) row row' r) (e u) h
