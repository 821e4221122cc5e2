-- What the place at a path claims, by what was found there. Assumes nothing.
use mathlib.Core.Path.{◌≡◌, refl, sym, ap, ◌∙◌}
use mathlib.Core.Bool.{Bool, true, false, cond}
use mathlib.Core.Option.{Option, none, some}
use mathlib.Core.List.{List}
use Prim.Native.Nat.{ℕ, ◌/◌, ◌≤◌, ◌<◌}
use native.Mathlib.Omega.{arith}
use native.Mathlib.Decide.{dec_lt}
use Rattle.schema.specs.Types.{Fixed, Ty, fix, text, li, ma, ro, fixed_at}
use Rattle.layout.specs.Reading as R
use Rattle.layout.specs.Reading.{Answer, placed}
use Rattle.layout.specs.Entries.{read_of}
use Rattle.answers.specs.declared.Answer.{Answer as Case}
use Rattle.answers.specs.declared.Answer.TheVariants as A
use Rattle.answers.specs.Meaning.{meaning, Read, read_means}
use Rattle.table.specs.Tables.{schema_of}
use Rattle.reading.specs.Places.{place_ty, PlaceHolds}
use Rattle.reading.specs.Finding.{Open, root_ty, Finds}
use Rattle.reading.specs.Texts.{count_of, show_of, Reads}
use Rattle.reading.specs.declared.TypeParts.{TypeParts}
use Rattle.reading.specs.declared.Place.{Place}
use Rattle.reading.specs.declared.Seat.{Seat}
use Rattle.reading.specs.declared.Found.{Found}
use Rattle.reading.specs.declared.Found.TheVariants.{Null, At}
use Rattle.std.specs.Prelude.{Result, Ok, Err}
use Rattle.answers.specs.declared.Refusal.{Refusal}
use Rattle.reading.proofs.Opening.{ty-fixed, ty-text}
use Rattle.reading.proofs.Shown.{show-text, show-holder, read-refused, read-null, read_at}
use Rattle.chart.specs.Claims.{claim_all, taken}
use Rattle.chart.specs.Labels.{unlabelled, labelled, labels_by, labels_in, labels_at, followed}
use Rattle.chart.specs.Room.{Draws, Follows, labels_of}

-- ---- by the answer

refused_none : (o : Option Ty) (r : _) (p : List ℕ) → labels_in o (R.refused r) p ≡ unlabelled
unfolding labels_in labels_by
refused_none none r p = refl
refused_none (some t) r p = refl

null-none : (o : Option Ty) (p : List ℕ) → labels_in o R.null p ≡ unlabelled
unfolding labels_in labels_by
null-none none p = refl
null-none (some t) p = refl

fixed-none : (f : Fixed) (a : Answer) (p : List ℕ) → labels_in (some (fix f)) a p ≡ unlabelled
unfolding labels_in labels_by labelled
fixed-none f R.null p = refl
fixed-none f (R.bool v) p = refl
fixed-none f (R.signed z) p = refl
fixed-none f (R.float32 n) p = refl
fixed-none f (R.float64 n) p = refl
fixed-none f (R.bytes o n) p = refl
fixed-none f (R.container o n k) p = refl
fixed-none f (R.refused r) p = refl

-- ---- what is followed

either : (b : Bool) (k : ℕ) → cond b k k ≡ k
either true k = refl
either false k = refl

none-followed : (m : List ℕ) → 0 ≡ followed unlabelled m
none-followed m = sym (either (taken m 0) 0)

-- by the byte that a place starts at: one of a fixed width has nothing below it
followed-at : (t : Ty) (p : List ℕ) (o n k : ℕ) (m : List ℕ) → cond (taken m (o / 8)) 0 (labelled t p o n k).below ≡ followed (labelled t p o n k) m
unfolding labelled
followed-at (fix f) p o n k m = either (taken m (o / 8)) 0 ∙ none-followed m
followed-at (text t) p o n k m = refl
followed-at (li t) p o n k m = refl
followed-at (ma a b) p o n k m = refl
followed-at (ro ts) p o n k m = refl

follows-none : (m : List ℕ) → Follows unlabelled m 0 m
unfolding claim_all
follows-none m = record { chart = refl; below = none-followed m; few = omega arith }

-- ---- by what was found

module _ {t row : List ℕ} (p : List ℕ) (O : Open t row) {f : Result Found Refusal} (G : Finds t row p f) where
  abbrev s : List ℕ
  s = schema_of t

  labels-as : (a : Read) → Reads s row p a → labels_in (placed p (root_ty t)) (read_means a) p ≡ labels_at s row p
  unfolding labels_at
  labels-as a g = ap (λ (b : Answer). labels_in (placed p (root_ty t)) b p) g.means

  none-as : (m : List ℕ) → unlabelled ≡ labels_at s row p → Follows (labels_at s row p) m 0 m
  none-as m e = rw (← e) (follows-none m)

  pub label-refused : (m : List ℕ) {r : Refusal} → f ≡ Err r → Follows (labels_at s row p) m 0 m
  label-refused m e = none-as m (sym (refused_none _ _ p) ∙ labels-as _ (read-refused O G e))

  pub label-null : (m : List ℕ) {x : TypeParts} {z : Seat} → f ≡ Ok (Null x z) → Follows (labels_at s row p) m 0 m
  label-null m e = none-as m (sym (null-none _ p) ∙ labels-as _ (read-null O G e))

  module _ {y : Place} (e : f ≡ Ok (At y)) where
    pub found-stands : PlaceHolds t row y
    found-stands = rw e at G.lands

    typed : some (place_ty t y) ≡ placed p (root_ty t)
    typed = rw e at G.tells

    -- what a read answers there
    there : (a : Case) → meaning a ≡ show_of row y → labels_in (some (place_ty t y)) (meaning a) p ≡ labels_at s row p
    there a h = ap (λ (o : Option Ty). labels_in o (meaning a) p) typed ∙ labels-as (Ok a) (read_at O G e h)

    label-fixed : y.opened.kind < 7 → labels_of t row y p ≡ labels_at s row p
    unfolding labels_at labelled
    label-fixed h =
        rw (ty-fixed t y.opened h) (sym (fixed-none (fixed_at y.opened.kind) (read_of s row p) p)
        ∙ ap (λ (o : Option Ty). labels_in o (read_of s row p) p) (rw (ty-fixed t y.opened h) at typed))

    label-text : 7 ≤ y.opened.kind → y.opened.kind < 9 → labels_of t row y p ≡ labels_at s row p
    unfolding labels_in labels_by labelled
    label-text l h =
        rw (ty-text t y.opened l h) (rw (ty-text t y.opened l h) at (there (A.Bytes y.start y.len) (show-text row y l h)))

    label-holder : 9 ≤ y.opened.kind → labels_of t row y p ≡ labels_at s row p
    unfolding labels_in labels_by
    label-holder h = there (A.Container y.start y.len (count_of row y.opened y.start)) (show-holder row y h refl)

    label_is : labels_of t row y p ≡ labels_at s row p
    label_is = go (dec_lt y.opened.kind 7) (dec_lt y.opened.kind 9)
      where
        go : Dec (y.opened.kind < 7) → Dec (y.opened.kind < 9) → labels_of t row y p ≡ labels_at s row p
        go (yes h) x = label-fixed h
        go (no h) (yes x) = label-text (omega arith) x
        go (no h) (no x) = label-holder (omega arith)

    pub line-within : y.start / 8 ≤ 2048
    line-within = omega (arith, found-stands.rests.within, found-stands.rests.short)

    module _ {b : Bool} {m m' : List ℕ} {r : ℕ} (q : b ≡ taken m (y.start / 8)) (d : Draws (labels_of t row y p) m r m') where
      below-is : cond b 0 r ≡ followed (labels_of t row y p) m
      below-is = rw (q, d.below) (followed-at (place_ty t y) p y.start y.len (count_of row y.opened y.start) m)

      -- another had the first line before
      pub label-taken : b ≡ true → Follows (labels_at s row p) m 0 m'
      label-taken h = rw (← label_is) (record { chart = d.chart; below = rw h at below-is; few = omega arith })

      pub label-free : b ≡ false → Follows (labels_at s row p) m r m'
      label-free h = rw (← label_is) (record { chart = d.chart; below = rw h at below-is; few = d.few })
