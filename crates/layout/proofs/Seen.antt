-- Two finds that answer alike; where an answer's range starts; and a container changed at one child, which reads as before at every
-- other path. Assumes nothing.
use mathlib.Core.Path.{◌≡◌, refl, sym, ap, ◌∙◌, subst}
use mathlib.Core.Logic.{◌≢◌}
use mathlib.Core.Option.{none, some, none-ne-some}
use mathlib.Core.List.{List, [], ◌∷◌}
use Prim.Native.Nat.{ℕ, ◌+◌, ◌<◌, ◌^◌}
use native.Mathlib.Omega.{arith}
use native.Mathlib.Decide.{ℕ_discrete}
use lib.ListN.{length}
use Rattle.schema.specs.Types.{Fixed, bo, i1, i2, i4, i8, f4, f8, Ty, fix, text, li, ma, ro}
use Rattle.layout.specs.Cells.{Cell, flag, parts, part_of}
use Rattle.layout.specs.Layout.{number, string, codec, Lays}
use Rattle.layout.specs.Places.{start_of, starts}
use Rattle.layout.specs.Reading.{type_along, value_of, answer_of, held}
use Rattle.layout.specs.Walk.{Seat, Seen, bad, null_at, seen, Step, into, own, step_in, go_on, walk, child_ty}
use Rattle.layout.proofs.Stepped as Stepped
use Rattle.layout.proofs.Stepped.{Leafy, Comes, Into}
use Rattle.layout.proofs.Aside.{Aside}
use Rattle.layout.proofs.Walked.{comes, own-holds, Sits, list-says}
use Rattle.layout.proofs.Landed.{type-child, type-end, leaf-end, Landing, off, at_null, at_seen}

-- ---- an answer, with the bytes of a string or binary

unfoldable pub shown : Ty → Seen → List ℕ
shown t (bad n) = []
shown t (null_at s) = []
shown (fix f) (seen s o b) = []
shown (text k) (seen s o b) = b
shown (li t) (seen s o b) = []
shown (ma k v) (seen s o b) = []
shown (ro ts) (seen s o b) = []

-- two finds that answer alike
pub record Like (t : Ty) (r r' : Seen) : Type 0 where
  pub answers : answer_of t r ≡ answer_of t r'
  pub shows : shown t r ≡ shown t r'

like-refl : {t : Ty} {r r' : Seen} → r ≡ r' → Like t r r'
like-refl {t} e = record { answers = ap (answer_of t) e; shows = ap (shown t) e }

-- the bytes in the range are those found
value-held : (row : List ℕ) (f : Fixed) (u : List ℕ) → held row (value_of f u) ≡ []
unfolding value_of held
value-held row bo u = refl
value-held row i1 u = refl
value-held row i2 u = refl
value-held row i4 u = refl
value-held row i8 u = refl
value-held row f4 u = refl
value-held row f8 u = refl

seen-held : (row : List ℕ) (t : Ty) (s : Seat) (o : ℕ) (u : List ℕ) → Sits row o u → held row (answer_of t (seen s o u)) ≡ shown t (seen s o u)
unfolding answer_of held shown
seen-held row (fix f) s o u st = value-held row f u
seen-held row (text k) s o u st = st.there
seen-held row (li t) s o u st = refl
seen-held row (ma k v) s o u st = refl
seen-held row (ro ts) s o u st = refl

pub held-shown : (row : List ℕ) (t : Ty) (p : List ℕ) (c : Cell) (r : Seen) → Landing row t p c r → held row (answer_of t r) ≡ shown t r
unfolding answer_of held shown
held-shown row t p c r (off n g) = refl
held-shown row t p c r (at_null v f) = refl
held-shown row t p c r (at_seen {s = s} {o = o} {u = u} v y st) = seen-held row t s o u st

-- ---- where the range starts; 0 for what has none

value-start : (f : Fixed) (u : List ℕ) → start_of (value_of f u) ≡ 0
unfolding value_of start_of
value-start bo u = refl
value-start i1 u = refl
value-start i2 u = refl
value-start i4 u = refl
value-start i8 u = refl
value-start f4 u = refl
value-start f8 u = refl

-- a fixed width has no range
pub fixed-starts : (f : Fixed) (r : Seen) → starts (fix f) r ≡ 0
unfolding answer_of start_of
fixed-starts f (bad n) = refl
fixed-starts f (null_at s) = refl
fixed-starts f (seen s o u) = value-start f u

-- nor has a null
pub null-starts : (T t : Ty) (c : Cell) (i : ℕ) (s : Seat) (o : ℕ) (b : List ℕ) → Lays t c b → length b < 2 ^ 32 → i < length (parts c)
    → flag (part_of i c) ≡ 1 → starts T (walk (i ∷ []) t s o b) ≡ 0
unfolding walk go_on answer_of start_of
null-starts T t c i s o b y lim k f =
    rw (own-holds t c s o b (go_on [] (λ t s o b. walk [] t s o b) (step_in t i s o b)) y lim) (go (step_in t i s o b) (comes t c i s o b y lim))
  where
    go : (r : Step) → Comes t (child_ty t i) c i o b r → starts T (go_on [] (λ t s o b. walk [] t s o b) r) ≡ 0
    go r (Stepped.past h) = absurd (omega arith)
    go r (Stepped.missing l g d) = refl
    go r (Stepped.on l g d a) = absurd (omega arith)

-- what varies starts where it stands
pub seen-starts : (t : Ty) (s : Seat) (o : ℕ) (u : List ℕ) → (codec t).wide ≡ none → starts t (seen s o u) ≡ o
unfolding codec number answer_of start_of
seen-starts (fix f) s o u e = absurd (none-ne-some _ (sym e))
seen-starts (text k) s o u e = refl
seen-starts (li t) s o u e = refl
seen-starts (ma k v) s o u e = refl
seen-starts (ro ts) s o u e = refl

-- ---- a container changed at one child

leaf-parts : (t : Ty) (c : Cell) (b : List ℕ) → Leafy t → Lays t c b → length (parts c) ≡ 0
unfolding codec number string parts
leaf-parts (fix f) c b l y = ap (λ (z : Cell). length (parts z)) y.fits.plain
leaf-parts (text k) c b l y = ap (λ (z : Cell). length (parts z)) y.fits.plain
leaf-parts (li t) c b l y = absurd l
leaf-parts (ma k v) c b l y = absurd l
leaf-parts (ro ts) c b l y = absurd l

pub into-on : (q : List ℕ) (t : Ty) (s : Seat) (o : ℕ) (b : List ℕ) → go_on q (λ t s o b. walk q t s o b) (into t s o b) ≡ walk q t s o b
unfolding go_on
into-on [] t s o b = refl
into-on (i ∷ q) t s o b = refl

-- contents c' in b' instead of c in b, as many parts in as many bytes
pub record Instead (t : Ty) (c c' : Cell) (b b' : List ℕ) : Type 0 where
  pub was : Lays t c b
  pub is : Lays t c' b'
  pub small : length b < 2 ^ 32
  pub size : length b' ≡ length b
  pub count : length (parts c') ≡ length (parts c)

module _ (t : Ty) (c c' : Cell) (b b' : List ℕ) (d : Instead t c c' b b') where
  small' : length b' < 2 ^ 32
  small' = omega (arith, d.size, d.small)

  -- the container itself: its range and count
  whole_like : (i : ℕ) (s : Seat) (o : ℕ) → i < length (parts c) → Like t (seen s o b') (seen s o b)
  unfolding answer_of shown
  whole_like i s o k = go t d.was d.is
    where
      go : (t : Ty) → Lays t c b → Lays t c' b' → Like t (seen s o b') (seen s o b)
      go (fix f) y y' = absurd (omega (arith, leaf-parts (fix f) c b tt y))
      go (text a) y y' = absurd (omega (arith, leaf-parts (text a) c b tt y))
      go (li t) y y' = record { answers = rw (d.size, (list-says t c b y d.small).count, (list-says t c' b' y' small').count, d.count); shows = refl }
      go (ma a v) y y' = record { answers = rw d.size; shows = refl }
      go (ro ts) y y' = record { answers = rw d.size; shows = refl }

  own-was : (s : Seat) (o : ℕ) (r : Seen) → own t s o b r ≡ r
  own-was s o r = own-holds t c s o b r d.was d.small

  own_is : (s : Seat) (o : ℕ) (r : Seen) → own t s o b' r ≡ r
  own_is s o r = own-holds t c' s o b' r d.is small'

  -- a path that begins with another child, or ends here, or goes on with child i
  pub others_by : (i : ℕ) (p q : List ℕ) (U : Ty) (s : Seat) (o : ℕ) → i < length (parts c) → Aside t i b b' → type_along q t ≡ some U → (i ∷ p) ≢ q
      → ((q : List ℕ) → type_along q (child_ty t i) ≡ some U → p ≢ q → Like U (walk (i ∷ q) t s o b') (walk (i ∷ q) t s o b))
      → Like U (walk q t s o b') (walk q t s o b)
  unfolding walk
  others_by i p [] U s o k a e n f =
      rw (own-was s o (seen s o b), own_is s o (seen s o b')) (subst (λ (A : Ty). Like A (seen s o b') (seen s o b)) (type-end t U e) (whole_like i s o k))
  others_by i p (j ∷ q) U s o k a e n f = go (ℕ_discrete j i)
    where
      go : Dec (j ≡ i) → Like U (walk (j ∷ q) t s o b') (walk (j ∷ q) t s o b)
      go (yes z) = subst (λ (j : ℕ). Like U (walk (j ∷ q) t s o b') (walk (j ∷ q) t s o b)) (sym z)
          (f q (subst (λ (j : ℕ). type_along q (child_ty t j) ≡ some U) z (type-child j q t U e)) (λ m. n (rw (z, m))))
      go (no z) = like-refl (own_is s o _ ∙ ap (go_on q (λ t s o b. walk q t s o b)) (a j z s o) ∙ sym (own-was s o _))

  -- nothing stands past a leaf
  pub past_end : (i : ℕ) (U : Ty) (s : Seat) (o : ℕ) → Leafy (child_ty t i) → (q : List ℕ) → type_along q (child_ty t i) ≡ some U → [] ≢ q
      → Like U (walk (i ∷ q) t s o b') (walk (i ∷ q) t s o b)
  past_end i U s o l [] e n = absurd (n refl)
  past_end i U s o l (j ∷ q) e n = absurd (leaf-end (child_ty t i) U j q l e)

  -- on in child i, from u in b and from v in b'
  pub walk-on : (i j : ℕ) (u v : List ℕ) (s : Seat) (o : ℕ) (q : List ℕ) (m : Into t (child_ty t i) i j o s b u b' v)
      → (walk (i ∷ q) t s o b ≡ walk q (child_ty t i) m.seat (o + j) u) × (walk (i ∷ q) t s o b' ≡ walk q (child_ty t i) m.seat (o + j) v)
  unfolding walk
  walk-on i j u v s o q m = (
    own-was s o _ ∙ ap (go_on q (λ t s o b. walk q t s o b)) m.was ∙ into-on q (child_ty t i) m.seat (o + j) u,
    own_is s o _
        ∙ ap (go_on q (λ t s o b. walk q t s o b)) m.is ∙ into-on q (child_ty t i) m.seat (o + j) v,
  )
