-- What a leaf that holds a setting tells is that setting; and what a present leaf tells is a setting of the bytes that it holds.
-- Assumes nothing.
use mathlib.Core.Path.{◌≡◌, refl, sym, ap, ◌∙◌, subst}
use mathlib.Core.Logic.{◌≢◌}
use mathlib.Core.Bool.{Bool, true, false, cond, true≢false}
use mathlib.Core.Option.{none, some, none-ne-some, some-injective}
use mathlib.Core.List.{List, [], ◌∷◌}
use Prim.Native.Nat.{ℕ, zero, suc, ◌%◌, ◌<◌, ◌^◌}
use native.Mathlib.Omega.{arith}
use lib.Dec.{eqb}
use lib.IntN.{ℤ}
use lib.ListN.{length}
use lib.Signed.{mag}
use borrow.Author.Tests.{ltb-true, lt-ltb, eq-eqb}
use Rattle.words.specs.Bytes.{Bytes, le, num, zeros}
use Rattle.words.specs.Bits.{digit}
use Rattle.words.specs.Signed.{half_of, to_signed, of_signed, in_range}
use Rattle.words.proofs.Numbers.{num-le, le-num, num-lt}
use Rattle.words.proofs.Tests.{yes-is}
use Rattle.words.proofs.SignedLaws.{signed_back, bytes_back, to_signed-mag, half-bytes}
use Rattle.schema.specs.Marks.{types}
use Rattle.schema.specs.Types.{Fixed, bo, i1, i2, i4, i8, f4, f8, fixed_place, width, Text, Ty, fix, text, li, ma, ro}
use Rattle.layout.specs.Cells.{Cell, null, leaf, on_null, flag, bytes}
use Rattle.layout.specs.Layout.{spells?, number, string, limit, codec, Lays}
use Rattle.layout.specs.Walk.{Seat, Seen, seen}
use Rattle.layout.specs.Reading as R
use Rattle.layout.specs.Reading.{Answer, value_of, answer_of}
use Rattle.layout.specs.Setting as S
use Rattle.layout.specs.Setting.{Setting, is_null, bool_bytes, signed_bytes, float32_bytes, float64_bytes, in_bytes, suits, keeps, keeps_text, refusal_in}
use Rattle.layout.specs.Demand3.{told, Proper}
use Rattle.layout.proofs.Containers.{codec-lawful, lays-fits}
use Rattle.layout.proofs.Stepped.{Leafy}
use Rattle.layout.proofs.Walked.{Sits}
use Rattle.layout.proofs.Tree.{look, Valid}
use Rattle.layout.proofs.Landed.{Landing, off, at_null, at_seen}
use Rattle.layout.proofs.Judged.{Fine, number_null, number_given, text_null, text_given, given, cell_of}

-- ---- a fixed-width leaf's bytes tell the setting that wrote them

module _ (row : List ℕ) where
  bool-told : (x : Setting) (u : List ℕ) → bool_bytes x ≡ some u → told row (R.bool (eqb (num u) 1)) ≡ some x
  unfolding bool_bytes told num
  bool-told S.null u e = absurd (none-ne-some _ e)
  bool-told (S.bool true) u e = rw (← (some-injective _ _ e))
  bool-told (S.bool false) u e = rw (← (some-injective _ _ e))
  bool-told (S.signed z) u e = absurd (none-ne-some _ e)
  bool-told (S.float32 n) u e = absurd (none-ne-some _ e)
  bool-told (S.float64 n) u e = absurd (none-ne-some _ e)
  bool-told (S.bytes v) u e = absurd (none-ne-some _ e)

  signed_by : (w : ℕ) (z : ℤ) (u : List ℕ) (t : Bool) → 0 < w → in_range (half_of w) z ≡ t → cond t (some (le w (of_signed (half_of w) z))) none ≡ some u
      → told row (R.signed (to_signed (half_of w) (num u))) ≡ some (S.signed z)
  unfolding told
  signed_by w z u true k h e = rw (← (some-injective _ _ e), signed_back w z k (ltb-true (mag z) (half_of w) h))
  signed_by w z u false k h e = absurd (none-ne-some _ e)

  signed-told : (w : ℕ) (x : Setting) (u : List ℕ) → 0 < w → signed_bytes w x ≡ some u → told row (R.signed (to_signed (half_of w) (num u))) ≡ some x
  unfolding signed_bytes
  signed-told w S.null u k e = absurd (none-ne-some _ e)
  signed-told w (S.bool v) u k e = absurd (none-ne-some _ e)
  signed-told w (S.signed z) u k e = signed_by w z u (in_range (half_of w) z) k refl e
  signed-told w (S.float32 n) u k e = absurd (none-ne-some _ e)
  signed-told w (S.float64 n) u k e = absurd (none-ne-some _ e)
  signed-told w (S.bytes v) u k e = absurd (none-ne-some _ e)

  float32-told : (x : Setting) (u : List ℕ) → Proper x → float32_bytes x ≡ some u → told row (R.float32 (num u)) ≡ some x
  unfolding float32_bytes told
  float32-told S.null u b e = absurd (none-ne-some _ e)
  float32-told (S.bool v) u b e = absurd (none-ne-some _ e)
  float32-told (S.signed z) u b e = absurd (none-ne-some _ e)
  float32-told (S.float32 n) u b e = rw (← (some-injective _ _ e), num-le 4 n b)
  float32-told (S.float64 n) u b e = absurd (none-ne-some _ e)
  float32-told (S.bytes v) u b e = absurd (none-ne-some _ e)

  float64-told : (x : Setting) (u : List ℕ) → Proper x → float64_bytes x ≡ some u → told row (R.float64 (num u)) ≡ some x
  unfolding float64_bytes told
  float64-told S.null u b e = absurd (none-ne-some _ e)
  float64-told (S.bool v) u b e = absurd (none-ne-some _ e)
  float64-told (S.signed z) u b e = absurd (none-ne-some _ e)
  float64-told (S.float32 n) u b e = absurd (none-ne-some _ e)
  float64-told (S.float64 n) u b e = rw (← (some-injective _ _ e), num-le 8 n b)
  float64-told (S.bytes v) u b e = absurd (none-ne-some _ e)

  value-told : (f : Fixed) (x : Setting) (u : List ℕ) → Proper x → in_bytes f x ≡ some u → told row (value_of f u) ≡ some x
  unfolding in_bytes value_of
  value-told bo x u b e = bool-told x u e
  value-told i1 x u b e = signed-told 1 x u (omega arith) e
  value-told i2 x u b e = signed-told 2 x u (omega arith) e
  value-told i4 x u b e = signed-told 4 x u (omega arith) e
  value-told i8 x u b e = signed-told 8 x u (omega arith) e
  value-told f4 x u b e = float32-told x u b e
  value-told f8 x u b e = float64-told x u b e

-- ---- a leaf that was set

is-null : (x : Setting) → is_null x ≡ true → S.null ≡ x
is-null S.null e = refl
is-null (S.bool v) e = absurd (true≢false (sym e))
is-null (S.signed z) e = absurd (true≢false (sym e))
is-null (S.float32 n) e = absurd (true≢false (sym e))
is-null (S.float64 n) e = absurd (true≢false (sym e))
is-null (S.bytes u) e = absurd (true≢false (sym e))

-- the cell that a setting makes is null, or holds its bytes
pub cell-null : (w : ℕ) (T : Ty) (x : Setting) → is_null x ≡ true → cell_of w T x ≡ null (zeros w)
unfolding cell_of
cell-null w T x e = rw e

pub cell-given : (w : ℕ) (T : Ty) (x : Setting) → is_null x ≡ false → cell_of w T x ≡ leaf (given T x)
unfolding cell_of
cell-given w T x e = rw e

flag-null : (c : Cell) (u : List ℕ) → c ≡ null u → flag c ≡ 1
unfolding on_null
flag-null c u e = rw e

flag-leaf : (c : Cell) (u : List ℕ) → c ≡ leaf u → flag c ≡ 0
unfolding on_null
flag-leaf c u e = rw e

lays-flag : (T : Ty) (c : Cell) (u : List ℕ) → Lays T c u → flag c ≡ 0
lays-flag T c u y = (codec-lawful T).here c (lays-fits T c u y)

-- the bytes that stand for a leaf are its own
leaf-own : (T : Ty) (c : Cell) (v u : List ℕ) → Leafy T → c ≡ leaf v → Lays T c u → v ≡ u
unfolding codec number string bytes
leaf-own (fix f) c v u l e y = sym (ap bytes e) ∙ y.is
leaf-own (text k) c v u l e y = sym (ap bytes e) ∙ y.is
leaf-own (li t) c v u l e y = absurd l
leaf-own (ma a b) c v u l e y = absurd l
leaf-own (ro ts) c v u l e y = absurd l

-- an answer at a place that holds what was set
null-told : (row : List ℕ) (T : Ty) (p : List ℕ) (c : Cell) (r : Seen) (x : Setting) (w : ℕ) → Landing row T p c r → Valid p c → look p c ≡ cell_of w T x
    → is_null x ≡ true → told row (answer_of T r) ≡ some x
unfolding answer_of told
null-told row T p c r x w (off n g) v e h = absurd (g v)
null-told row T p c r x w (at_null _ f) v e h = ap some (is-null x h)
null-told row T p c r x w (at_seen {u = u} _ y s) v e h = absurd
    (omega (arith, flag-null (look p c) (zeros w) (e ∙ cell-null w T x h), lays-flag T (look p c) u y))

given-told : (row : List ℕ) (T : Ty) (p : List ℕ) (c : Cell) (r : Seen) (x : Setting) (w : ℕ) → Landing row T p c r → Valid p c → look p c ≡ cell_of w T x
    → is_null x ≡ false → Leafy T
    → ((s : Seat) (o : ℕ) (u : List ℕ) → Sits row o u → given T x ≡ u → told row (answer_of T (seen s o u)) ≡ some x) → told row (answer_of T r) ≡ some x
given-told row T p c r x w (off n g) v e h l tells = absurd (g v)
given-told row T p c r x w (at_null _ f) v e h l tells = absurd (omega (arith, flag-leaf (look p c) (given T x) (e ∙ cell-given w T x h)))
given-told row T p c r x w (at_seen {s = s} {o = o} {u = u} _ y st) v e h l tells = tells s o u st
    (leaf-own T (look p c) (given T x) u l (e ∙ cell-given w T x h) y)

fixed-tells : (row : List ℕ) (T : Ty) (f : Fixed) (x : Setting) (v : List ℕ) → T ≡ fix f → Proper x → in_bytes f x ≡ some v
    → (s : Seat) (o : ℕ) (u : List ℕ) → given T x ≡ u → told row (answer_of T (seen s o u)) ≡ some x
unfolding answer_of given
fixed-tells row T f x v q b g s o u e =
    let k : v ≡ u = rw (q, g) at e in
    rw (q, ← k) (value-told row f x v b g)

text-tells : (row : List ℕ) (T : Ty) (k : Text) (x : Setting) (v : List ℕ) → T ≡ text k → x ≡ S.bytes v → (s : Seat) (o : ℕ) (u : List ℕ) → Sits row o u
    → given T x ≡ u → told row (answer_of T (seen s o u)) ≡ some x
unfolding answer_of given told
text-tells row T k x v q h s o u st e =
    let n : v ≡ u = rw (q, h) at e in
    rw (q, st.there, h, n)

pub told-set : (row : List ℕ) (T : Ty) (p : List ℕ) (c : Cell) (r : Seen) (x : Setting) (w : ℕ) (e₀ : Cell) → Proper x → Fine x T e₀ → Landing row T p c r
    → Valid p c → look p c ≡ cell_of w T x → told row (answer_of T r) ≡ some x
told-set row T p c r x w e₀ b (number_null q h) l v e = null-told row T p c r x w l v e h
told-set row T p c r x w e₀ b (number_given {f = f} {u = u} q h g) l v e = given-told row T p c r x w l v e h (subst Leafy (sym q) tt)
    (λ s o u' st m. fixed-tells row T f x u q b g s o u' m)
told-set row T p c r x w e₀ b (text_null q h f) l v e = null-told row T p c r x w l v e h
told-set row T p c r x w e₀ b (text_given {k = k} {u = u} q h f n m) l v e = given-told row T p c r x w l v e (ap is_null h) (subst Leafy (sym q) tt)
    (λ s o u' st m. text-tells row T k x u q h s o u' st m)

-- ---- a present leaf tells a setting of the bytes that it holds

pub record Tells (f : Fixed) (u : List ℕ) (x : Setting) : Type 0 where
  pub bytes : in_bytes f x ≡ some u
  pub proper : Proper x
  pub present : is_null x ≡ false

one_bit : (n : ℕ) → n < 2 → digit (eqb n 1) ≡ n % 256
one_bit zero h = refl
one_bit (suc zero) h = refl
one_bit (suc (suc n)) h = absurd (omega arith)

-- a number of w bytes
record Wide (w : ℕ) (u : List ℕ) : Type 0 where
  long : length u ≡ w
  proper : Bytes u

wide-le : {w : ℕ} {u : List ℕ} → Wide w u → le w (num u) ≡ u
wide-le {w} {u} h = ap (λ (n : ℕ). le n (num u)) (sym h.long) ∙ le-num h.proper

wide-lt : {w : ℕ} {u : List ℕ} → Wide w u → num u < 256 ^ w
wide-lt {w} {u} h = subst (λ (n : ℕ). num u < 256 ^ n) h.long (num-lt h.proper)

bool_tells : (u : List ℕ) → Wide 1 u → num u < 2 → Tells bo u (S.bool (eqb (num u) 1))
unfolding in_bytes bool_bytes le
bool_tells u h l = record { bytes = ap some (ap (λ (n : ℕ). n ∷ []) (one_bit (num u) l) ∙ wide-le h); proper = tt; present = refl }

signed-bytes : (w : ℕ) (u : List ℕ) → 0 < w → Wide w u → signed_bytes w (S.signed (to_signed (half_of w) (num u))) ≡ some u
unfolding signed_bytes
signed-bytes w u k h =
    let z = to_signed (half_of w) (num u) in
    let m : mag z < half_of w = to_signed-mag (half_of w) (num u) (rw (half-bytes w k) (wide-lt h)) in
    let g : le w (of_signed (half_of w) z) ≡ u = rw h.long at (bytes_back h.proper (rw h.long k)) in
    rw (lt-ltb (mag z) (half_of w) m, g)

fixed-wide : (f : Fixed) (w : ℕ) (e : Cell) (u : List ℕ) → width f ≡ w → Lays (fix f) e u → Wide w u
unfolding codec number
fixed-wide f w e u q y = record { long = rw (← y.is) (y.fits.wide ∙ q); proper = rw (← y.is) y.fits.proper }

bool-below : (e : Cell) (u : List ℕ) → Lays (fix bo) e u → num u < 2
unfolding codec number limit
bool-below e u y = rw (← y.is) y.fits.below

value_tells : (row : List ℕ) (f : Fixed) (e : Cell) (u : List ℕ) (x : Setting) → Lays (fix f) e u → told row (value_of f u) ≡ some x → Tells f u x
unfolding in_bytes value_of told float32_bytes float64_bytes width types fixed_place
value_tells row bo e u x y g = subst (Tells bo u) (some-injective _ _ g) (bool_tells u (fixed-wide bo 1 e u refl y) (bool-below e u y))
value_tells row i1 e u x y g = subst (Tells i1 u) (some-injective _ _ g)
    (record { bytes = signed-bytes 1 u (omega arith) (fixed-wide i1 1 e u refl y); proper = tt; present = refl })
value_tells row i2 e u x y g = subst (Tells i2 u) (some-injective _ _ g)
    (record { bytes = signed-bytes 2 u (omega arith) (fixed-wide i2 2 e u refl y); proper = tt; present = refl })
value_tells row i4 e u x y g = subst (Tells i4 u) (some-injective _ _ g)
    (record { bytes = signed-bytes 4 u (omega arith) (fixed-wide i4 4 e u refl y); proper = tt; present = refl })
value_tells row i8 e u x y g = subst (Tells i8 u) (some-injective _ _ g)
    (record { bytes = signed-bytes 8 u (omega arith) (fixed-wide i8 8 e u refl y); proper = tt; present = refl })
value_tells row f4 e u x y g = let h = fixed-wide f4 4 e u refl y in subst (Tells f4 u) (some-injective _ _ g)
    (record { bytes = ap some (wide-le h); proper = wide-lt h; present = refl })
value_tells row f8 e u x y g = let h = fixed-wide f8 8 e u refl y in subst (Tells f8 u) (some-injective _ _ g)
    (record { bytes = ap some (wide-le h); proper = wide-lt h; present = refl })

pub value-present : (f : Fixed) (u : List ℕ) → refusal_in (value_of f u) ≡ none
unfolding value_of refusal_in
value-present bo u = refl
value-present i1 u = refl
value-present i2 u = refl
value-present i4 u = refl
value-present i8 u = refl
value-present f4 u = refl
value-present f8 u = refl

-- the setting that a present leaf tells may be made there, and makes it what it is
pub record Same (x : Setting) (T : Ty) (p : List ℕ) (c : Cell) (a : Answer) : Type 0 where
  pub proper : Proper x
  pub present : refusal_in a ≡ none
  pub suits : suits T x ≡ true
  pub keeps : keeps T a x ≡ true
  pub is : (w : ℕ) → cell_of w T x ≡ look p c

fixed_same : (row : List ℕ) (f : Fixed) (p : List ℕ) (c : Cell) (s : Seat) (o : ℕ) (u : List ℕ) (x : Setting) → Lays (fix f) (look p c) u → Tells f u x
    → Same x (fix f) p c (answer_of (fix f) (seen s o u))
unfolding answer_of suits keeps codec number cell_of given
fixed_same row f p c s o u x y t = record {
  proper = t.proper;
  present = value-present f u;
  suits = rw (t.present, t.bytes);
  keeps = refl;
  is = λ w. rw (t.present, t.bytes) (sym (y.fits.plain ∙ ap leaf y.is));
}

text_same : (row : List ℕ) (k : Text) (p : List ℕ) (c : Cell) (s : Seat) (o : ℕ) (u : List ℕ) (x : Setting) → Lays (text k) (look p c) u → S.bytes u ≡ x
    → Same x (text k) p c (answer_of (text k) (seen s o u))
unfolding answer_of refusal_in suits keeps keeps_text codec string cell_of given
text_same row k p c s o u x y e =
    subst (λ (x : Setting). Same x (text k) p c (R.bytes o (length u))) e (record {
      proper = rw (← y.is) y.fits.proper;
      present = refl;
      suits = yes-is (spells? k u) (rw (← y.is) y.fits.spelled);
      keeps = eq-eqb (length u) (length u) refl;
      is = λ w. sym (y.fits.plain ∙ ap leaf y.is);
    })

pub told_same : (row : List ℕ) (T : Ty) (p : List ℕ) (c : Cell) (r : Seen) (x : Setting) → Landing row T p c r → told row (answer_of T r) ≡ some x
    → x ≢ S.null → Valid p c × Same x T p c (answer_of T r)
unfolding answer_of told
told_same row (fix f) p c r x (off n g) e k = absurd (none-ne-some _ e)
told_same row (fix f) p c r x (at_null v z) e k = absurd (k (sym (some-injective _ _ e)))
told_same row (fix f) p c r x (at_seen {s = s} {o = o} {u = u} v y st) e k = (v, fixed_same row f p c s o u x y (value_tells row f (look p c) u x y e))
told_same row (text t) p c r x (off n g) e k = absurd (none-ne-some _ e)
told_same row (text t) p c r x (at_null v z) e k = absurd (k (sym (some-injective _ _ e)))
told_same row (text t) p c r x (at_seen {s = s} {o = o} {u = u} v y st) e k =
    (v, text_same row t p c s o u x y (ap S.bytes (sym st.there) ∙ some-injective _ _ e))
told_same row (li t) p c r x (off n g) e k = absurd (none-ne-some _ e)
told_same row (li t) p c r x (at_null v z) e k = absurd (k (sym (some-injective _ _ e)))
told_same row (li t) p c r x (at_seen v y st) e k = absurd (none-ne-some _ e)
told_same row (ma a b) p c r x (off n g) e k = absurd (none-ne-some _ e)
told_same row (ma a b) p c r x (at_null v z) e k = absurd (k (sym (some-injective _ _ e)))
told_same row (ma a b) p c r x (at_seen v y st) e k = absurd (none-ne-some _ e)
told_same row (ro ts) p c r x (off n g) e k = absurd (none-ne-some _ e)
told_same row (ro ts) p c r x (at_null v z) e k = absurd (k (sym (some-injective _ _ e)))
told_same row (ro ts) p c r x (at_seen v y st) e k = absurd (none-ne-some _ e)
