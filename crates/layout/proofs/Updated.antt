-- Setting a leaf writes its bit and its own bytes or slot, and the row then stands for the tree with that leaf set. Assumes nothing.
use mathlib.Core.Path.{◌≡◌, refl, sym, ap, ◌∙◌, subst}
use mathlib.Core.Bool.{Bool, true, false, cond, true≢false}
use mathlib.Core.Logic.{◌≢◌}
use mathlib.Core.Option.{Option, none, some}
use mathlib.Core.List.{List, [], ◌∷◌}
use Prim.Native.Nat.{ℕ, ◌+◌, ◌/◌, ◌%◌, ◌^◌, ◌≤◌, ◌<◌}
use native.Mathlib.Nat.{sub-zero}
use native.Mathlib.Omega.{arith}
use lib.ListN.{length, set, get_or, length-set, length-replicate}
use lib.Seq.{sets, length-sets}
use Rattle.words.specs.Bytes.{empty, byte, le, num, zeros, fill}
use Rattle.words.specs.Bits.{digit, with_bit, put_bit}
use Rattle.words.specs.Signed.{half_of, of_signed, in_range}
use Rattle.words.proofs.Numbers.{bytes_le, length-le, num-lt}
use Rattle.words.proofs.Parts.{get_d_part}
use Rattle.words.proofs.Runs.{part-sets, sets_last, sets-part-in}
use Rattle.words.proofs.BitLaws.{length-put}
use Rattle.schema.specs.Marks.{types}
use Rattle.schema.specs.Types.{Fixed, bo, i1, i2, i4, i8, f4, f8, fixed_place, width, Text, Ty, fix, text, li, ma, ro}
use Rattle.layout.specs.Cells.{Cell, null, leaf, node, on_null, flag, bytes, parts, part_of}
use Rattle.layout.specs.Layout.{NumberFits, StringFits, number, string, struct, array, pair, limit, codec, Lays}
use Rattle.layout.specs.Places.{starts}
use Rattle.layout.specs.Reading.{type_along}
use Rattle.layout.specs.Setting as S
use Rattle.layout.specs.Setting.{Setting, is_null, bool_bytes, signed_bytes, float32_bytes, float64_bytes, in_bytes, or_empty, write_fixed, text_of, write}
use Rattle.layout.proofs.Cells.{parts-node}
use Rattle.layout.proofs.Stepped as Stepped
use Rattle.layout.proofs.Stepped.{FixedSlot, Seated, Comes, Leafy}
use Rattle.layout.proofs.Bitmaps.{nulled}
use Rattle.layout.proofs.Tree.{update, update-count, part-set}
use Rattle.layout.proofs.Aside.{Aside}
use Rattle.layout.proofs.Seen.{Like, fixed-starts, null-starts, seen-starts, Instead, others_by, past_end, walk-on}
use Rattle.layout.specs.Walk.{Seat, Seen, seen, Step, own, step_in, go_on, walk, child_ty}
use Rattle.layout.proofs.Walked.{comes, own-holds, Sits, sits-in}

-- ---- what a setting writes fits the leaf

abbrev Right : Fixed → Option (List ℕ) → Type 0
Right f none = Unit {0}
Right f (some u) = NumberFits (width f) (limit f) (leaf u)

le_right : (f : Fixed) (w n : ℕ) → width f ≡ w → limit f ≡ 256 ^ w → Right f (some (le w n))
unfolding bytes
le_right f w n e g = record {
  plain = refl;
  wide = length-le w n ∙ sym e;
  proper = bytes_le w n;
  below = rw g
      (subst (λ (k : ℕ). num (le w n) < 256 ^ k) (length-le w n) (num-lt (bytes_le w n)));
}

bool-right : (v : Bool) → Right bo (some (digit v ∷ []))
unfolding bytes width types fixed_place limit num
bool-right true = record { plain = refl; wide = refl; proper = byte {d = 1} (omega arith) empty; below = omega arith }
bool-right false = record { plain = refl; wide = refl; proper = byte {d = 0} (omega arith) empty; below = omega arith }

signed-right : (f : Fixed) (w : ℕ) → width f ≡ w → limit f ≡ 256 ^ w → (x : Setting) → Right f (signed_bytes w x)
unfolding signed_bytes
signed-right f w e g S.null = tt
signed-right f w e g (S.bool v) = tt
signed-right f w e g (S.signed z) = go (in_range (half_of w) z)
  where
    go : (t : Bool) → Right f (cond t (some (le w (of_signed (half_of w) z))) none)
    go true = le_right f w (of_signed (half_of w) z) e g
    go false = tt
signed-right f w e g (S.float32 n) = tt
signed-right f w e g (S.float64 n) = tt
signed-right f w e g (S.bytes u) = tt

in_right : (f : Fixed) (x : Setting) → Right f (in_bytes f x)
unfolding in_bytes bool_bytes float32_bytes float64_bytes width types fixed_place limit
in_right bo S.null = tt
in_right bo (S.bool v) = bool-right v
in_right bo (S.signed z) = tt
in_right bo (S.float32 n) = tt
in_right bo (S.float64 n) = tt
in_right bo (S.bytes u) = tt
in_right i1 x = signed-right i1 1 refl refl x
in_right i2 x = signed-right i2 2 refl refl x
in_right i4 x = signed-right i4 4 refl refl x
in_right i8 x = signed-right i8 8 refl refl x
in_right f4 S.null = tt
in_right f4 (S.bool v) = tt
in_right f4 (S.signed z) = tt
in_right f4 (S.float32 n) = le_right f4 4 n refl refl
in_right f4 (S.float64 n) = tt
in_right f4 (S.bytes u) = tt
in_right f8 S.null = tt
in_right f8 (S.bool v) = tt
in_right f8 (S.signed z) = tt
in_right f8 (S.float32 n) = tt
in_right f8 (S.float64 n) = le_right f8 8 n refl refl
in_right f8 (S.bytes u) = tt

pub in-fits : (f : Fixed) (x : Setting) (u : List ℕ) → in_bytes f x ≡ some u → NumberFits (width f) (limit f) (leaf u)
in-fits f x u e = subst (Right f) e (in_right f x)

-- null writes no bytes
pub null-bytes : (f : Fixed) → in_bytes f S.null ≡ none
unfolding in_bytes bool_bytes signed_bytes float32_bytes float64_bytes
null-bytes bo = refl
null-bytes i1 = refl
null-bytes i2 = refl
null-bytes i4 = refl
null-bytes i8 = refl
null-bytes f4 = refl
null-bytes f8 = refl

null-none : (f : Fixed) (x : Setting) → is_null x ≡ true → in_bytes f x ≡ none
null-none f S.null e = null-bytes f
null-none f (S.bool v) e = absurd (true≢false (sym e))
null-none f (S.signed z) e = absurd (true≢false (sym e))
null-none f (S.float32 n) e = absurd (true≢false (sym e))
null-none f (S.float64 n) e = absurd (true≢false (sym e))
null-none f (S.bytes u) e = absurd (true≢false (sym e))

-- ---- writing in a part of the row is writing in the row

module _ {row b : List ℕ} {o : ℕ} (st : Sits row o b) where
  run_in : (j : ℕ) (v : List ℕ) → j + length v ≤ length b → sets row (o + j) v ≡ sets row o (sets b j v)
  run_in j v h = sym (sets-part-in row o (length b) j v st.room h) ∙ ap (λ (l : List ℕ). sets row o (sets l j v)) st.there

  bit_in : (at i : ℕ) (v : Bool) → at + i / 8 < length b → put_bit row (o + at) i v ≡ sets row o (put_bit b at i v)
  bit_in at i v h =
      let k = at + i / 8 in
      let e : o + at + i / 8 ≡ o + k = omega arith in
      let g : get_or row (o + k) 0 ≡ get_or b k 0 = sym (get_d_part row o (length b) k h) ∙ ap (λ (l : List ℕ). get_or l k 0) st.there in
      rw (e, g) (run_in k (with_bit (get_or b k 0) (i % 8) v ∷ []) (omega arith))

  put-sits : (b' : List ℕ) → length b' ≡ length b → Sits (sets row o b') o b'
  put-sits b' n = let r = st.room in record { there = part-sets row o b' (omega arith); room = rw length-sets (omega arith) }

-- the bit, and then the slot
bit-slot : {row b : List ℕ} {o : ℕ} → Sits row o b → (at i : ℕ) (z : Bool) (j : ℕ) (v : List ℕ) → at + i / 8 < length b → j + length v ≤ length b
    → sets (put_bit row (o + at) i z) (o + j) v ≡ sets row o (sets (put_bit b at i z) j v)
bit-slot {row} {b} {o} st at i z j v h k =
    let b₁ = put_bit b at i z in
    let n : length b₁ ≡ length b = length-put b at i z in
    rw (bit_in st at i z h) (run_in (put-sits st b₁ n) j v (rw n k) ∙ sets_last row o b₁ (sets b₁ j v) (sym (length-sets b₁ j v)))

-- ---- which settings a leaf takes

-- the setting x may be made at the end of the path in contents c of type t; there the type is T
pub data Settable (x : Setting) (T : Ty) : List ℕ → Ty → Cell → Type 0 where
  fixed_null : {i : ℕ} {t : Ty} {c : Cell} {f : Fixed} → T ≡ fix f → i < length (parts c) → child_ty t i ≡ T → is_null x ≡ true → Settable x T (i ∷ []) t c
  fixed_given : {i : ℕ} {t : Ty} {c : Cell} {f : Fixed} {u : List ℕ} → T ≡ fix f → i < length (parts c) → child_ty t i ≡ T → is_null x ≡ false
      → in_bytes f x ≡ some u → Settable x T (i ∷ []) t c
  text_null : {i : ℕ} {t : Ty} {c : Cell} {k : Text} → T ≡ text k → i < length (parts c) → child_ty t i ≡ T → is_null x ≡ true → flag (part_of i c) ≡ 1
      → Settable x T (i ∷ []) t c
  text_given : {i : ℕ} {t : Ty} {c : Cell} {k : Text} → T ≡ text k → i < length (parts c) → child_ty t i ≡ T → is_null x ≡ false → flag (part_of i c) ≡ 0
      → length (text_of x) ≡ length (bytes (part_of i c)) → StringFits k (leaf (text_of x)) → Settable x T (i ∷ []) t c
  deeper : {i : ℕ} {p : List ℕ} {t : Ty} {c : Cell} → i < length (parts c) → flag (part_of i c) ≡ 0 → Settable x T p (child_ty t i) (part_of i c)
      → Settable x T (i ∷ p) t c

-- what the leaf then holds
pub data Becomes (x : Setting) : Ty → Cell → Type 0 where
  as_null : {T : Ty} (w : ℕ) → is_null x ≡ true → Becomes x T (null (zeros w))
  as_number : {f : Fixed} {u : List ℕ} → is_null x ≡ false → in_bytes f x ≡ some u → Becomes x (fix f) (leaf u)
  as_text : {k : Text} → is_null x ≡ false → Becomes x (text k) (leaf (text_of x))

-- The bytes b at the row's byte o stood for contents c; after the setting other bytes, as many, stand there for c with the leaf set.
pub record Edited (x : Setting) (T : Ty) (row : List ℕ) (p : List ℕ) (t : Ty) (c : Cell) (o : ℕ) (b : List ℕ) (after : List ℕ) : Type 0 where
  pub new : Cell
  pub becomes : Becomes x T new
  pub own : List ℕ
  pub lays : Lays t (update p new c) own
  pub size : length own ≡ length b
  pub is : after ≡ sets row o own
  pub others : (q : List ℕ) (U : Ty) → type_along q t ≡ some U → p ≢ q → (s : Seat) → Like U (walk q t s o own) (walk q t s o b)
  pub there : (s : Seat) → starts T (walk p t s o own) ≡ starts T (walk p t s o b)

-- ---- a leaf

fixed-slot : (f : Fixed) (x : Setting) (w : ℕ) (u : List ℕ) → in_bytes f x ≡ some u → FixedSlot w f (leaf u) (fill w (or_empty (in_bytes f x)))
fixed-slot f x w u e = rw e (Stepped.given (in-fits f x u e))

null-slot : (f : Fixed) (x : Setting) (w : ℕ) → is_null x ≡ true → FixedSlot w f (null (zeros w)) (fill w (or_empty (in_bytes f x)))
unfolding fill
null-slot f x w e = rw (null-none f x e, sub-zero w) Stepped.nulls

-- whichever it is: the cell that the setting makes of a fixed-width leaf in a slot of w bytes
record MadeFixed (x : Setting) (T : Ty) (f : Fixed) (w : ℕ) : Type 0 where
  new : Cell
  becomes : Becomes x T new
  nullness : nulled new ≡ is_null x
  slot : FixedSlot w f new (fill w (or_empty (in_bytes f x)))

made-null : (x : Setting) (T : Ty) (f : Fixed) (w : ℕ) → is_null x ≡ true → MadeFixed x T f w
unfolding on_null
made-null x T f w e = record { new = null (zeros w); becomes = as_null w e; nullness = sym e; slot = null-slot f x w e }

made-given : (x : Setting) (T : Ty) (f : Fixed) (w : ℕ) (u : List ℕ) → T ≡ fix f → is_null x ≡ false → in_bytes f x ≡ some u → MadeFixed x T f w
unfolding on_null
made-given x T f w u q e g = record {
  new = leaf u;
  becomes = subst (λ (t : Ty). Becomes x t (leaf u)) (sym q) (as_number e g);
  nullness = sym e;
  slot =
      fixed-slot f x w u g;
}

fixed-there : (T : Ty) (f : Fixed) (r r' : Seen) → T ≡ fix f → starts T r ≡ starts T r'
fixed-there T f r r' q = subst (λ (T : Ty). starts T r ≡ starts T r') (sym q) (fixed-starts f r ∙ sym (fixed-starts f r'))

leafy-fixed : (t T : Ty) (f : Fixed) → t ≡ T → T ≡ fix f → Leafy t
leafy-fixed t T f e q = subst Leafy (sym (e ∙ q)) tt

leafy-text : (t T : Ty) (k : Text) → t ≡ T → T ≡ text k → Leafy t
leafy-text t T k e q = subst Leafy (sym (e ∙ q)) tt

-- the bit and the slot of a fixed-width leaf
seat-edit : (x : Setting) (T : Ty) (f : Fixed) (row : List ℕ) (i : ℕ) (t : Ty) (c : Cell) (o : ℕ) (b : List ℕ) (s : Seat) → Lays t c b → length b < 2 ^ 32
    → i < length (parts c) → T ≡ fix f → child_ty t i ≡ T → Sits row o b
    → ((w : ℕ) → MadeFixed x T f w) → Seated t (child_ty t i) c i o b s → Edited x T row (i ∷ []) t c o b (write_fixed f x s row)
unfolding write_fixed update
seat-edit x T f row i t c o b s y lim k q e st made d =
    let m = made s.wide in
    let v = fill s.wide (or_empty (in_bytes f x)) in
    let n : length v ≡ s.wide = d.long f (e ∙ q) m.new v m.slot in
    let b' = sets (put_bit b d.bits₀ i (is_null x)) d.slot₀ v in
    let c' = node (set (parts c) i m.new) in
    let ly : Lays t c' b' = subst (λ (z : Bool). Lays t (node (set (parts c) i m.new)) (sets (put_bit b d.bits₀ i z) d.slot₀ v)) m.nullness
    (d.fixed f (e ∙ q) m.new v m.slot) in
    let sz : length b' ≡ length b = length-sets (put_bit b d.bits₀ i (is_null x)) d.slot₀ v ∙ length-put b d.bits₀ i (is_null x) in
    let g : Instead t c c' b b' = record { was = y; is = ly; small = lim; size = sz; count = rw parts-node (length-set (parts c) i m.new) } in
    let aside : Aside t i b b' = subst (λ (z : Bool). Aside t i b (sets (put_bit b d.bits₀ i z) d.slot₀ v)) m.nullness
    (d.fixed-aside f (e ∙ q) m.new v m.slot) in
    record {
      new = m.new;
      becomes = m.becomes;
      own = b';
      lays = ly;
      size = sz;
      others = λ p U h ne z. others_by t c c' b b' g i [] p U z o k aside h ne (past_end t c c' b b' g i U z o (leafy-fixed (child_ty t i) T f e q));
      there = λ z. fixed-there T f _ _ q;
      is = rw (d.bits, d.number, d.slot) (bit-slot st d.bits₀ i (is_null x) d.slot₀ v d.bit-room (omega (arith, d.slot-room)));
    }

fixed-edit : (x : Setting) (T : Ty) (f : Fixed) (row : List ℕ) (i : ℕ) (t : Ty) (c : Cell) (o : ℕ) (b : List ℕ) (r : Step) → Lays t c b → T ≡ fix f
    → i < length (parts c) → child_ty t i ≡ T → length b < 2 ^ 32 → Sits row o b
    → ((w : ℕ) → MadeFixed x T f w) → Comes t (child_ty t i) c i o b r → Edited x T row (i ∷ []) t c o b
    (write (fix f) x (go_on [] (λ t s o b. walk [] t s o b) r) row)
unfolding go_on write walk
fixed-edit x T f row i t c o b r y q h e lim st made (Stepped.past g) = absurd (omega arith)
fixed-edit x T f row i t c o b r y q h e lim st made (Stepped.missing {s = s} k g d) = seat-edit x T f row i t c o b s y lim h q e st made d
fixed-edit x T f row i t c o b r y q h e lim st made (Stepped.on {s = s} {j = j} {u = u} k g d a) =
    let n : length u < 2 ^ 32 = omega (arith, d.room) in
    rw (own-holds (child_ty t i) (part_of i c) s (o + j) u (seen s (o + j) u) d.lays n)
    (seat-edit x T f row i t c o b s y lim h q e st made (a (subst Leafy (sym (e ∙ q)) tt)))

text-wide : (t : Ty) (k : Text) → t ≡ text k → (codec t).wide ≡ none
unfolding codec string
text-wide t k e = ap (λ (t : Ty). (codec t).wide) e

null-set : (c : Cell) (i : ℕ) (v : List ℕ) → i < length (parts c) → flag (part_of i (node (set (parts c) i (null v)))) ≡ 1
unfolding on_null
null-set c i v h = ap (λ (z : Cell). flag z) (part-set i c (null v) h)

-- a null string or binary takes null, which zeroes its slot
text-null-edit : (x : Setting) (T : Ty) (k : Text) (row : List ℕ) (i : ℕ) (t : Ty) (c : Cell) (o : ℕ) (b : List ℕ) (r : Step) → Lays t c b
    → length b < 2 ^ 32 → T ≡ text k → i < length (parts c) → child_ty t i ≡ T → Sits row o b
    → is_null x ≡ true → flag (part_of i c) ≡ 1 → Comes t (child_ty t i) c i o b r
    → Edited x T row (i ∷ []) t c o b (write (text k) x (go_on [] (λ t s o b. walk [] t s o b) r) row)
unfolding go_on write update
text-null-edit x T k row i t c o b r y lim q h e st z f (Stepped.past g) = absurd (omega arith)
text-null-edit x T k row i t c o b r y lim q h e st z f (Stepped.on l g d a) = absurd (omega arith)
text-null-edit x T k row i t c o b r y lim q h e st z f (Stepped.missing {s = s} l g d) =
    let v = zeros s.wide in
    let n : length v ≡ s.wide = length-replicate s.wide 0 in
    let no = text-wide (child_ty t i) k (e ∙ q) in
    let b' = sets b d.slot₀ v in
    let c' = node (set (parts c) i (null v)) in
    let cnt : length (parts c') ≡ length (parts c) = rw parts-node (length-set (parts c) i (null v)) in
    let g : Instead t c c' b b' = record { was = y; is = d.emptied no f; small = lim; size = length-sets b d.slot₀ v; count = cnt } in
    record {
      new = null v;
      becomes = as_null s.wide z;
      own = b';
      lays = d.emptied no f;
      size = length-sets b d.slot₀ v;
      others = λ p U h' ne z. others_by t c c' b b' g i [] p U z o h (d.emptied-aside no f) h' ne
          (past_end t c c' b b' g i U z o (leafy-text (child_ty t i) T k e q));
      there = λ z. null-starts T t c' i z o b' (d.emptied no f) (rw length-sets lim) (omega arith) (null-set c i v h)
          ∙ sym (null-starts T t c i z o b y lim h f);
      is = rw d.slot (run_in st d.slot₀ v (omega (arith, d.slot-room)));
    }

-- a present one takes bytes of its length
text-lays : (t : Ty) (k : Text) (u : List ℕ) → t ≡ text k → StringFits k (leaf u) → Lays t (leaf u) u
unfolding codec string bytes
text-lays t k u e h = subst (λ (t : Ty). Lays t (leaf u) u) (sym e) (record { fits = h; is = refl })

-- a leaf's bytes are what stands for it, and it has no parts
record LeafIs (c : Cell) (u : List ℕ) : Type 0 where
  own : bytes c ≡ u
  none : length (parts c) ≡ 0

text-is : (t : Ty) (k : Text) (c : Cell) (u : List ℕ) → t ≡ text k → Lays t c u → LeafIs c u
unfolding codec string parts
text-is t k c u e y = go (subst (λ (t : Ty). Lays t c u) e y)
  where
    go : Lays (text k) c u → LeafIs c u
    go y = record { own = y.is; none = ap (λ (z : Cell). length (parts z)) y.fits.plain }

text-edit : (x : Setting) (T : Ty) (k : Text) (row : List ℕ) (i : ℕ) (t : Ty) (c : Cell) (o : ℕ) (b : List ℕ) (r : Step) → Lays t c b → T ≡ text k
    → i < length (parts c) → child_ty t i ≡ T → length b < 2 ^ 32 → Sits row o b
    → is_null x ≡ false → flag (part_of i c) ≡ 0 → length (text_of x) ≡ length (bytes (part_of i c)) → StringFits k (leaf (text_of x))
    → Comes t (child_ty t i) c i o b r → Edited x T row (i ∷ []) t c o b (write (text k) x (go_on [] (λ t s o b. walk [] t s o b) r) row)
unfolding go_on write walk update parts
text-edit x T k row i t c o b r y q h e lim st z f n hb (Stepped.past g) = absurd (omega arith)
text-edit x T k row i t c o b r y q h e lim st z f n hb (Stepped.missing l g d) = absurd (omega arith)
text-edit x T k row i t c o b r y q h e lim st z f n hb (Stepped.on {s = s} {j = j} {u = u} l g d a) =
    let v = text_of x in
    let m : length u < 2 ^ 32 = omega (arith, d.room) in
    let is = text-is (child_ty t i) k (part_of i c) u (e ∙ q) d.lays in
    let nv : length v ≡ length u = n ∙ ap length is.own in
    let no = text-wide (child_ty t i) k (e ∙ q) in
    let b' = sets b j v in
    let c' = node (set (parts c) i (leaf v)) in
    let lv = text-lays (child_ty t i) k v (e ∙ q) hb in
    let ly : Lays t c' b' = d.put no (leaf v) v lv nv (sym is.none) in
    let w : Instead t c c' b b' = record { was = y; is = ly; small = lim; size = length-sets b j v; count = rw parts-node (length-set (parts c) i (leaf v)) } in
    rw (own-holds (child_ty t i) (part_of i c) s (o + j) u (seen s (o + j) u) d.lays m)
    (record {
      new = leaf v;
      becomes = subst (λ (t : Ty). Becomes x t (leaf v)) (sym q) (as_text z);
      own = b';
      lays = ly;
      size = length-sets b j v;
      others = λ p U h' ne z. others_by t c c' b b' w i [] p U z o h (d.put-aside no v nv) h' ne
          (past_end t c c' b b' w i U z o (leafy-text (child_ty t i) T k e q));
      there = λ z. (let a = d.put-there no v nv z o in let wo = walk-on t c c' b b' w i j u v z o [] a in
          rw (← e) (ap (starts (child_ty t i)) (wo.1 ∙ own-holds (child_ty t i) (leaf v) a.seat (o + j) v (seen a.seat (o + j) v) lv (omega arith))
          ∙ seen-starts (child_ty t i) a.seat (o + j) v no
          ∙ sym (ap (starts (child_ty t i)) (wo.0 ∙ own-holds (child_ty t i) (part_of i c) a.seat (o + j) u (seen a.seat (o + j) u) d.lays m)
          ∙ seen-starts (child_ty t i) a.seat (o + j) u no)));
      is = run_in st j v (omega (arith, d.room));
    })

-- ---- paths

pub varies : (t : Ty) (c : Cell) (b : List ℕ) → Lays t c b → 0 < length (parts c) → (codec t).wide ≡ none
unfolding codec number string array pair struct parts
varies (fix f) c b y h = absurd (omega (arith, ap (λ (z : Cell). length (parts z)) y.fits.plain))
varies (text t) c b y h = refl
varies (li t) c b y h = refl
varies (ma k v) c b y h = refl
varies (ro ts) c b y h = refl

abbrev Sets : Setting → Ty → List ℕ → List ℕ → Type 0
Sets x T row p = (t : Ty) (c : Cell) (s : Seat) (o : ℕ) (b : List ℕ) → Lays t c b → length b < 2 ^ 32 → Sits row o b → Settable x T p t c
    → Edited x T row p t c o b (write T x (walk p t s o b) row)

-- a settable place lies in a container
settable-parts : {x : Setting} {T : Ty} {p : List ℕ} {t : Ty} {c : Cell} → Settable x T p t c → 0 < length (parts c)
settable-parts (fixed_null q h e z) = omega arith
settable-parts (fixed_given q h e z g) = omega arith
settable-parts (text_null q h e z f) = omega arith
settable-parts (text_given q h e z f n b) = omega arith
settable-parts (deeper h f s) = omega arith

settable-count : {x : Setting} {T : Ty} {p : List ℕ} {t : Ty} {c : Cell} → Settable x T p t c → (y : Cell) → length (parts (update p y c)) ≡ length (parts c)
settable-count {c = c} (fixed_null {i = i} q h e z) y = update-count i [] y c
settable-count {c = c} (fixed_given {i = i} q h e z g) y = update-count i [] y c
settable-count {c = c} (text_null {i = i} q h e z f) y = update-count i [] y c
settable-count {c = c} (text_given {i = i} q h e z f n b) y = update-count i [] y c
settable-count {c = c} (deeper {i = i} {p = p} h f s) y = update-count i p y c

deep-edit : (x : Setting) (T : Ty) (row : List ℕ) (i : ℕ) (p : List ℕ) (t : Ty) (c : Cell) (o : ℕ) (b : List ℕ) (r : Step) → Lays t c b
    → i < length (parts c) → flag (part_of i c) ≡ 0 → length b < 2 ^ 32 → Sits row o b
    → Settable x T p (child_ty t i) (part_of i c) → Sets x T row p → Comes t (child_ty t i) c i o b r
    → Edited x T row (i ∷ p) t c o b (write T x (go_on p (λ t s o b. walk p t s o b) r) row)
unfolding go_on update
deep-edit x T row i p t c o b r y h f lim st a w (Stepped.past g) = absurd (omega arith)
deep-edit x T row i p t c o b r y h f lim st a w (Stepped.missing l g d) = absurd (omega arith)
deep-edit x T row i p t c o b r y h f lim st a w (Stepped.on {s = s} {j = j} {u = u} l g d q) =
    let m = w (child_ty t i) (part_of i c) s (o + j) u d.lays (omega (arith, d.room)) (sits-in j u st d.there d.room) a in
    let no = varies (child_ty t i) (part_of i c) u d.lays (settable-parts a) in
    let b' = sets b j m.own in
    let c₁ = update p m.new (part_of i c) in
    let c' = node (set (parts c) i c₁) in
    let ly : Lays t c' b' = d.put no c₁ m.own m.lays m.size (settable-count a m.new) in
    let v : Instead t c c' b b' = record {
      was = y;
      is = ly;
      small = lim;
      size = length-sets b j m.own;
      count = rw parts-node
          (length-set (parts c) i c₁);
    } in
    record {
      new = m.new;
      becomes = m.becomes;
      own = b';
      lays = ly;
      size = length-sets b j m.own;
      others = λ q U e ne z. others_by t c c' b b' v i p q U z o h (d.put-aside no m.own m.size) e ne λ q e ne.
          let k = d.put-there no m.own m.size z o in
          let wo = walk-on t c c' b b' v i j u m.own z o q k in
          rw (wo.0, wo.1) (m.others q U e ne k.seat);
      there = λ z. (let k = d.put-there no m.own m.size z o in let wo = walk-on t c c' b b' v i j u m.own z o p k in
          rw (wo.0, wo.1) (m.there k.seat));
      is = m.is ∙ run_in st j m.own (omega (arith, m.size, d.room));
    }

-- the row's bytes at o change as the tree does, and nothing else in the row
pub set-lays : (x : Setting) (T : Ty) (row : List ℕ) (p : List ℕ) → Sets x T row p
unfolding walk
set-lays x T row (i ∷ []) t c s o b y lim st (fixed_null {f = f} q h e z) =
    rw (own-holds t c s o b (go_on [] (λ t s o b. walk [] t s o b) (step_in t i s o b)) y lim)
    (subst (λ (A : Ty). Edited x T row (i ∷ []) t c o b (write A x (go_on [] (λ t s o b. walk [] t s o b) (step_in t i s o b)) row)) (sym q)
    (fixed-edit x T f row i t c o b (step_in t i s o b) y q h e lim st (λ w. made-null x T f w z) (comes t c i s o b y lim)))
set-lays x T row (i ∷ []) t c s o b y lim st (fixed_given {f = f} {u = u} q h e z g) =
    rw (own-holds t c s o b (go_on [] (λ t s o b. walk [] t s o b) (step_in t i s o b)) y lim)
    (subst (λ (A : Ty). Edited x T row (i ∷ []) t c o b (write A x (go_on [] (λ t s o b. walk [] t s o b) (step_in t i s o b)) row)) (sym q)
    (fixed-edit x T f row i t c o b (step_in t i s o b) y q h e lim st (λ w. made-given x T f w u q z g) (comes t c i s o b y lim)))
set-lays x T row (i ∷ []) t c s o b y lim st (text_null {k = k} q h e z f) =
    rw (own-holds t c s o b (go_on [] (λ t s o b. walk [] t s o b) (step_in t i s o b)) y lim)
    (subst (λ (A : Ty). Edited x T row (i ∷ []) t c o b (write A x (go_on [] (λ t s o b. walk [] t s o b) (step_in t i s o b)) row)) (sym q)
    (text-null-edit x T k row i t c o b (step_in t i s o b) y lim q h e st z f (comes t c i s o b y lim)))
set-lays x T row (i ∷ []) t c s o b y lim st (text_given {k = k} q h e z f n hb) =
    rw (own-holds t c s o b (go_on [] (λ t s o b. walk [] t s o b) (step_in t i s o b)) y lim)
    (subst (λ (A : Ty). Edited x T row (i ∷ []) t c o b (write A x (go_on [] (λ t s o b. walk [] t s o b) (step_in t i s o b)) row)) (sym q)
    (text-edit x T k row i t c o b (step_in t i s o b) y q h e lim st z f n hb (comes t c i s o b y lim)))
set-lays x T row (i ∷ p) t c s o b y lim st (deeper h f a) =
    rw (own-holds t c s o b (go_on p (λ t s o b. walk p t s o b) (step_in t i s o b)) y lim)
    (deep-edit x T row i p t c o b (step_in t i s o b) y h f lim st a (λ t c s o b y l q a. set-lays x T row p t c s o b y l q a) (comes t c i s o b y lim))
set-lays x T row [] t c s o b y lim st x5 = elim x5 [ ]
