-- From the judgement of a setting to what it makes of the tree: the leaf may be set, and the cell that it then holds is known.
-- Assumes nothing.
use mathlib.Core.Path.{◌≡◌, refl, sym, ap, ◌∙◌, subst}
use mathlib.Core.Logic.{◌≢◌}
use mathlib.Core.Bool.{Bool, true, false, cond, true≢false}
use mathlib.Core.Option.{Option, none, some, none-ne-some}
use mathlib.Core.List.{List, [], ◌∷◌}
use Prim.Native.Nat.{ℕ, zero, suc, ◌<◌, ◌^◌}
use native.Mathlib.Omega.{arith}
use borrow.Author.Tests.{eqb-true}
use lib.ListN.{length, replicate, length-replicate}
use Rattle.words.specs.Bytes.{zeros}
use Rattle.words.proofs.Parts.{part-whole}
use Rattle.words.proofs.Runs.{sets-whole}
use Rattle.words.proofs.Tests.{is-yes}
use Rattle.schema.specs.Types.{Fixed, Text, Ty, fix, text, li, ma, ro}
use Rattle.layout.specs.Cells.{Cell, null, leaf, node, on_null, flag, bytes, parts, part_of}
use Rattle.layout.specs.Layout.{Kid, NullFits, StringFits, spells?, number, string, kid, slot_of, kid_fits, AllFit, struct, array, pair, codec, kids, Lays}
use Rattle.layout.specs.Places.{starts}
use Rattle.layout.specs.Reading.{type_along, answer_of}
use Rattle.layout.specs.Setting as S
use Rattle.layout.specs.Setting.{Setting, is_null, in_bytes, is_some, fits_text, suits, keeps_size, keeps_text, keeps, refusal_in, or_empty, text_of, write}
use Rattle.layout.specs.Demand3.{Proper}
use Rattle.layout.proofs.Cells.{parts-node, leaf-here, leaf-parts}
use Rattle.layout.proofs.Containers.{codec-lawful, lays-fits}
use Rattle.layout.proofs.Steps.{kid_at}
use Rattle.layout.proofs.Bitmaps.{cell_at}
use Rattle.layout.proofs.Stepped.{Leafy}
use Rattle.layout.specs.Walk.{Seen, root_seat, walk, child_ty}
use Rattle.layout.proofs.Tree.{look, update, Valid, part-set, look-update, update-count}
use Rattle.layout.proofs.Seen.{Like}
use Rattle.layout.proofs.Updated as Updated
use Rattle.layout.proofs.Updated.{Settable, Becomes, set-lays}
use Rattle.layout.proofs.Landed.{type-child, type-end, first-flag, below, Landing, off, at_null, at_seen}

-- ---- what a leaf takes

-- the setting may be made at a place of type T that holds e
pub data Fine (x : Setting) (T : Ty) (e : Cell) : Type 0 where
  number_null : {f : Fixed} → T ≡ fix f → is_null x ≡ true → Fine x T e
  number_given : {f : Fixed} {u : List ℕ} → T ≡ fix f → is_null x ≡ false → in_bytes f x ≡ some u → Fine x T e
  text_null : {k : Text} → T ≡ text k → is_null x ≡ true → flag e ≡ 1 → Fine x T e
  text_given : {k : Text} {u : List ℕ} → T ≡ text k → x ≡ S.bytes u → flag e ≡ 0 → length u ≡ length (bytes e) → StringFits k (leaf u) → Fine x T e

pub fine-leaf : {x : Setting} {T : Ty} {e : Cell} → Fine x T e → Leafy T
fine-leaf (number_null q h) = subst Leafy (sym q) tt
fine-leaf (number_given q h g) = subst Leafy (sym q) tt
fine-leaf (text_null q h f) = subst Leafy (sym q) tt
fine-leaf (text_given q h f n b) = subst Leafy (sym q) tt

settable-end : (x : Setting) (T : Ty) (i : ℕ) (t : Ty) (c : Cell) → child_ty t i ≡ T → i < length (parts c) → Fine x T (part_of i c) → Settable x T (i ∷ []) t c
settable-end x T i t c e k (number_null q h) = Updated.fixed_null q k e h
settable-end x T i t c e k (number_given q h g) = Updated.fixed_given q k e h g
settable-end x T i t c e k (text_null q h f) = Updated.text_null q k e h f
settable-end x T i t c e k (text_given {k = a} q h f n b) = Updated.text_given q k e (ap is_null h) f (ap (λ (y : Setting). length (text_of y)) h ∙ n)
    (subst (λ (y : Setting). StringFits a (leaf (text_of y))) (sym h) b)

settable : (x : Setting) (T : Ty) (i : ℕ) (p : List ℕ) (t : Ty) (c : Cell) → type_along (i ∷ p) t ≡ some T → Valid (i ∷ p) c → Fine x T (look (i ∷ p) c)
    → Settable x T (i ∷ p) t c
unfolding Valid look
settable x T i [] t c e v f = settable-end x T i t c (type-end (child_ty t i) T (type-child i [] t T e)) v.0 f
settable x T i (j ∷ p) t c e v f = Updated.deeper v.0 (first-flag i j p c v)
    (settable x T j p (child_ty t i) (part_of i c) (type-child i (j ∷ p) t T e) v.1 f)

-- ---- from the judgement

fixed-by : (f : Fixed) (x : Setting) (e : Cell) (n : Bool) (m : Option (List ℕ)) → is_null x ≡ n → in_bytes f x ≡ m → cond n true (is_some m) ≡ true
    → Fine x (fix f) e
fixed-by f x e true m h g s = number_null refl h
fixed-by f x e false none h g s = absurd (true≢false (sym s))
fixed-by f x e false (some u) h g s = number_given refl h g

fixed-fine : (f : Fixed) (x : Setting) (e : Cell) → suits (fix f) x ≡ true → Fine x (fix f) e
unfolding suits
fixed-fine f x e s = fixed-by f x e (is_null x) (in_bytes f x) refl refl s

null-fine : (k : Text) (x : Setting) (e : Cell) → is_null x ≡ true → flag e ≡ 1 → Fine x (text k) e
null-fine k x e h f = text_null refl h f

text-fine : (k : Text) (x : Setting) (e : Cell) (n : ℕ) → Proper x → flag e ≡ 0 → n ≡ length (bytes e) → fits_text k x ≡ true → keeps_size n x ≡ true
    → Fine x (text k) e
unfolding bytes
text-fine k S.null e n b f l s h = absurd (true≢false (sym h))
text-fine k (S.bool v) e n b f l s h = absurd (true≢false (sym s))
text-fine k (S.signed z) e n b f l s h = absurd (true≢false (sym s))
text-fine k (S.float32 m) e n b f l s h = absurd (true≢false (sym s))
text-fine k (S.float64 m) e n b f l s h = absurd (true≢false (sym s))
text-fine k (S.bytes u) e n b f l s h =
    text_given refl refl f (eqb-true (length u) n h ∙ l) (record { plain = refl; proper = b; spelled = is-yes (spells? k u) s })

-- what the place holds lets the setting be made
pub record Granted (x : Setting) (T : Ty) (p : List ℕ) (c : Cell) : Type 0 where
  pub valid : Valid p c
  pub fine : Fine x T (look p c)

pub text-lays-flag : (k : Text) (e : Cell) (u : List ℕ) → Lays (text k) e u → (flag e ≡ 0) × (length u ≡ length (bytes e))
unfolding codec string
text-lays-flag k e u y = (leaf-here e y.fits.plain, ap length (sym y.is))

suits-leaf : (T : Ty) (x : Setting) → suits T x ≡ true → Leafy T
unfolding suits
suits-leaf (fix f) x h = tt
suits-leaf (text f) x h = tt
suits-leaf (li t) x h = absurd (true≢false (sym h))
suits-leaf (ma k v) x h = absurd (true≢false (sym h))
suits-leaf (ro ts) x h = absurd (true≢false (sym h))

pub granted-by : (row : List ℕ) (T : Ty) (p : List ℕ) (c : Cell) (r : Seen) (x : Setting) → Proper x → Landing row T p c r
    → refusal_in (answer_of T r) ≡ none → suits T x ≡ true → keeps T (answer_of T r) x ≡ true
    → Granted x T p c
unfolding answer_of refusal_in suits keeps keeps_text
granted-by row (fix f) p c r x b (off n g) a s h = absurd (none-ne-some _ (sym a))
granted-by row (fix f) p c r x b (at_null v g) a s h = record { valid = v; fine = fixed-fine f x (look p c) s }
granted-by row (fix f) p c r x b (at_seen v y st) a s h = record { valid = v; fine = fixed-fine f x (look p c) s }
granted-by row (text k) p c r x b (off n g) a s h = absurd (none-ne-some _ (sym a))
granted-by row (text k) p c r x b (at_null v g) a s h = record { valid = v; fine = null-fine k x (look p c) h g }
granted-by row (text k) p c r x b (at_seen {u = u} v y st) a s h = let q = text-lays-flag k (look p c) u y in
    record { valid = v; fine = text-fine k x (look p c) (length u) b q.0 q.1 s h }
granted-by row (li t) p c r x b l a s h = absurd (suits-leaf (li t) x s)
granted-by row (ma k w) p c r x b l a s h = absurd (suits-leaf (ma k w) x s)
granted-by row (ro ts) p c r x b l a s h = absurd (suits-leaf (ro ts) x s)

-- ---- the cell that the leaf then holds

-- the size of a child's slot or element
unfoldable pub slot_in : Ty → ℕ
slot_in (fix f) = 0
slot_in (text k) = 0
slot_in (li t) = slot_of (codec t).wide
slot_in (ma k v) = 0
slot_in (ro ts) = 8

-- of the last step of a path, w for a path of none
unfoldable pub slot_at : ℕ → List ℕ → Ty → ℕ
slot_at w [] t = w
slot_at w (i ∷ p) t = slot_at (slot_in t) p (child_ty t i)

unfoldable pub given : Ty → Setting → List ℕ
given (fix f) x = or_empty (in_bytes f x)
given (text k) x = text_of x
given (li t) x = []
given (ma k v) x = []
given (ro ts) x = []

-- in a slot of w bytes
unfoldable pub cell_of : ℕ → Ty → Setting → Cell
cell_of w T x = cond (is_null x) (null (zeros w)) (leaf (given T x))

became : (x : Setting) (T : Ty) (new : Cell) (w : ℕ) → Becomes x T new → ((u : List ℕ) → new ≡ null u → length u ≡ w) → new ≡ cell_of w T x
unfolding cell_of given
became x T new w (Updated.as_null v e) h = rw (e, sym (length-replicate v 0) ∙ h (zeros v) refl)
became x T new w (Updated.as_number e g) h = rw (e, g)
became x T new w (Updated.as_text e) h = rw e

-- ---- a null's bytes are as many as its slot has

pub fit_at : (w : ℕ) (ks : List Kid) (cs : List Cell) (i : ℕ) → AllFit w ks cs → i < length cs → kid_fits w (kid_at ks i) (cell_at cs i)
unfolding AllFit
fit_at w [] [] i f h = absurd (omega arith)
fit_at w (k ∷ ks) (c ∷ cs) zero f h = f.0
fit_at w (k ∷ ks) (c ∷ cs) (suc i) f h = fit_at w ks cs i f.1 (omega arith)
fit_at w [] (c ∷ cs) i f h = elim f [ ]
fit_at w (k ∷ ks) [] i f h = elim f [ ]

null-fit : (w : ℕ) (k : Kid) (c : Cell) (u : List ℕ) → c ≡ null u → kid_fits w k c → length u ≡ w
unfolding on_null
null-fit w k c u e f = let g : NullFits w u = subst (kid_fits w k) e f in g.wide

not_null : (c : Cell) (u : List ℕ) → flag c ≡ 0 → c ≡ null u → ⊥
unfolding on_null
not_null c u f e = omega (arith, ap (λ (z : Cell). flag z) e)

two-parts : (c a b : Cell) → c ≡ node (a ∷ b ∷ []) → length (parts c) ≡ 2
two-parts c a b e = ap (λ (z : Cell). length (parts z)) e ∙ ap length (parts-node (a ∷ b ∷ []))

map-null : (a v : Ty) (c : Cell) (b : List ℕ) (i : ℕ) (u : List ℕ) → Lays (ma a v) c b → i < length (parts c) → part_of i c ≡ null u → ⊥
unfolding codec pair
map-null a v c b zero u y k e = not_null (part_of 0 c) u ((codec-lawful (li a)).here (part_of 0 c) (lays-fits (li a) (part_of 0 c) y.keys_array y.keys)) e
map-null a v c b (suc zero) u y k e = not_null (part_of 1 c) u
    ((codec-lawful (li v)).here (part_of 1 c) (lays-fits (li v) (part_of 1 c) y.values_array y.values)) e
map-null a v c b (suc (suc i)) u y k e = omega (arith, two-parts c (part_of 0 c) (part_of 1 c) y.plain)

null-part : (t : Ty) (c : Cell) (b : List ℕ) (i : ℕ) (u : List ℕ) → Lays t c b → i < length (parts c) → part_of i c ≡ null u → length u ≡ slot_in t
unfolding slot_in codec number string array struct
null-part (fix f) c b i u y k e = absurd (omega (arith, leaf-parts c (bytes c) y.fits.plain))
null-part (text s) c b i u y k e = absurd (omega (arith, leaf-parts c (bytes c) y.fits.plain))
null-part (li t) c b i u y k e =
    let w = slot_of (codec t).wide in
    null-fit w (kid_at (replicate (length (parts c)) (kid w (codec t))) i) (part_of i c) u e
    (fit_at w (replicate (length (parts c)) (kid w (codec t))) (parts c) i (lays-fits (li t) c b y).children k)
null-part (ma a v) c b i u y k e = absurd (map-null a v c b i u y k e)
null-part (ro ts) c b i u y k e = null-fit 8 (kid_at (kids ts) i) (part_of i c) u e (fit_at 8 (kids ts) (parts c) i (lays-fits (ro ts) c b y).children k)

null-look : (w i : ℕ) (p : List ℕ) (t : Ty) (c : Cell) (b u : List ℕ) → Lays t c b → length b < 2 ^ 32 → Valid (i ∷ p) c → look (i ∷ p) c ≡ null u
    → length u ≡ slot_at w (i ∷ p) t
unfolding Valid look slot_at
null-look w i [] t c b u y lim v e = null-part t c b i u y v.0 e
null-look w i (j ∷ p) t c b u y lim v e =
    let d = below t c i b y lim v.0 (first-flag i j p c v) in
    null-look (slot_in t) j p (child_ty t i) (part_of i c) d.own u d.lays (omega (arith, d.short)) v.1 e

pub valid-update : (p : List ℕ) (x c : Cell) → Valid p c → Valid p (update p x c)
unfolding Valid update
valid-update [] x c v = tt
valid-update (i ∷ p) x c v = (
  omega (arith, update-count i p x c, v.0),
  rw (part-set i c (update p x (part_of i c)) v.0) (valid-update p x (part_of i c) v.1),
)

-- the bytes of the contents with the leaf set, as many as before
pub record Changed (x : Setting) (T : Ty) (p : List ℕ) (t : Ty) (c : Cell) (b after : List ℕ) : Type 0 where
  pub lays : Lays t (update p (cell_of (slot_at 0 p t) T x) c) after
  pub size : length after ≡ length b
  pub others : (q : List ℕ) (U : Ty) → type_along q t ≡ some U → p ≢ q → Like U (walk q t root_seat 0 after) (walk q t root_seat 0 b)
  pub there : starts T (walk p t root_seat 0 after) ≡ starts T (walk p t root_seat 0 b)

pub set_at : (x : Setting) (T : Ty) (i : ℕ) (p : List ℕ) (t : Ty) (c : Cell) (b : List ℕ) → type_along (i ∷ p) t ≡ some T → Lays t c b → length b < 2 ^ 32
    → Granted x T (i ∷ p) c
    → Changed x T (i ∷ p) t c b (write T x (walk (i ∷ p) t root_seat 0 b) b)
set_at x T i p t c b e y lim g =
    let v = g.valid in
    let d = set-lays x T b (i ∷ p) t c root_seat 0 b y lim (record { there = part-whole b; room = omega arith }) (settable x T i p t c e v g.fine) in
    let m = d.size in
    let new : d.new ≡ cell_of (slot_at 0 (i ∷ p) t) T x =
    became x T d.new (slot_at 0 (i ∷ p) t) d.becomes
    (λ u q. null-look 0 i p t (update (i ∷ p) d.new c) d.own u d.lays (omega arith) (valid-update (i ∷ p) d.new c v)
    (look-update (i ∷ p) d.new c v ∙ q)) in
    let is : write T x (walk (i ∷ p) t root_seat 0 b) b ≡ d.own = d.is ∙ sets-whole b d.own m in
    record { lays = rw (is, ← new) d.lays; size = rw is m; others = λ q U h n. rw is (d.others q U h n root_seat); there = rw is (d.there root_seat) }
