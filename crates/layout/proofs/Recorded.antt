-- What a listing holds at a path is what the contents hold there, and so a place reads as the listing holds it. Assumes nothing.
use mathlib.Core.Path.{◌≡◌, refl, sym, ap, ◌∙◌}
use mathlib.Core.Option.{Option, none, some, none-ne-some, some-injective}
use mathlib.Core.List.{List, [], ◌∷◌, ◌++◌}
use Prim.Native.Nat.{ℕ, zero, suc, ◌<◌, ◌^◌}
use native.Mathlib.Omega.{arith}
use lib.ListN.{length, replicate, get_or, get_or-replicate}
use Rattle.schema.specs.Types.{Ty, fix, text, li, ma, ro, Tys, end, ◌then◌, count, field}
use Rattle.layout.specs.Cells.{Cell, null, leaf, nodes, on_null, flag, parts, part_of}
use Rattle.layout.specs.Layout.{Codec, kid_of, kid, inside, outside, slot_of, kid_fits, number, string, array, pair, struct, codec, kids, Fits, Lays}
use Rattle.layout.specs.Listing.{nu, item, element, run_put, script, scripts, listing, text_script, number_script, list_script, map_script, struct_script}
use Rattle.layout.specs.Walk.{Seat, Seen, seen, child_ty}
use Rattle.layout.specs.Reading.{Answer, type_along, answer_of}
use Rattle.layout.specs.Records.{Record, Records, in_turn, as_list, Holds, fields, elements, arrays, ReadsAs}
use Rattle.layout.specs.Records as R
use Rattle.layout.proofs.Cells.{present, flag-bit, node-here}
use Rattle.layout.proofs.Children.{all-length}
use Rattle.layout.proofs.Containers.{kids-count, lays-fits}
use Rattle.layout.proofs.Steps.{nobody}
use Rattle.layout.proofs.Judged.{fit_at}
use Rattle.layout.proofs.Landed.{type-child}
use Rattle.layout.proofs.Walked as Walked
use Rattle.layout.proofs.Walked.{Sits, Finds, list-says, kids-at, pair_parts}

-- ---- a child's record

abbrev record_of : Ty → Cell → List ℕ
record_of t c = on_null (λ _. nu) (listing t c) c

missing-is : (t : Ty) (c : Cell) → flag c ≡ 1 → record_of t c ≡ nu
unfolding on_null
missing-is t (null u) h = refl
missing-is t (leaf u) h = absurd (omega arith)
missing-is t (nodes cs) h = absurd (omega arith)

-- a child in a slot fits as its type says
pub kid-fits : (w : ℕ) (o : Option ℕ) (k : Codec) (c : Cell) → kid_fits w (kid_of w o k) c → flag c ≡ 0 → k.Fits c
unfolding kid_of inside outside
kid-fits w none k c f h = rw (present _ _ c h) at f
kid-fits w (some v) k c f h = rw (present _ _ c h) at f

record_of_lem : (t : Ty) (c : Cell) (n : ℕ) → flag c ≡ n → (flag c ≡ 0 → Fits t c) → n < 2 → Record t (record_of t c)
record_of_lem t c zero h f k = rw (present (λ _. nu) (listing t c) c h) (R.present c (f h))
record_of_lem t c (suc zero) h f k = rw (missing-is t c h) R.null
record_of_lem t c (suc (suc n)) h f k = absurd (omega arith)

-- the records of children, by their types
unfoldable records_of : (ℕ → Ty) → List Cell → List (List ℕ)
records_of F [] = []
records_of F (c ∷ cs) = record_of (F 0) c ∷ records_of (λ i. F (suc i)) cs

length-records : (F : ℕ → Ty) (cs : List Cell) → length (records_of F cs) ≡ length cs
unfolding records_of
length-records F [] = refl
length-records F (c ∷ cs) = ap suc (length-records (λ i. F (suc i)) cs)

get_or-records : (F : ℕ → Ty) (cs : List Cell) (i : ℕ) → i < length cs → get_or (records_of F cs) i [] ≡ record_of (F i) (get_or cs i (leaf []))
unfolding records_of
get_or-records F [] i h = absurd (omega arith)
get_or-records F (c ∷ cs) zero h = refl
get_or-records F (c ∷ cs) (suc i) h = get_or-records (λ i. F (suc i)) cs i (omega arith)

records-are : (F : ℕ → Ty) (cs : List Cell) → ((i : ℕ) → i < length cs → flag (get_or cs i (leaf [])) ≡ 0 → Fits (F i) (get_or cs i (leaf [])))
    → Records F (records_of F cs)
records-are F cs f i h =
    let k : i < length cs = rw length-records at h in
    let c = get_or cs i (leaf []) in
    rw (get_or-records F cs i k) (record_of_lem (F i) c (flag c) refl (f i k) (flag-bit c))

-- ---- one after another, as listing has them

fields-run : (ts : Tys) (cs : List Cell) → length cs ≡ count ts → run_put (scripts ts) cs ≡ in_turn (records_of (field ts) cs)
unfolding run_put script item in_turn records_of listing count field
fields-run end [] h = refl
fields-run end (c ∷ cs) h = absurd (omega arith)
fields-run (t then ts) [] h = refl
fields-run (t then ts) (c ∷ cs) h = ap (λ (r : List ℕ). record_of t c ++ r) (fields-run ts cs (omega arith))

elements-run : (t : Ty) (cs : List Cell) → run_put (replicate (length cs) (element t (script t))) cs ≡ in_turn (records_of (λ _. t) cs)
unfolding run_put item in_turn records_of listing
elements-run t [] = refl
elements-run t (c ∷ cs) = ap (λ (r : List ℕ). record_of t c ++ r) (elements-run t cs)

list-listing : (t : Ty) (c : Cell) → listing (li t) c ≡ as_list t (records_of (λ _. t) (parts c))
unfolding listing script list_script
list-listing t c = rw (elements-run t (parts c), length-records (λ _. t) (parts c))

-- ---- a container's

-- its record holds its children's, and each is the child's own
record Has (t : Ty) (c : Cell) : Type 0 where
  held : List (List ℕ)
  holds : Holds t (listing t c) held
  long : length held ≡ length (parts c)
  each : (i : ℕ) → i < length (parts c) → get_or held i [] ≡ record_of (child_ty t i) (part_of i c)

element-fits : (t : Ty) (c : Cell) (i : ℕ) → Fits (li t) c → i < length (parts c) → flag (part_of i c) ≡ 0 → Fits t (part_of i c)
unfolding codec array
element-fits t c i f h z =
    let w = slot_of (codec t).wide in
    let k = kid w (codec t) in
    kid-fits w (codec t).wide (codec t) (part_of i c)
    (rw (get_or-replicate (length (parts c)) i k nobody h) at (fit_at w (replicate (length (parts c)) k) (parts c) i f.children h)) z

field_fits : (ts : Tys) (c : Cell) (i : ℕ) → Fits (ro ts) c → i < length (parts c) → flag (part_of i c) ≡ 0 → Fits (field ts i) (part_of i c)
unfolding codec struct
field_fits ts c i f h z =
    let l = all-length 8 (kids ts) (parts c) f.children in
    kid-fits 8 (codec (field ts i)).wide (codec (field ts i)) (part_of i c)
    (rw (kids-at ts i (omega arith)) at (fit_at 8 (kids ts) (parts c) i f.children h)) z

struct-count : (ts : Tys) (c : Cell) → Fits (ro ts) c → length (parts c) ≡ count ts
unfolding codec struct
struct-count ts c f = all-length 8 (kids ts) (parts c) f.children ∙ kids-count ts

-- a child fits as its type says
child_fits : (t : Ty) (c : Cell) (i : ℕ) → Fits t c → i < length (parts c) → flag (part_of i c) ≡ 0 → Fits (child_ty t i) (part_of i c)
unfolding codec number string pair parts child_ty
child_fits (fix f) c i y h z = absurd (omega (arith, ap (λ (x : Cell). length (parts x)) y.plain))
child_fits (text k) c i y h z = absurd (omega (arith, ap (λ (x : Cell). length (parts x)) y.plain))
child_fits (li t) c i y h z = element-fits t c i y h z
child_fits (ma k v) c zero y h z = y.keys
child_fits (ma k v) c (suc zero) y h z = y.values
child_fits (ma k v) c (suc (suc i)) y h z = absurd (omega (arith, ap length (pair_parts c _ _ y.plain)))
child_fits (ro ts) c i y h z = field_fits ts c i y h z

list-has : (t : Ty) (c : Cell) → Fits (li t) c → Has (li t) c
unfolding child_ty
list-has t c f = record {
  held = records_of (λ _. t) (parts c);
  holds = rw (list-listing t c) (elements t (records_of (λ _. t) (parts c)) (records-are (λ _. t) (parts c) (λ i h z. element-fits t c i f h z)));
  long = length-records (λ _. t) (parts c);
  each = get_or-records (λ _. t) (parts c);
}

struct-has : (ts : Tys) (c : Cell) → Fits (ro ts) c → Has (ro ts) c
unfolding child_ty listing script struct_script
struct-has ts c f =
    let n = struct-count ts c f in
    let rs = records_of (field ts) (parts c) in
    record {
      held = rs;
      holds = rw (fields-run ts (parts c) n) (fields ts rs (length-records (field ts) (parts c) ∙ n)
          (records-are (field ts) (parts c) (λ i h z. field_fits ts c i f h z)));
      long = length-records (field ts) (parts c);
      each = get_or-records (field ts) (parts c);
    }

map-has : (k v : Ty) (c : Cell) → Fits (ma k v) c → Has (ma k v) c
unfolding codec pair array child_ty listing script map_script
map-has k v c f =
    let two = pair_parts c (part_of 0 c) (part_of 1 c) f.plain in
    let ks = records_of (λ _. k) (parts (part_of 0 c)) in
    let vs = records_of (λ _. v) (parts (part_of 1 c)) in
    let nk = length-records (λ _. k) (parts (part_of 0 c)) in
    let nv = length-records (λ _. v) (parts (part_of 1 c)) in
    record {
      held = as_list k ks ∷ as_list v vs ∷ [];
      holds = rw (elements-run k (parts (part_of 0 c)), elements-run v (parts (part_of 1 c)), ← nk)
          (arrays k v ks vs (nk ∙ f.counts ∙ sym nv) (records-are (λ _. k) (parts (part_of 0 c)) (λ i h z. element-fits k (part_of 0 c) i f.keys h z))
          (records-are (λ _. v) (parts (part_of 1 c)) (λ i h z. element-fits v (part_of 1 c) i f.values h z)));
      long = rw two;
      each = λ i h. array_at k v c f i (rw two at h);
    }
  where
    array_at : (k v : Ty) (c : Cell) → Fits (ma k v) c → (i : ℕ) → i < 2
        → get_or (as_list k (records_of (λ _. k) (parts (part_of 0 c))) ∷ as_list v (records_of (λ _. v) (parts (part_of 1 c))) ∷ []) i []
        ≡ record_of (child_ty (ma k v) i) (part_of i c)
    array_at k v c f zero h = rw (present (λ _. nu) (listing (li k) (part_of 0 c)) (part_of 0 c) (node-here _ _ f.keys.plain))
        (sym (list-listing k (part_of 0 c)))
    array_at k v c f (suc zero) h = rw (present (λ _. nu) (listing (li v) (part_of 1 c)) (part_of 1 c) (node-here _ _ f.values.plain))
        (sym (list-listing v (part_of 1 c)))
    array_at k v c f (suc (suc i)) h = absurd (omega arith)

-- ---- a place

module _ (row : List ℕ) where
  -- at the path's end
  shown : (t : Ty) (c : Cell) (z : Seat) (o : ℕ) (u : List ℕ) → Lays t c u → length u < 2 ^ 32 → Sits row o u
      → ReadsAs row [] t (listing t c) (answer_of t (seen z o u))
  unfolding answer_of codec number string listing script number_script text_script map-has
  shown (fix f) c z o u y lim st = rw y.is (R.number f u (rw y.is at y.fits.wide))
  shown (text k) c z o u y lim st = rw y.is (R.string k u o st.there)
  shown (li t) c z o u y lim st =
      let h = list-has t c (lays-fits (li t) c u y) in
      rw ((list-says t c u y lim).count, ← h.long) (R.container (li t) c u h.held o y st.there h.holds)
  shown (ma k v) c z o u y lim st =
      let h = map-has k v c (lays-fits (ma k v) c u y) in
      R.container (ma k v) c u h.held o y st.there h.holds
  shown (ro ts) c z o u y lim st =
      let f = lays-fits (ro ts) c u y in
      let h = struct-has ts c f in
      rw (← (h.long ∙ struct-count ts c f)) (R.container (ro ts) c u h.held o y st.there h.holds)

  -- the type has children where the path goes on
  has : (t : Ty) (c : Cell) (i : ℕ) (p : List ℕ) (u : Ty) → Fits t c → type_along (i ∷ p) t ≡ some u → Has t c
  unfolding type_along
  has (fix f) c i p u y e = absurd (none-ne-some _ e)
  has (text k) c i p u y e = absurd (none-ne-some _ e)
  has (li t) c i p u y e = list-has t c y
  has (ma k v) c i p u y e = map-has k v c y
  has (ro ts) c i p u y e = struct-has ts c y

  -- on to child i, whose record is r
  on-to : (i : ℕ) (p : List ℕ) (t : Ty) (c : Cell) (r : List ℕ) (a : Answer) → Has t c → i < length (parts c) → record_of (child_ty t i) (part_of i c) ≡ r
      → ReadsAs row p (child_ty t i) r a → ReadsAs row (i ∷ p) t (listing t c) a
  on-to i p t c r a d k e y = R.on {i = i} {p = p} {a = a} d.holds (omega (arith, d.long)) (rw (d.each i k, e) y)

  pub finds-reads : (p : List ℕ) (t : Ty) (c : Cell) (v : Seen) (u : Ty) → Finds row p t c v → Fits t c → type_along p t ≡ some u
      → ReadsAs row p t (listing t c) (answer_of u v)
  unfolding answer_of type_along
  finds-reads [] t c v u (Walked.here {s = z} {o = o} {u = b} y lim st) f e = rw (← (some-injective _ _ e)) (shown t c z o b y lim st)
  finds-reads (i ∷ p) t c v u (Walked.past h) f e = let d = has t c i p u f e in R.nowhere {i = i} d.holds (omega (arith, d.long))
  finds-reads (i ∷ []) t c v u (Walked.missing k z) f e = on-to i [] t c nu _ (has t c i [] u f e) k (missing-is (child_ty t i) (part_of i c) z) R.null
  finds-reads (i ∷ j ∷ p) t c v u (Walked.under k z) f e =
      on-to i (j ∷ p) t c nu _ (has t c i (j ∷ p) u f e) k (missing-is (child_ty t i) (part_of i c) z) R.under
  finds-reads (i ∷ p) t c v u (Walked.on {r = r} k z w) f e =
      on-to i p t c (listing (child_ty t i) (part_of i c)) _ (has t c i p u f e) k (present (λ _. nu) (listing (child_ty t i) (part_of i c)) (part_of i c) z)
      (finds-reads p (child_ty t i) (part_of i c) r u w (child_fits t c i f k z) (type-child i p t u e))
