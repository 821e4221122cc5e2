-- The laws of struct, list and map, and so of every type: what is laid down is read back, and what is read was laid down.
-- Assumes nothing.
use mathlib.Core.Path.{◌≡◌, refl, sym, ap, ◌∙◌}
use mathlib.Core.Option.{some}
use mathlib.Core.List.{List, [], ◌∷◌, ◌++◌, append_assoc, map}
use Prim.Native.Nat.{ℕ, zero, suc, ◌+◌, ◌*◌, ◌-◌, ◌%◌, ◌^◌, ◌<◌}
use native.Mathlib.Omega.{arith}
use native.Mathlib.Decide.{dec_lt, ℕ_discrete}
use lib.ListN.{length, replicate, take, length-append, length-replicate, length-map}
use Rattle.words.specs.Bytes.{Bytes, le, num, zeros, fill, pad, padded, bitmap, zeros_ahead, past_byte}
use Rattle.words.proofs.Numbers.{bytes-append, bytes_le, bytes-fill, length-le, num-le, le-num, num-zeros, length-padded, fill_is}
use Rattle.schema.specs.Types.{width, Ty, fix, text, li, ma, ro, Tys, end, ◌then◌, count}
use Rattle.schema.proofs.Table.{width-8}
use Rattle.layout.specs.Faults.{Place, slot, byte, got, cut_at}
use Rattle.layout.specs.Tiles.{total}
use Rattle.layout.specs.Cells.{Cell, node, parts, part_of, clean}
use Rattle.layout.specs.Layout.{Codec, Kid, kid, slot_of, AllFit, flags, slots, tails, front, body_put, BodyLays, body_get, struct, array, pair}
use Rattle.layout.specs.Layout.{limit, list, codec, kids, Fits, content, Lays, decode}
use Rattle.layout.proofs.Cells.{parts-node, node-here, parts-clean, clean-node, node-clean, part-clean, count-clean}
use Rattle.layout.proofs.Faults.{When, yields, when-bind, when-any, when-then, when-both, when-within, within-got, when-got, when-some, got-some}
use Rattle.layout.proofs.Faults.{when-assert, assert-yes, cut-back, cut-is, cut-forth}
use Rattle.layout.proofs.Kids.{Lawful, LawfulKid, Cleaned, number-lawful, string-lawful, kid-array, kid-struct}
use Rattle.layout.proofs.Children.{AllLawful, all-length, all_fit, AllTake, all_take, reads-back, reads-forth, reads-count, all_laid, slots_length}
use Rattle.layout.proofs.Children.{slots-proper, tails-eight, tails-proper, all-cleaned, flags-lt, flags-fit}

-- ---- a body: bitmap, slots, data

pub body-length : (h w : ℕ) (ks : List Kid) (cs : List Cell) → AllLawful w ks → AllFit w ks cs
    → h + length (body_put h w ks cs) ≡ front h w (length ks) + length (tails ks cs)
unfolding body_put
body-length h w ks cs l f =
    let s = slots (front h w (length ks)) ks cs in
    rw (length-append, length-append, length-le, length-padded s, slots_length w (front h w (length ks)) ks cs l f) (omega arith)

module _ (h w : ℕ) (ks : List Kid) (l : AllLawful w ks) where
  pub body-take : (cs : List Cell) (b : List ℕ) (y : BodyLays h w ks cs b) → AllTake w ks cs y.slots [] y.ranges
  body-take cs b y = all_take w (front h w (length ks)) y.variable ks cs y.slots [] y.ranges l y.children

  -- its data is what there is behind the fixed part
  pub body-total : (cs : List Cell) (b : List ℕ) (y : BodyLays h w ks cs b) → h + length b ≡ front h w (length ks) + length y.variable
  body-total cs b y = rw (← y.whole, length-append, length-append, length-le, length-padded y.slots, (body-take cs b y).slots) (omega arith)

  pub body-fit : (cs : List Cell) (b : List ℕ) → BodyLays h w ks cs b → AllFit w ks cs
  body-fit cs b y = all_fit w (front h w (length ks)) y.variable ks cs y.slots [] y.ranges l y.children

  body-size : (cs : List Cell) (b : List ℕ) → BodyLays h w ks cs b → length b ≡ length (body_put h w ks cs)
  unfolding total
  body-size cs b y = omega (arith, (body-take cs b y).adds, y.ends, body-total cs b y, body-length h w ks cs l (body-fit cs b y))

  body-laid : (cs : List Cell) → h % 8 ≡ 0 → AllFit w ks cs → BodyLays h w ks cs (body_put h w ks cs)
  unfolding body_put total
  body-laid cs e f =
      let at = front h w (length ks) in
      let o : at + 0 ≡ at = omega arith in
      let y = rw o at (all_laid w at [] ks cs [] l f tt refl (omega arith)) in
      record { slots = slots at ks cs; variable = tails ks cs; ranges = y.ranges; whole = refl; children = y.children; ends = y.ends }

  -- a container of whole words
  body-eight : (cs : List Cell) (b : List ℕ) → h % 8 ≡ 0 → BodyLays h w ks cs b → (h + length b) % 8 ≡ 0
  unfolding total
  body-eight cs b e y = omega (arith, (body-take cs b y).adds, y.ends, body-total cs b y, tails-eight w ks cs l)

  body_back : (short : Place) (cs : List Cell) (b : List ℕ) → BodyLays h w ks cs b → h + length b < 2 ^ 32 → body_get short h w ks b ≡ got cs
  unfolding body_get fill
  body_back short cs b y lim =
      let n = length ks in
      let at = front h w n in
      let s = y.slots in
      let d = y.variable in
      let v = zeros (pad (length s) - length s) in
      let t = (body-take cs b y).slots in
      let c = all-length w ks cs (body-fit cs b y) in
      let e : num (le (bitmap n) (flags cs)) ≡ flags cs = num-le (bitmap n) (flags cs) (rw c at (flags-fit cs)) in
      rw (
        ← y.whole,
        cut-back short (bitmap n) (le (bitmap n) (flags cs)) _ (length-le (bitmap n) (flags cs)),
        append_assoc s v d,
        cut-back short (n * w) s (v ++ d) t,
        cut-back short (pad (n * w) - n * w) v d (length-replicate (pad (length s) - length s) 0 ∙ rw t),
        e,
        assert-yes _ (dec_lt (flags cs) (2 ^ n)) (rw c at (flags-lt cs)),
        reads-back w at d ks (h + bitmap n) cs s [] y.ranges l y.children (omega (arith, body-total cs b y)),
        assert-yes (byte (h + bitmap n + n * w + zeros_ahead v)) (ℕ_discrete (num v) 0) (num-zeros (pad (length s) - length s)),
        assert-yes slot (ℕ_discrete (total y.ranges) (length d)) y.ends,
      )

  body-forth : (short : Place) (b : List ℕ) → Bytes b → When (λ cs. BodyLays h w ks cs b) (body_get short h w ks b)
  unfolding body_get
  body-forth short b hb =
      let n = length ks in
      when-bind (cut-forth short (bitmap n) hb) λ (m, r) p.
      when-bind (cut-forth short (n * w) p.rest) λ (s, r') q.
      when-bind (cut-forth short (pad (n * w) - n * w) q.rest) λ (z, d) t.
      when-then (when-assert (byte (h + past_byte n m)) (dec_lt (num m) (2 ^ n))) λ _ f.
      when-bind (reads-forth w (front h w n) d ks (h + bitmap n) (num m) s [] l f q.size q.front t.rest) λ (cs, rs) y.
      when-then (when-assert (byte (h + bitmap n + n * w + zeros_ahead z)) (ℕ_discrete (num z) 0)) λ _ o.
      when-then (when-assert slot (ℕ_discrete (total rs) (length d))) λ _ i.
      let e : le (bitmap n) (num m) ≡ m = rw p.size at (le-num p.front) in
      let k : length s + length z ≡ pad (length s) = omega (arith, q.size, t.size) in
      let g : padded s ++ d ≡ r = rw (fill_is s z (pad (length s)) o k, append_assoc, t.whole) q.whole in
      yields (record { slots = s; variable = d; ranges = rs; whole = rw (y.0, e, g) p.whole; children = y.1; ends = i })

  body-proper : (cs : List Cell) → AllFit w ks cs → Bytes (body_put h w ks cs)
  unfolding body_put
  body-proper cs f =
      let at = front h w (length ks) in
      bytes-append (bytes_le (bitmap (length ks)) (flags cs)) (bytes-append (bytes-fill _ (slots-proper w at ks cs l f)) (tails-proper w ks cs l f))

  body-cleaned : (cs : List Cell) → AllFit w ks cs → AllFit w ks (map clean cs) × (length (body_put h w ks (map clean cs)) ≡ length (body_put h w ks cs))
  body-cleaned cs f =
      let a = all-cleaned w ks cs l f in
      (a.fit, omega (arith, a.size, body-length h w ks cs l f, body-length h w ks (map clean cs) l a.fit))

body-count : (short : Place) (h w : ℕ) (ks : List Kid) (b : List ℕ) → When (λ cs. length cs ≡ length ks) (body_get short h w ks b)
unfolding body_get
body-count short h w ks b =
    let n = length ks in
    when-any (cut_at short (bitmap n) b) λ (m, r).
    when-any (cut_at short (n * w) r) λ (s, r').
    when-any (cut_at short (pad (n * w) - n * w) r') λ (z, d).
    when-then (when-assert (byte (h + past_byte n m)) (dec_lt (num m) (2 ^ n))) λ _ _.
    when-bind (reads-count w (front h w n) d ks (h + bitmap n) (num m) s []) λ (cs, rs) e.
    when-then (when-assert (byte (h + bitmap n + n * w + zeros_ahead z)) (ℕ_discrete (num z) 0)) λ _ _.
    when-then (when-assert slot (ℕ_discrete (total rs) (length d))) λ _ _. yields e

-- ---- containers

struct_lawful : (ks : List Kid) → AllLawful 8 ks → Lawful (struct ks)
unfolding struct
struct_lawful ks l = record {
  here = λ x f. node-here x (parts x) f.plain;
  sized = tt;
  proper = λ x f. body-proper 0 8 ks l (parts x) f.children;
  cleaned = λ x f.
      let a = body-cleaned 0 8 ks l (parts x) f.children in
      record { fits = record { plain = node-clean x f.plain; children = rw parts-clean a.0 }; size = rw parts-clean a.1 };
  fits = λ x b y. record { plain = y.plain; children = body-fit 0 8 ks l (parts x) b y.body };
  size = λ x b y. body-size 0 8 ks l (parts x) b y.body;
  laid = λ x f. record { plain = f.plain; body = body-laid 0 8 ks l (parts x) refl f.children };
  back = λ x b y n. rw (
    assert-yes slot (ℕ_discrete (length b % 8) 0) (omega (arith, body-eight 0 8 ks l (parts x) b refl y.body)),
    body_back 0 8 ks l
        slot (parts x) b y.body (omega arith),
  ) (ap got (sym y.plain));
  forth = λ b hb. when-then (when-assert slot (ℕ_discrete (length b % 8) 0)) λ _ _. when-bind (body-forth 0 8 ks l slot b hb) λ cs y. yields {a = node cs}
      (record { plain = rw parts-node; body = rw parts-node y });
}

pub repeat : (w n : ℕ) (k : Kid) → LawfulKid w k → AllLawful w (replicate n k)
repeat w zero k l = tt
repeat w (suc n) k l = (l, repeat w n k l)

-- what the two arrays of a map are: whole words, and a header that is the count
pub record Counted (c : Codec) : Type 0 where
  pub eight : (x : Cell) (b : List ℕ) → c.Lays x b → length b % 8 ≡ 0
  pub count : (b : List ℕ) → When (λ x. num (take 8 b) ≡ length (parts x)) (c.get b)

array-counted : (w : ℕ) (k : Kid) → LawfulKid w k → Counted (array w k)
unfolding array
array-counted w k l = record {
  eight = λ x b y.
      let n = length (parts x) in
      rw (← y.whole, length-append, length-le) (body-eight 8 w (replicate n k) (repeat w n k l) (parts x) y.rest refl y.body);
  count = λ b. when-then (when-assert slot (ℕ_discrete (length b % 8) 0)) λ _ _.
      when-bind (cut-is slot 8 b) λ (h, r) g.
      when-bind (body-count (byte 0) 8 w (replicate (num h) k) r) λ cs e.
      yields {a = node cs} (rw (parts-node, e, length-replicate (num h) k, g));
}

array_lawful : (w : ℕ) (k : Kid) → LawfulKid w k → Lawful (array w k)
unfolding array
array_lawful w k l = record {
  here = λ x f. node-here x (parts x) f.plain;
  sized = tt;
  proper = λ x f. bytes-append (bytes_le 8 (length (parts x)))
      (body-proper 8 w (replicate (length (parts x)) k) (repeat w (length (parts x)) k l) (parts x) f.children);
  cleaned = λ x f.
      let n = length (parts x) in
      let a = body-cleaned 8 w (replicate n k) (repeat w n k l) (parts x) f.children in
      record {
        fits = record { plain = node-clean x f.plain; children = rw (parts-clean, length-map) a.0 };
        size = rw (parts-clean, length-map, length-append, length-append, a.1, length-le);
      };
  fits = λ x b y. record {
    plain = y.plain;
    children = body-fit 8 w (replicate (length (parts x)) k) (repeat w (length (parts x)) k l) (parts x) y.rest
        y.body;
  };
  size = λ x b y. rw (
    ← y.whole,
    length-append,
    length-append,
    length-le,
    body-size 8 w (replicate (length (parts x)) k)
        (repeat w (length (parts x)) k l) (parts x) y.rest y.body,
  );
  laid = λ x f. record {
    rest = _;
    plain = f.plain;
    whole = refl;
    body = body-laid 8 w (replicate (length (parts x)) k) (repeat w (length (parts x)) k l)
        (parts x) refl f.children;
  };
  back = λ x b y m.
      let n = length (parts x) in
      let e = repeat w n k l in
      let c : 8 + length y.rest < 2 ^ 32 = omega (arith, length-append (le 8 n) y.rest, length-le 8 n, ap length y.whole) in
      let z = body-total 8 w (replicate n k) e (parts x) y.rest y.body in
      rw (
        assert-yes slot (ℕ_discrete (length b % 8) 0) ((array-counted w k l).eight x b y),
        ← y.whole,
        cut-back slot 8 (le 8 n) _ (length-le 8 n),
        num-le 8 n (omega (arith, length-replicate n k)),
        body_back 8 w (replicate n k) e (byte 0) (parts x) y.rest y.body c,
      ) (ap got (sym y.plain));
  forth = λ b hb.
      when-then (when-assert slot (ℕ_discrete (length b % 8) 0)) λ _ _.
      when-bind (cut-forth slot 8 hb) λ (h, r) p.
      when-bind (body-forth 8 w (replicate (num h) k) (repeat w (num h) k l) (byte 0) r p.rest) λ cs y.
      let e : length cs ≡ num h = all-length w (replicate (num h) k) cs (body-fit 8 w (replicate (num h) k) (repeat w (num h) k l) cs r y)
      ∙ length-replicate (num h) k in
      let g : le 8 (num h) ≡ h = rw p.size at (le-num p.front) in
      yields {a = node cs} (record { rest = r; plain = rw parts-node; whole = rw (parts-node, e, g) p.whole; body = rw (parts-node, e) y });
}

pair-lawful : (k v : Codec) → Lawful k → Lawful v → Counted k → Counted v → Lawful (pair k v)
unfolding pair
pair-lawful k v lk lv ck cv = record {
  here = λ x f. node-here x _ f.plain;
  sized = tt;
  proper = λ x f. bytes-append (bytes_le 8 (length (k.put (part_of 0 x))))
      (bytes-append (lk.proper (part_of 0 x) f.keys) (lv.proper (part_of 1 x) f.values));
  cleaned = λ x f.
      let a = lk.cleaned (part_of 0 x) f.keys in
      let b = lv.cleaned (part_of 1 x) f.values in
      let e : clean x ≡ node (clean (part_of 0 x) ∷ clean (part_of 1 x) ∷ []) = ap clean f.plain ∙ clean-node (part_of 0 x ∷ part_of 1 x ∷ []) in
      record {
        fits = record {
          plain = simp part-clean e;
          keys = simp part-clean a.fits;
          values = simp part-clean b.fits;
          counts = simp
              (part-clean, count-clean) f.counts;
        };
        size = simp (part-clean, length-append, length-le) (omega (arith, a.size, b.size));
      };
  fits = λ x b y. record {
    plain = y.plain;
    keys = lk.fits (part_of 0 x) y.keys_array y.keys;
    values = lv.fits (part_of 1 x) y.values_array
        y.values;
    counts = y.counts;
  };
  size = λ x b y.
      let a = lk.size (part_of 0 x) y.keys_array y.keys in
      let c = lv.size (part_of 1 x) y.values_array y.values in
      rw (← y.whole) (simp (length-append, length-le) (omega arith));
  laid = λ x f. record {
    keys_array = k.put (part_of 0 x);
    values_array = v.put (part_of 1 x);
    plain = f.plain;
    whole = refl;
    keys = lk.laid (part_of 0 x) f.keys;
    values = lv.laid (part_of 1 x) f.values;
    counts = f.counts;
  };
  back = λ x b y m.
      let p = y.keys_array in
      let q = y.values_array in
      let n : length p + length q < 2 ^ 32 = omega (arith, length-append (le 8 (length p)) (p ++ q), length-append p q, ap length y.whole) in
      let e : length (le 8 (length p) ++ (p ++ q)) % 8 ≡ 0 = simp (length-append, length-le)
      (omega (arith, ck.eight (part_of 0 x) p y.keys, cv.eight (part_of 1 x) q y.values)) in
      let g = lv.back (part_of 1 x) q y.values (omega arith) in
      let i : num (take 8 q) ≡ length (parts (part_of 0 x)) = when-got (rw g at (cv.count q)) ∙ sym y.counts in
      rw (
        ← y.whole,
        assert-yes slot (ℕ_discrete (length (le 8 (length p) ++ (p ++ q)) % 8) 0) e,
        cut-back slot 8 (le 8 (length p)) _ (length-le 8 (length p)),
        num-le 8 (length p) (omega arith),
        assert-yes (byte 0) (ℕ_discrete (length p % 8) 0) (ck.eight (part_of 0 x) p y.keys),
        cut-back (byte 0) (length p) p q refl,
        lk.back (part_of 0 x) p y.keys (omega arith),
        within-got 8 8 (part_of 0 x),
        assert-yes (byte (8 + length p)) (ℕ_discrete (num (take 8 q)) (length (parts (part_of 0 x)))) i,
        g,
        within-got (8 + length p) (8 + length p) (part_of 1 x),
      ) (ap got (sym y.plain));
  forth = λ b hb.
      when-then (when-assert slot (ℕ_discrete (length b % 8) 0)) λ _ _.
      when-bind (cut-forth slot 8 hb) λ (h, r) c.
      when-then (when-assert (byte 0) (ℕ_discrete (num h % 8) 0)) λ _ _.
      when-bind (cut-forth (byte 0) (num h) c.rest) λ (p, q) d.
      when-bind (when-within 8 8 (lk.forth p d.front)) λ ks s.
      when-then (when-assert (byte (8 + num h)) (ℕ_discrete (num (take 8 q)) (length (parts ks)))) λ _ f.
      when-bind (when-within (8 + num h) (8 + num h) (when-both (v.get q) (lv.forth q d.rest) (cv.count q))) λ vs (t, i).
      let e : length (parts ks) ≡ length (parts vs) = sym f ∙ i in
      let g : le 8 (num h) ≡ h = rw c.size at (le-num c.front) in
      yields {a = node (ks ∷ vs ∷ [])} (record {
        keys_array = p;
        values_array = q;
        plain = rw parts-node refl;
        whole = rw (d.size, g, d.whole) c.whole;
        keys = rw parts-node s;
        values = rw parts-node t;
        counts = rw parts-node e;
      });
}

-- ---- types

pub list_lawful : (c : Codec) → Lawful c → Lawful (list c)
list_lawful c l = array_lawful (slot_of c.wide) (kid (slot_of c.wide) c) (kid-array c.wide c l l.sized)

pub list_counted : (c : Codec) → Lawful c → Counted (list c)
list_counted c l = array-counted (slot_of c.wide) (kid (slot_of c.wide) c) (kid-array c.wide c l l.sized)

mutual
  unfolding codec

  pub codec-lawful : (t : Ty) → Lawful (codec t)
  codec-lawful (fix f) = number-lawful (width f) (limit f) (width-8 f)
  codec-lawful (text t) = string-lawful t
  codec-lawful (li t) = list_lawful (codec t) (codec-lawful t)
  codec-lawful (ma k v) = pair-lawful (list (codec k)) (list (codec v)) (list_lawful (codec k) (codec-lawful k)) (list_lawful (codec v) (codec-lawful v))
      (list_counted (codec k) (codec-lawful k)) (list_counted (codec v) (codec-lawful v))
  codec-lawful (ro ts) = struct_lawful (kids ts) (kids-lawful ts)

  pub kids-lawful : (ts : Tys) → AllLawful 8 (kids ts)
  kids-lawful end = tt
  kids-lawful (t then ts) = (kid-struct (codec t).wide (codec t) (codec-lawful t) (codec-lawful t).sized, kids-lawful ts)

-- a type's element is lawful in an array, and its child in a struct
pub element-lawful : (t : Ty) → LawfulKid (slot_of (codec t).wide) (kid (slot_of (codec t).wide) (codec t))
element-lawful t = kid-array (codec t).wide (codec t) (codec-lawful t) (codec-lawful t).sized

pub child-lawful : (t : Ty) → LawfulKid 8 (kid 8 (codec t))
child-lawful t = kid-struct (codec t).wide (codec t) (codec-lawful t) (codec-lawful t).sized

pub kids-count : (ts : Tys) → length (kids ts) ≡ count ts
unfolding codec count
kids-count end = refl
kids-count (t then ts) = ap suc (kids-count ts)

-- what stands for contents is read as them
pub decode-lays : (t : Ty) (c : Cell) (b : List ℕ) → Lays t c b → length b < 2 ^ 32 → decode t b ≡ some c
decode-lays t c b y h = got-some ((codec-lawful t).back c b y h)

-- what is read stands for what it is read as
pub lays-decode : (t : Ty) (b : List ℕ) (c : Cell) → Bytes b → decode t b ≡ some c → Lays t c b
lays-decode t b c h e = when-some {P = λ x. Lays t x b} ((codec-lawful t).forth b h) e

-- what is written stands for what it was written for
pub lays-content : (t : Ty) (c : Cell) → Fits t c → Lays t c (content t c)
lays-content t c f = (codec-lawful t).laid c f

pub decode-content : (t : Ty) (c : Cell) → Fits t c → length (content t c) < 2 ^ 32 → decode t (content t c) ≡ some c
decode-content t c f h = decode-lays t c (content t c) (lays-content t c f) h

pub lays-fits : (t : Ty) (c : Cell) (b : List ℕ) → Lays t c b → Fits t c
lays-fits t c b y = (codec-lawful t).fits c b y

pub lays-size : (t : Ty) (c : Cell) (b : List ℕ) → Lays t c b → length b ≡ length (content t c)
lays-size t c b y = (codec-lawful t).size c b y

-- with zeros under the nulls the contents fit, in as many bytes, and are read back
pub clean-fits : (t : Ty) (c : Cell) → Fits t c → Cleaned (Fits t) (content t) c
clean-fits t c f = (codec-lawful t).cleaned c f
