-- The listing of every type: reading a listing of c gives c cleaned, what is read from a listing is listed so, and a listing is at
-- most three times as long as its row. Assumes nothing.
use mathlib.Core.Path.{◌≡◌, refl, sym, ap, ◌∙◌}
use mathlib.Core.Logic.{◌≢◌}
use mathlib.Core.Option.{Option, none, some}
use mathlib.Core.List.{List, [], ◌∷◌, ◌++◌, map, append_assoc, append-nil}
use Prim.Native.Nat.{ℕ, ◌+◌, ◌*◌, ◌≤◌, ◌<◌, ◌^◌}
use native.Mathlib.Omega.{arith}
use native.Mathlib.Decide.{ℕ_discrete}
use lib.ListN.{length, replicate, length-append, length-replicate}
use Rattle.words.specs.Bytes.{Bytes, le, num, bitmap}
use Rattle.words.proofs.Numbers.{bytes-append, bytes_le, length-le, num-le, le-num, length-padded}
use Rattle.schema.specs.Marks.{types, mark_at}
use Rattle.schema.specs.Types.{Fixed, bo, i1, i2, i4, i8, f4, f8, Text, st, bi, width, Ty, fix, text, li, ma, ro, Tys, end, ◌then◌, fixed_place, text_place}
use Rattle.schema.specs.Types.{place, mark, count}
use Rattle.schema.proofs.Table.{width-pos, is-mark}
use Rattle.layout.specs.Cells.{Cell, node, parts, part_of, clean}
use Rattle.layout.specs.Layout.{Codec, Kid, inside, outside, kid_of, kid, slot_of, AllFit, struct, array, pair, limit, codec, kids}
use Rattle.layout.specs.Layout.{Fits, content}
use Rattle.layout.specs.Listing.{nu, Script, marked, item, run_put, struct_script, list_script, map_script, element, script, scripts, listing, parse}
use Rattle.layout.proofs.Cells.{parts-node, clean-node, parts-clean, part-clean, count-clean}
use Rattle.layout.proofs.Reader.{When, yields, when-bind, when-then, when-map, when-some, when-assert, assert-yes, cut-back, cut-forth, length-zero}
use Rattle.layout.proofs.Kids.{Lawful, LawfulKid, Sized}
use Rattle.layout.proofs.Children.{AllLawful, all-length}
use Rattle.layout.proofs.Containers.{repeat, body-length, codec-lawful, kids-lawful, element-lawful}
use Rattle.layout.proofs.Items.{Listed, Scripted, ScriptedKid, KidFor, pairs, number-scripted, text-scripted, two_bytes, item-scripted}
use Rattle.layout.proofs.Items.{AllScripted, run-same, run-proper, run_long, run_short, run-back, run-forth, repeat-scripted}

-- ---- containers

node-cleaned : (x : Cell) (cs : List Cell) → x ≡ node cs → node (map clean cs) ≡ clean x
node-cleaned x cs e = sym (ap clean e ∙ clean-node cs)

-- a struct's bitmap leaves room for a mark
struct-short : (ks : List Kid) (ss : List Script) → AllLawful 8 ks → AllScripted 8 ks ss → (x : Cell) → (struct ks).Fits x
    → length (run_put ss (parts x)) + 3 * bitmap (length ks) ≤ 3 * length ((struct ks).put x)
unfolding struct
struct-short ks ss l h x f = omega (arith, run_short 8 ks ss (parts x) h f.children, body-length 0 8 ks (parts x) l f.children)

struct-scripted : (ks : List Kid) (ss : List Script) → AllLawful 8 ks → AllScripted 8 ks ss → Scripted (struct ks) (struct_script ss)
unfolding struct struct_script
struct-scripted ks ss lk l = record {
  same = λ x. rw (parts-clean x) (run-same 8 ks ss (parts x) l);
  proper = λ x f. run-proper 8 ks ss (parts x) l f.children;
  short = λ x f. omega (arith, struct-short ks ss lk l x f);
  back = λ x r f h. rw (run-back 8 ks ss (parts x) r l f.children h) (pairs r (node-cleaned x (parts x) f.plain));
  forth = λ b h. when-bind (run-forth 8 ks ss b l h) λ (cs, r) t.
      yields {a = (node cs, r)} (record {
        fits = record { plain = rw parts-node; children = rw parts-node t.fit };
        clear = clean-node cs ∙ ap node t.clear;
        whole = rw parts-node t.whole;
        rest = t.rest;
      });
}

module _ (w : ℕ) (k : Kid) (s : Script) (lk : LawfulKid w k) (l : ScriptedKid w k s) where
  repeat-same : (x : Cell) → run_put (replicate (length (parts (clean x))) s) (parts (clean x)) ≡ run_put (replicate (length (parts x)) s) (parts x)
  repeat-same x = rw (count-clean x, parts-clean x) (run-same w (replicate (length (parts x)) k) (replicate (length (parts x)) s) (parts x)
      (repeat-scripted w (length (parts x)) k s l))

  repeat_short : (x : Cell) → (array w k).Fits x → length (run_put (replicate (length (parts x)) s) (parts x)) ≤ 3 * length ((array w k).put x)
  unfolding array
  repeat_short x f =
      let n = length (parts x) in
      let r = run_short w (replicate n k) (replicate n s) (parts x) (repeat-scripted w n k s l) f.children in
      rw length-append (omega (arith, r, body-length 8 w (replicate n k) (parts x) (repeat w n k lk) f.children, length-le 8 n))

  repeat-proper : (x : Cell) → (array w k).Fits x → Bytes (run_put (replicate (length (parts x)) s) (parts x))
  unfolding array
  repeat-proper x f = run-proper w (replicate (length (parts x)) k) (replicate (length (parts x)) s) (parts x) (repeat-scripted w (length (parts x)) k s l)
      f.children

  list-scripted : Scripted (array w k) (list_script s)
  unfolding array list_script
  list-scripted = record {
    same = λ x. rw (repeat-same x, count-clean x);
    proper = λ x f. bytes-append (bytes_le 4 (length (parts x))) (repeat-proper x f);
    short = λ x f. rw (length-append, length-le) (omega (arith, repeat_short x f));
    back = λ x r f h.
        let n = length (parts x) in
        let a = repeat-scripted w n k s l in
        let b = run_put (replicate n s) (parts x) in
        let z = length-append (le 4 n) b in
        rw (
          append_assoc,
          cut-back 4 (le 4 n) (b ++ r) (length-le 4 n),
          num-le 4 n (omega (arith, run_long w (replicate n k) (replicate n s) (parts x) a f.children)),
          run-back w (replicate n k) (replicate n s) (parts x) r a f.children (omega arith),
        ) (pairs r (node-cleaned x (parts x) f.plain));
    forth = λ b hb.
        when-bind (cut-forth 4 hb) λ (h, r) p.
        when-bind (run-forth w (replicate (num h) k) (replicate (num h) s) r (repeat-scripted w (num h) k s l) p.rest) λ (cs, r') t.
        let e : length cs ≡ num h = all-length w _ cs t.fit ∙ length-replicate (num h) k in
        let y : le 4 (num h) ≡ h = rw p.size at (le-num p.front) in
        yields {a = (node cs, r')} (record {
          fits = record { plain = rw parts-node; children = rw (parts-node, e) t.fit };
          clear = clean-node cs ∙ ap node t.clear;
          whole = rw (parts-node, e, y, append_assoc, t.whole) p.whole;
          rest = t.rest;
        });
  }

module _ (w : ℕ) (k : Kid) (s : Script) (lk : LawfulKid w k) (l : ScriptedKid w k s)
    (w' : ℕ) (k' : Kid) (s' : Script) (lk' : LawfulKid w' k') (l' : ScriptedKid w' k' s') where
  map_back : (x : Cell) (r : List ℕ) → (pair (array w k) (array w' k')).Fits x → length ((map_script s s').put x) < 2 ^ 32
      → (map_script s s').get ((map_script s s').put x ++ r) ≡ some (clean x, r)
  unfolding pair array map_script
  map_back x r f h =
      let p = parts (part_of 0 x) in
      let q = parts (part_of 1 x) in
      let n = length p in
      let a = repeat-scripted w n k s l in
      let a' = repeat-scripted w' n k' s' l' in
      let b = run_put (replicate n s) p in
      let b' = run_put (replicate n s') q in
      let fq : AllFit w' (replicate n k') q = rw f.counts f.values.children in
      let z : length (le 4 n ++ (b ++ b')) < 2 ^ 32 = rw (← f.counts) at h in
      let z' : 4 + (length b + length b') < 2 ^ 32 = simp (length-append, length-le) at z in
      let e : node (node (map clean p) ∷ node (map clean q) ∷ []) ≡ clean x =
      rw (node-cleaned (part_of 0 x) p f.keys.plain, node-cleaned (part_of 1 x) q f.values.plain)
      (node-cleaned x (part_of 0 x ∷ part_of 1 x ∷ []) f.plain) in
      rw (
        ← f.counts,
        append_assoc,
        append_assoc,
        cut-back 4 (le 4 n) (b ++ (b' ++ r)) (length-le 4 n),
        num-le 4 n (omega (arith, run_long w (replicate n k) (replicate n s) p a f.keys.children)),
        run-back w (replicate n k) (replicate n s) p (b' ++ r) a f.keys.children (omega arith),
        run-back w' (replicate n k') (replicate n s') q r a' fq (omega arith),
      ) (pairs r e)

  map-forth : (b : List ℕ) → Bytes b → When (Listed (pair (array w k) (array w' k')).Fits (map_script s s').put b) ((map_script s s').get b)
  unfolding pair array map_script
  map-forth b hb =
      when-bind (cut-forth 4 hb) λ (h, r) p.
      when-bind (run-forth w (replicate (num h) k) (replicate (num h) s) r (repeat-scripted w (num h) k s l) p.rest) λ (ks, r') t.
      when-bind (run-forth w' (replicate (num h) k') (replicate (num h) s') r' (repeat-scripted w' (num h) k' s' l') t.rest) λ (vs, r'') u.
      let e : length ks ≡ num h = all-length w _ ks t.fit ∙ length-replicate (num h) k in
      let e' : length vs ≡ num h = all-length w' _ vs u.fit ∙ length-replicate (num h) k' in
      let y : le 4 (num h) ≡ h = rw p.size at (le-num p.front) in
      yields {a = (node (node ks ∷ node vs ∷ []), r'')} (record {
        fits = record {
          plain = simp parts-node;
          keys = record { plain = simp parts-node; children = simp (parts-node, e) t.fit };
          values = record { plain = simp parts-node; children = simp (parts-node, e') u.fit };
          counts = simp (parts-node, e, e');
        };
        clear = simp (clean-node, t.clear, u.clear);
        whole = simp (parts-node, e, e', y, append_assoc, u.whole, t.whole) p.whole;
        rest = u.rest;
      })

  map-scripted : Scripted (pair (array w k) (array w' k')) (map_script s s')
  unfolding pair map_script
  map-scripted = record {
    same = λ x. rw (part-clean 0 x, part-clean 1 x, repeat-same w k s lk l (part_of 0 x), repeat-same w' k' s' lk' l' (part_of 1 x), count-clean (part_of 0 x));
    proper = λ x f. bytes-append (bytes_le 4 (length (parts (part_of 0 x))))
        (bytes-append (repeat-proper w k s lk l (part_of 0 x) f.keys) (repeat-proper w' k' s' lk' l' (part_of 1 x) f.values));
    short = λ x f.
        let p = repeat_short w k s lk l (part_of 0 x) f.keys in
        let q = repeat_short w' k' s' lk' l' (part_of 1 x) f.values in
        simp (length-append, length-le) (omega arith);
    back = map_back;
    forth = map-forth;
  }

-- ---- types

fixed-not-nu : (f : Fixed) → num (mark (fix f)) ≢ num nu
unfolding mark mark_at types place fixed_place num
fixed-not-nu bo e = omega arith
fixed-not-nu i1 e = omega arith
fixed-not-nu i2 e = omega arith
fixed-not-nu i4 e = omega arith
fixed-not-nu i8 e = omega arith
fixed-not-nu f4 e = omega arith
fixed-not-nu f8 e = omega arith

text-not-nu : (t : Text) → num (mark (text t)) ≢ num nu
unfolding mark mark_at types place text_place num
text-not-nu st e = omega arith
text-not-nu bi e = omega arith

pub not-nu : (t : Ty) → num (mark t) ≢ num nu
unfolding mark mark_at types place num
not-nu (fix f) e = fixed-not-nu f e
not-nu (text t) e = text-not-nu t e
not-nu (li t) e = omega arith
not-nu (ma k v) e = omega arith
not-nu (ro ts) e = omega arith

-- there is room for a child's listing, in a slot of the table's width and in one of 8
outside-for : (c : Codec) → Lawful c → KidFor 8 none c (outside c)
unfolding outside
outside-for c l = record {
  fits = λ x f. f;
  given = λ x f. f;
  here = l.here;
  roomy = λ s h x f. rw (length-padded (c.put x)) (omega (arith, h x f));
  one = λ s h. omega arith;
}

inside-for : (w v : ℕ) (c : Codec) → Lawful c → v ≤ w → KidFor w (some v) c (inside w v c)
unfolding inside
inside-for w v c l e = record {
  fits = λ x f. f;
  given = λ x f. f;
  here = l.here;
  roomy = λ s h x f. omega (arith, h.short x f, h.one);
  one = λ s h. omega (arith, h.one);
}

array-for : (o : Option ℕ) (c : Codec) → Lawful c → KidFor (slot_of o) o c (kid_of (slot_of o) o c)
unfolding slot_of kid_of
array-for none c l = outside-for c l
array-for (some v) c l = inside-for v v c l (omega arith)

struct-for : (o : Option ℕ) (c : Codec) → Lawful c → Sized o c.Fits c.put → KidFor 8 o c (kid_of 8 o c)
unfolding kid_of
struct-for none c l s = outside-for c l
struct-for (some v) c l s = inside-for 8 v c l s.small

element-scripted : (t : Ty) → Scripted (codec t) (script t) → ScriptedKid (slot_of (codec t).wide) (kid (slot_of (codec t).wide) (codec t))
    (element t (script t))
element-scripted t l = let c = codec t in item-scripted (slot_of c.wide) c (kid (slot_of c.wide) c) (array-for c.wide c (codec-lawful t)) (mark t)
    (is-mark t) (not-nu t) (script t) l

field-scripted : (t : Ty) → Scripted (codec t) (script t) → ScriptedKid 8 (kid 8 (codec t)) (item 8 (mark t) (script t))
field-scripted t l = let c = codec t in item-scripted 8 c (kid 8 c) (struct-for c.wide c (codec-lawful t) (codec-lawful t).sized) (mark t) (is-mark t)
    (not-nu t) (script t) l

mutual
  unfolding script codec

  pub script-lawful : (t : Ty) → Scripted (codec t) (script t)
  script-lawful (fix f) = number-scripted (width f) (limit f) (width-pos f)
  script-lawful (text t) = text-scripted t
  script-lawful (li t) = list-scripted _ _ (element t (script t)) (element-lawful t) (element-scripted t (script-lawful t))
  script-lawful (ma k v) =
      map-scripted _ _ (element k (script k)) (element-lawful k) (element-scripted k (script-lawful k)) _ _ (element v (script v)) (element-lawful v)
      (element-scripted v (script-lawful v))
  script-lawful (ro ts) = struct-scripted (kids ts) (scripts ts) (kids-lawful ts) (scripts-lawful ts)

  pub scripts-lawful : (ts : Tys) → AllScripted 8 (kids ts) (scripts ts)
  scripts-lawful end = tt
  scripts-lawful (t then ts) = (field-scripted t (script-lawful t), scripts-lawful ts)

-- reading the listing of c gives c cleaned
pub parse-listing : (t : Ty) (c : Cell) → Fits t c → length (listing t c) < 2 ^ 32 → parse t (listing t c) ≡ some (clean c)
unfolding parse listing marked
parse-listing t c f h =
    let s = (script t).put c in
    let z = length-append (mark t) s in
    let b : (script t).get s ≡ some (clean c, []) = rw append-nil at ((script-lawful t).back c [] f (omega arith)) in
    rw (cut-back 2 (mark t) s (is-mark t).two, assert-yes (ℕ_discrete (num (mark t)) (num (mark t))) refl, b, assert-yes (ℕ_discrete 0 0) refl)

-- what is read from a listing fits, has zeros under its nulls, and is listed so
pub record Parsed (t : Ty) (b : List ℕ) (c : Cell) : Type 0 where
  pub fits : Fits t c
  pub clear : clean c ≡ c
  pub lists : listing t c ≡ b

pub listing-parse : (t : Ty) (b : List ℕ) (c : Cell) → Bytes b → parse t b ≡ some c → Parsed t b c
unfolding parse listing marked
listing-parse t b c hb e = when-some {P = Parsed t b} all e
  where
    all : When (Parsed t b) (parse t b)
    all =
        when-bind (cut-forth 2 hb) λ (h, r) p.
        when-bind (when-then (when-assert (ℕ_discrete (num h) (num (mark t)))) λ _ g.
        when-map {P = λ q. (num h ≡ num (mark t)) × Listed (Fits t) (script t).put r q} ((script-lawful t).forth r p.rest) λ q u. (g, u)) λ
        (c, r') q.
        when-then (when-assert (ℕ_discrete (length r') 0)) λ _ n.
        let o : (script t).put c ≡ r = rw (length-zero r' n, append-nil) at q.1.whole in
        yields (record { fits = q.1.fits; clear = q.1.clear; lists = rw (← (two_bytes (is-mark t) p.size p.front q.0), o) p.whole })

-- the bytes under nulls play no part in it
pub listing-clean : (t : Ty) (c : Cell) → listing t (clean c) ≡ listing t c
unfolding listing
listing-clean t c = rw ((script-lawful t).same c)

pub bytes-listing : (t : Ty) (c : Cell) → Fits t c → Bytes (listing t c)
unfolding listing
bytes-listing t c f = bytes-append (is-mark t).bytes ((script-lawful t).proper c f)

-- of a root, which is a struct of one field or more, it is at most three times as long as the row
listing-short : (t : Ty) (ts : Tys) (c : Cell) → Fits (ro (t then ts)) c → length (listing (ro (t then ts)) c) ≤ 3 * length (content (ro (t then ts)) c)
unfolding listing codec script struct_script
listing-short t ts c f =
    let h = struct-short (kids (t then ts)) (scripts (t then ts)) (kids-lawful (t then ts)) (scripts-lawful (t then ts)) c f in
    rw (length-append, (is-mark (ro (t then ts))).two) (omega arith)

pub root-short : (ts : Tys) (c : Cell) → 1 ≤ count ts → Fits (ro ts) c → length (listing (ro ts) c) ≤ 3 * length (content (ro ts) c)
unfolding count
root-short end c h f = absurd (omega arith)
root-short (t then ts) c h f = listing-short t ts c f
