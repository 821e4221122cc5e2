-- What measuring says of each kind of contents, and of a child from what it says of its contents. Assumes nothing.
use mathlib.Core.Path.{◌≡◌, refl, sym, ap, ◌∙◌, subst}
use mathlib.Core.Option.{Option, none, some}
use mathlib.Core.List.{List, [], ◌∷◌}
use Prim.Native.Nat.{ℕ, ◌+◌, ◌*◌, ◌-◌, ◌≤◌, ◌<◌, ◌%◌}
use native.Mathlib.Decide.{dec_lt, ℕ_discrete}
use native.Mathlib.Omega.{arith}
use lib.ListN.{length, drop, get_or, replicate, length-append}
use mir.Syntax.{w64}
use mir.Val.{Fits}
use Rattle.words.specs.Bytes.{Bytes, num, part, zeros, pad}
use Rattle.words.specs.Reads.{Reads}
use Rattle.words.specs.Pairs.{low_in, high_in, Paired}
use Rattle.words.proofs.Numbers.{bytes_drop, length-padded, length-le}
use Rattle.words.proofs.Parts.{length_part}
use Rattle.words.proofs.NumLaws.{part-lt, num-one}
use Rattle.schema.specs.Types.{Fixed, width, fixed_at, Text, Ty, fix, text, li, ma, ro, Tys, mark}
use Rattle.schema.proofs.Table.{width-pos, width-8, line-width, place-fixed, bool-one}
use Rattle.layout.specs.Cells.{Cell, null, leaf, node, on_null, flag}
use Rattle.layout.specs.Layout.{Codec, Kid, Spells, number, string, inside, outside, kid_of, kid, kid_tail, array, pair, struct, limit, codec, content}
use Rattle.layout.specs.Listing.{nu, item, run_get, struct_script, list_script, map_script, element, script}
use Rattle.layout.proofs.Reader.{when-some}
use Rattle.layout.proofs.Cells.{parts-node, present, leaf-bytes}
use Rattle.layout.proofs.Containers.{codec-lawful}
use Rattle.layout.proofs.Items.{Listed}
use Rattle.layout.proofs.Listed.{script-lawful, not-nu}
use Rattle.layout.proofs.Widths.{limit-free, bool-two}
use Rattle.table.specs.Words.{width_in, place_in}
use Rattle.measuring.specs.Measure.{tail_len, size, Gives, BodyTold, ChildTold, ArrayTold, FieldsTold, NullTold, OnlyNull, Goes, FixedCan, TextCan}
use Rattle.measuring.proofs.Packs.{paired-bare, told_none, told-gives, told-as}
use Rattle.measuring.proofs.Records.{cut_short, cut_at, item-short, item-null, item-other, item-body}
use Rattle.measuring.proofs.Records.{number_short, number-high, number-good, text-short, text-cut, text-bad, text-good}

-- ---- bytes behind the slots

tail-fixed : (f : Fixed) (c : Cell) → tail_len (fix f) c ≡ 0
unfolding tail_len codec number kid_of inside
tail-fixed f c = refl

-- a varying type's contents, padded
pub tail-varies : (t : Ty) → (codec t).wide ≡ none → (c : Cell) → tail_len t c ≡ pad (size t c)
unfolding tail_len size kid_of outside
tail-varies t e c = rw e (length-padded (content t c))

text-none : (t : Text) → (codec (text t)).wide ≡ none
unfolding codec string
text-none t = refl

li-none : (t : Ty) → (codec (li t)).wide ≡ none
unfolding codec array
li-none t = refl

ma-none : (k v : Ty) → (codec (ma k v)).wide ≡ none
unfolding codec pair
ma-none k v = refl

pub ro-none : (ts : Tys) → (codec (ro ts)).wide ≡ none
unfolding codec struct
ro-none ts = refl

text-size : (t : Text) (u : List ℕ) → size (text t) (leaf u) ≡ length u
unfolding size codec string
text-size t u = ap length (leaf-bytes u)

-- contents of whole words are not padded
tail-whole : (t : Ty) (c : Cell) (n : ℕ) → (codec t).wide ≡ none → n ≡ size t c → n % 8 ≡ 0 → n ≡ tail_len t c
tail-whole t c n e s w = omega (arith, tail-varies t e c)

-- ---- numbers of fixed width, in the words of the code: x is the width that the entry says

module _ {w : ℕ} {l : List ℕ} {from : ℕ} (p : FixedCan w l from) where
  abbrev f : Fixed
  f = fixed_at (place_in w)

  wide_is : width_in w ≡ width f
  wide_is = p.lined.width ∙ line-width (place_in w) p.fixed

  pub width_fits : {x : ℕ} → x ≡ width_in w → Fits w64 (2 + x)
  width_fits e = omega (arith, wide_is, width-8 f)

  pub fixed-short : {x : ℕ} → x ≡ width_in w → length l - from < 2 + x → (script (fix f)).get (drop (from + 2) l) ≡ none
  unfolding script
  fixed-short e g = number_short (width f) (limit f) l (from + 2) (omega (arith, wide_is, width-pos f))

  module _ {x : ℕ} (e : x ≡ width_in w) (g : 2 + x ≤ length l - from) where
    room : width f ≤ length l - (from + 2)
    room = omega (arith, wide_is)

    fixed-good : num (part l (from + 2) (width f)) < limit f → {r : ℕ} → Paired (from + (2 + x)) 0 r → BodyTold (fix f) l (from + 2) r
    unfolding script
    fixed-good b q =
        let u = part l (from + 2) (width f) in
        let z : from + 2 + width f ≡ from + (2 + x) = omega (arith, wide_is) in
        record {
          told = told-gives (record {
            thing = leaf u;
            reads = number-good (width f) (limit f) l (from + 2) room b ∙ ap (λ (j : ℕ). some (leaf u, drop j l)) z;
            is = sym (tail-fixed f (leaf u));
            words = omega arith;
            inside = omega arith;
            small = omega arith;
          }) (omega arith) q;
        }

    pub fixed-free : Bytes l → {k : ℕ} → k ≡ place_in w → (k ≡ 0 → ⊥) → {r : ℕ} → Paired (from + (2 + x)) 0 r → BodyTold (fix f) l (from + 2) r
    fixed-free hb ek ne =
        fixed-good (rw (limit-free f (λ e. ne (ek ∙ sym (place-fixed (place_in w) p.fixed) ∙ e))) (part-lt (from + 2) (width f) hb (omega (arith, room))))

    module _ {k : ℕ} (ek : k ≡ place_in w) (z : k ≡ 0) where
      pub bool-room : from + 2 < length l
      bool-room = omega (arith, room, bool-one (place_in w) (sym ek ∙ z))

      one : num (part l (from + 2) (width f)) ≡ get_or l (from + 2) 0
      one = ap (λ (j : ℕ). num (part l (from + 2) j)) (bool-one (place_in w) (sym ek ∙ z)) ∙ num-one l (from + 2) bool-room

      pub bool-high : 1 < get_or l (from + 2) 0 → BodyTold (fix f) l (from + 2) 0
      unfolding script
      bool-high b = record { told = told_none (number-high (width f) (limit f) l (from + 2) room (omega (arith, bool-two (place_in w) (sym ek ∙ z), one))) }

      pub bool-good : get_or l (from + 2) 0 ≤ 1 → {r : ℕ} → Paired (from + (2 + x)) 0 r → BodyTold (fix f) l (from + 2) r
      bool-good b = fixed-good (omega (arith, bool-two (place_in w) (sym ek ∙ z), one))

-- ---- texts

module _ (t : Text) {w : ℕ} {l : List ℕ} {from : ℕ} (p : TextCan w l from) where
  pub texts-short : length l - from < 6 → (script (text t)).get (drop (from + 2) l) ≡ none
  unfolding script
  texts-short h = text-short t l (from + 2) (omega arith)

  module _ (h : 6 ≤ length l - from) {n : ℕ} (e : Reads l (from + 2) 4 n) where
    four : 4 ≤ length l - (from + 2)
    four = omega arith

    pub texts-cut : length l - from - 6 < n → BodyTold (text t) l (from + 2) 0
    unfolding script
    texts-cut g = record { told = told_none (text-cut t l (from + 2) four n e.is (omega arith)) }

    module _ (g : n ≤ length l - from - 6) where
      pub texts-bad : ¬ Spells t (part l (from + 2 + 4) n) → BodyTold (text t) l (from + 2) 0
      unfolding script
      texts-bad s = record { told = told_none (text-bad t l (from + 2) four n e.is (omega arith) s) }

      module _ (s : Spells t (part l (from + 2 + 4) n)) {m : ℕ} (q : m ≡ pad n) where
        text-gives : Gives ((script (text t)).get (drop (from + 2) l)) (tail_len (text t)) l (16 * (from + 2)) 0 (from + 6 + n) m
        unfolding script
        text-gives =
            let u = part l (from + 2 + 4) n in
            let z : from + 2 + 4 + n ≡ from + 6 + n = omega arith in
            let long : length u ≡ n = length_part l (from + 2 + 4) n (omega arith) in
            record {
              thing = leaf u;
              reads = text-good t l (from + 2) four n e.is (omega arith) s ∙ ap (λ (j : ℕ). some (leaf u, drop j l)) z;
              is = q ∙ sym (tail-varies (text t) (text-none t) (leaf u) ∙ ap (λ (j : ℕ). pad j) (text-size t u ∙ long));
              words = omega arith;
              inside = omega arith;
              small = omega arith;
            }

        pub texts-good : {r : ℕ} → Paired (from + 6 + n) m r → BodyTold (text t) l (from + 2) r
        texts-good q = record { told = told-gives text-gives (omega arith) q }

-- ---- a child with its mark

-- the slot's width plays no part in the bytes behind the slots
tail-any : (w : ℕ) (o : Option ℕ) (c : Codec) (x : Cell) → (kid_of w o c).tail x ≡ (kid_of 8 o c).tail x
unfolding kid_of inside outside
tail-any w none c x = refl
tail-any w (some v) c x = refl

pub tail-here : (w : ℕ) (t : Ty) (x : Cell) → flag x ≡ 0 → tail_len t x ≡ length (kid_tail (kid w (codec t)) x)
unfolding tail_len
tail-here w t x e = ap length (sym (present (λ _. []) ((kid w (codec t)).tail x) x e ∙ tail-any w (codec t).wide (codec t) x))

-- what is read behind a mark is no null
pub read_here : (t : Ty) (l : List ℕ) (at : ℕ) (c : Cell) (r : List ℕ) → Bytes l → (script t).get (drop at l) ≡ some (c, r) → flag c ≡ 0
read_here t l at c r hb e =
    let g : Listed (codec t).Fits (script t).put (drop at l) (c, r) =
    when-some {P = Listed (codec t).Fits (script t).put (drop at l)} ((script-lawful t).forth (drop at l) (bytes_drop at hb)) e in
    (codec-lawful t).here c g.fits

null-tail : (k : Kid) (u : List ℕ) → 0 ≡ length (kid_tail k (null u))
unfolding on_null
null-tail k u = refl

pub nu-is : num nu ≡ 30062
unfolding num
nu-is = refl

pub child-short : {t : Ty} {l : List ℕ} {from : ℕ} → length l - from < 2 → ChildTold t l from 0
child-short {t} {l} {from} h = record { each = λ w. told_none (item-short w (mark t) (script t) l from h) }

-- the mark's number m was read: x is that of the type's own
module _ (t : Ty) {l : List ℕ} {from m x : ℕ} (g : Goes l from) (two : 2 ≤ length l - from) (read : m ≡ num (part l from 2)) (own : x ≡ num (mark t)) where
  null-gives : m ≡ num nu → ChildTold t l from (from + 2)
  null-gives e = record {
    each = λ w. told-gives (record {
      thing = null (zeros w);
      reads = item-null w (mark t) (script t) l from two (sym read ∙ e);
      is = null-tail (kid w (codec t)) (zeros w);
      words = omega arith;
      inside = omega arith;
      small = omega arith;
    }) (omega arith) (paired-bare (omega (arith, g.inside, g.short)));
  }

  pub child-unmarked : (m ≡ x → ⊥) → {r : ℕ} → NullTold m from r → ChildTold t l from r
  child-unmarked ne {r} z = go (ℕ_discrete m 30062)
    where
      go : Dec (m ≡ 30062) → ChildTold t l from r
      go (yes e) = rw (z.null e) (null-gives (e ∙ sym nu-is))
      go (no e) = rw (z.other e) (record {
        each = λ w. told_none (item-other w (mark t) (script t) l from two (λ q. e (read ∙ q ∙ nu-is)) (λ q. ne (read ∙ q ∙ sym own)));
      })

  marked-body : m ≡ x → (w : ℕ) → (item w (mark t) (script t)).get (drop from l) ≡ (script t).get (drop (from + 2) l)
  marked-body e w =
      let same : num (part l from 2) ≡ num (mark t) = sym read ∙ e ∙ own in
      item-body w (mark t) (script t) l from two (λ q. not-nu t (sym same ∙ q)) same

  pub child-body : m ≡ x → Bytes l → {r : ℕ} → BodyTold t l (from + 2) r → ChildTold t l from r
  child-body e hb b = record { each = λ w. told-as (λ q. marked-body e w ∙ q) (gives w) b.told }
    where
      gives : (w next n : ℕ) → Gives ((script t).get (drop (from + 2) l)) (tail_len t) l (16 * (from + 2)) 0 next n
          → Gives ((item w (mark t) (script t)).get (drop from l)) (λ c. length (kid_tail (kid w (codec t)) c)) l (16 * from + 32) 0 next n
      gives w next n g = record {
        thing = g.thing;
        reads = marked-body e w ∙ g.reads;
        is = g.is ∙ tail-here w t g.thing (read_here t l (from + 2) g.thing (drop next l) hb g.reads);
        words = g.words;
        inside = g.inside;
        small = omega (arith, g.small);
      }

-- where too little is left for the contents
pub child-only : (t : Ty) {l : List ℕ} {from r : ℕ} → Goes l from → OnlyNull l from r → (script t).get (drop (from + 2) l) ≡ none → ChildTold t l from r
child-only t {l} {from} {r} g z e = go (dec_lt (length l - from) 2)
  where
    told : (h : 2 ≤ length l - from) → Dec (num (part l from 2) ≡ num (mark t)) → ChildTold t l from r
    told h (no ne) = child-unmarked t g h refl refl ne (z.seen h)
    told h (yes q) =
        let other : r ≡ 0 = (z.seen h).other (λ y. not-nu t (sym q ∙ y ∙ sym nu-is)) in
        rw other (record { each = λ w. told_none (marked-body t g h refl refl q w ∙ e) })

    go : Dec (length l - from < 2) → ChildTold t l from r
    go (yes h) = rw (z.short h) (child-short h)
    go (no h) = told (omega arith) (ℕ_discrete (num (part l from 2)) (num (mark t)))

-- ---- containers

pub struct_told : {ts : Tys} {l : List ℕ} {at r : ℕ} → FieldsTold ts l at r → BodyTold (ro ts) l at r
unfolding script struct_script
struct_told {ts} x = record {
  told = told-as (λ e. rw e) (λ next n g. record {
    thing = node g.thing;
    reads = rw g.reads;
    is = tail-whole (ro ts) (node g.thing) n (ro-none ts) g.is g.words;
    words = g.words;
    inside = g.inside;
    small = g.small;
  }) x.told;
}

pub map-size : (k v : Ty) (ks vs : List Cell) → 8 + size (li k) (node ks) + size (li v) (node vs) ≡ size (ma k v) (node (node ks ∷ node vs ∷ []))
unfolding size codec pair
map-size k v ks vs = simp (parts-node, length-append, length-le) (omega arith)

pub list-short : (t : Ty) (l : List ℕ) (at : ℕ) → length l - at < 4 → BodyTold (li t) l at 0
unfolding script list_script
list-short t l at h = record { told = told_none (rw (cut_short 4 l at h)) }

pub map-short : (k v : Ty) (l : List ℕ) (at : ℕ) → length l - at < 4 → BodyTold (ma k v) l at 0
unfolding script map_script
map-short k v l at h = record { told = told_none (rw (cut_short 4 l at h)) }

module _ {l : List ℕ} {at : ℕ} (h : 4 ≤ length l - at) {n : ℕ} (e : Reads l at 4 n) where
  pub list-told : {t : Ty} {r : ℕ} → ArrayTold t l (at + 4) n r → BodyTold (li t) l at r
  unfolding script list_script
  list-told {t} x = record {
    told = told-as (λ q. rw (cut_at 4 l at h, ← e.is, q)) (λ next m g. record {
      thing = node g.thing;
      reads = rw (cut_at 4 l at h, ← e.is, g.reads);
      is = tail-whole (li t) (node g.thing) m (li-none t) g.is g.words;
      words = g.words;
      inside = g.inside;
      small = omega (arith, g.small);
    }) x.told;
  }

  -- a map's keys, measured as a
  module _ (k v : Ty) {a : ℕ} (x : ArrayTold k l (at + 4) n a) where
    pub map_keys : a ≡ 0 → BodyTold (ma k v) l at 0
    unfolding script map_script
    map_keys z = record { told = told_none (rw (cut_at 4 l at h, ← e.is, x.told.refused z)) }

    -- and its values behind them, measured as b
    module _ (ne : a ≡ 0 → ⊥) {mid : ℕ} (em : mid ≡ low_in a) {b : ℕ} (y : ArrayTold v l mid n b) where
      abbrev keys : Gives (run_get (replicate n (element k (script k))) (drop (at + 4) l)) (λ cs. size (li k) (node cs))
          l (16 * (at + 4)) 24 (low_in a) (high_in a)
      keys = x.told.good ne

      abbrev there : ArrayTold v l (low_in a) n b
      there = subst (λ (j : ℕ). ArrayTold v l j n b) em y

      pub map-values : b ≡ 0 → BodyTold (ma k v) l at 0
      unfolding script map_script
      map-values z = record { told = told_none (rw (cut_at 4 l at h, ← e.is, keys.reads, there.told.refused z)) }

      pub map_gives : (b ≡ 0 → ⊥) → {next K U : ℕ} → next ≡ low_in b → K ≡ high_in a → U ≡ high_in b
          → Gives ((script (ma k v)).get (drop at l)) (tail_len (ma k v)) l (16 * at) 0 next (8 + K + U)
      unfolding script map_script
      map_gives z {next} {K} {U} en ek eu =
          let g = there.told.good z in
          let w : (8 + K + U) % 8 ≡ 0 = omega (arith, keys.words, g.words) in
          let s : 8 + K + U ≡ size (ma k v) (node (node keys.thing ∷ node g.thing ∷ [])) =
          rw (ek, eu, keys.is, g.is) (map-size k v keys.thing g.thing) in
          record {
            thing = node (node keys.thing ∷ node g.thing ∷ []);
            reads = rw (cut_at 4 l at h, ← e.is, keys.reads, g.reads, en);
            is = tail-whole (ma k v) (node (node keys.thing ∷ node g.thing ∷ [])) (8 + K + U) (ma-none k v) s w;
            words = w;
            inside = rw en g.inside;
            small = omega (arith, keys.small, g.small);
          }
