-- The laws of a codec and of a child in its container, each a field of one record; and that they hold of leaves and of children.
-- Assumes nothing.
use mathlib.Core.Path.{◌≡◌, refl, sym, ap, ◌∙◌}
use mathlib.Core.Option.{Option, none, some}
use mathlib.Core.List.{List, ◌∷◌, ◌++◌, append_assoc}
use Prim.Native.Nat.{ℕ, ◌+◌, ◌*◌, ◌-◌, ◌/◌, ◌%◌, ◌^◌, ◌≤◌, ◌<◌}
use native.Mathlib.Omega.{arith}
use native.Mathlib.Decide.{dec_lt, ℕ_discrete}
use lib.ListN.{length, drop, length-append, length-replicate}
use lib.Seq.{drop_at}
use Rattle.words.specs.Bytes.{Bytes, empty, le, num, zeros, fill, pad, padded, zeros_ahead}
use Rattle.words.proofs.Numbers.{bytes_le, bytes-fill, bytes_drop, length-le, num-le, le-num, num-zeros, length-fill, length-padded, fill_is}
use Rattle.schema.specs.Types.{Text}
use Rattle.layout.specs.Faults.{slot, byte, got}
use Rattle.layout.specs.Tiles.{Range, range, total, Stands, stands?}
use Rattle.layout.specs.Cells.{Cell, leaf, flag, bytes, clean}
use Rattle.layout.specs.Layout.{Codec, Kid, NumberFits, StringFits, spells?, number, string, inside, outside, kid_of, slot_of}
use Rattle.layout.proofs.Cells.{leaf-here, leaf-bytes, clean-leaf}
use Rattle.layout.proofs.Tiles.{Packed, stands-next}
use Rattle.layout.proofs.Faults.{When, yields, when-bind, when-then, when-within, within-got, when-assert, assert-yes, cut-back, cut-forth}

-- ---- the laws of a codec

-- a type of v bytes takes v bytes
pub record SizedAs (v : ℕ) (Fit : Cell → Type 0) (put : Cell → List ℕ) : Type 0 where
  pub small : v ≤ 8
  pub size : (x : Cell) → Fit x → length (put x) ≡ v

abbrev pub Sized : Option ℕ → (Cell → Type 0) → (Cell → List ℕ) → Type 0
Sized none Fit put = Unit {0}
Sized (some v) Fit put = SizedAs v Fit put

-- zeros under the nulls: it still fits, in as many bytes
pub record Cleaned (Fit : Cell → Type 0) (put : Cell → List ℕ) (x : Cell) : Type 0 where
  pub fits : Fit (clean x)
  pub size : length (put (clean x)) ≡ length (put x)

pub record Lawful (c : Codec) : Type 0 where
  pub here : (x : Cell) → c.Fits x → flag x ≡ 0
  pub sized : Sized c.wide c.Fits c.put
  pub proper : (x : Cell) → c.Fits x → Bytes (c.put x)
  pub cleaned : (x : Cell) → c.Fits x → Cleaned c.Fits c.put x
  pub fits : (x : Cell) (b : List ℕ) → c.Lays x b → c.Fits x
  pub size : (x : Cell) (b : List ℕ) → c.Lays x b → length b ≡ length (c.put x)
  pub laid : (x : Cell) → c.Fits x → c.Lays x (c.put x)
  pub back : (x : Cell) (b : List ℕ) → c.Lays x b → length b < 2 ^ 32 → c.get b ≡ got x
  pub forth : (b : List ℕ) → Bytes b → When (λ x. c.Lays x b) (c.get b)

-- ---- the laws of a child

-- what stands in the range q of d stands there in e too
abbrev pub Kept : ℕ → List ℕ → List ℕ → Range → Type 0
Kept at d e q = (v r : List ℕ) → length v ≡ q.size → v ++ r ≡ drop (q.start - at) d → (r' : List ℕ) × (v ++ r' ≡ drop (q.start - at) e)

-- a child adds no range, or one that may stand there
pub data Adds (at stop : ℕ) (rs : List Range) : List Range → Type 0 where
  same : Adds at stop rs rs
  more : {q : Range} → Stands at stop rs q → q.size % 8 ≡ 0 → Adds at stop rs (q ∷ rs)

-- in order, the child comes next, behind what stands already
pub record Next (Lay : List Range → Type 0) (at : ℕ) (rs : List Range) (n : ℕ) : Type 0 where
  pub ranges : List Range
  pub lays : Lay ranges
  pub packed : Packed at ranges
  pub takes : total ranges ≡ total rs + n

-- the slot is w bytes, and the child adds what its data takes
pub record Takes (w : ℕ) (rs : List Range) (s : List ℕ) (rs' : List Range) (n : ℕ) : Type 0 where
  pub slot : length s ≡ w
  pub adds : total rs' ≡ total rs + n

pub record LawfulKid (w : ℕ) (k : Kid) : Type 0 where
  pub here : (x : Cell) → k.Fits x → flag x ≡ 0
  pub wide : (at : ℕ) (x : Cell) → k.Fits x → length (k.slot at x) ≡ w
  pub eight : (x : Cell) → length (k.tail x) % 8 ≡ 0
  pub slotted : (at : ℕ) (x : Cell) → k.Fits x → Bytes (k.slot at x)
  pub proper : (x : Cell) → k.Fits x → Bytes (k.tail x)
  pub cleaned : (x : Cell) → k.Fits x → Cleaned k.Fits k.tail x
  pub fits : (at : ℕ) (d : List ℕ) (rs : List Range) (x : Cell) (s : List ℕ) (rs' : List Range) → k.Lays at d rs x s rs' → k.Fits x
  pub size : (at : ℕ) (d : List ℕ) (rs : List Range) (x : Cell) (s : List ℕ) (rs' : List Range) → k.Lays at d rs x s rs'
      → Takes w rs s rs' (length (k.tail x))
  pub laid : (at : ℕ) (d e : List ℕ) (rs : List Range) (x : Cell) → k.Fits x → Packed at rs → total rs ≡ length d → (at + total rs) % 8 ≡ 0
      → Next (k.Lays at (d ++ (k.tail x ++ e)) rs x (k.slot (at + total rs) x)) at rs (length (k.tail x))
  pub adds : (at : ℕ) (d : List ℕ) (rs : List Range) (x : Cell) (s : List ℕ) (rs' : List Range) → k.Lays at d rs x s rs' → Adds at (at + length d) rs rs'
  pub keep : (at : ℕ) (d e : List ℕ) (rs : List Range) (x : Cell) (s : List ℕ) (rs' : List Range) → length e ≡ length d
      → ((q : Range) → q ∷ rs ≡ rs' → Kept at d e q)
      → k.Lays at d rs x s rs' → k.Lays at e rs x s rs'
  pub back : (j at : ℕ) (d : List ℕ) (rs : List Range) (x : Cell) (s : List ℕ) (rs' : List Range) → k.Lays at d rs x s rs' → at + length d < 2 ^ 32
      → k.get j at d rs s ≡ got (x, rs')
  pub forth : (j at : ℕ) (d : List ℕ) (rs : List Range) (s : List ℕ) → length s ≡ w → Bytes s → Bytes d
      → When (λ p. k.Lays at d rs p.0 s p.1) (k.get j at d rs s)

-- ---- leaves

leaf-cleaned : (Fit : Cell → Type 0) (x : Cell) → x ≡ leaf (bytes x) → Fit x → Cleaned Fit bytes x
leaf-cleaned Fit x h f =
    let e : clean x ≡ x = ap clean h ∙ clean-leaf (bytes x) ∙ sym h in
    record { fits = rw e f; size = rw e }

pub number-lawful : (w m : ℕ) → w ≤ 8 → Lawful (number w m)
unfolding number
number-lawful w m h = record {
  here = λ x f. leaf-here x f.plain;
  sized = record { small = h; size = λ x f. f.wide };
  proper = λ x f. f.proper;
  cleaned = λ x f. leaf-cleaned (NumberFits w m) x f.plain f;
  fits = λ x b l. l.fits;
  size = λ x b l. rw l.is;
  laid = λ x f. record { fits = f; is = refl };
  back = λ x b l _.
      let f = l.fits in
      rw (← l.is, assert-yes (byte 0) (ℕ_discrete (length (bytes x)) w) f.wide, assert-yes (byte 0) (dec_lt (num (bytes x)) m) f.below)
      (ap got (sym f.plain));
  forth = λ b hb. when-then (when-assert (byte 0) (ℕ_discrete (length b) w)) λ _ e. when-then (when-assert (byte 0) (dec_lt (num b) m)) λ _ l.
      yields {a = leaf b} (record {
        fits = record { plain = rw leaf-bytes; wide = rw leaf-bytes e; proper = rw leaf-bytes hb; below = rw leaf-bytes l };
        is = leaf-bytes b;
      });
}

pub string-lawful : (t : Text) → Lawful (string t)
unfolding string
string-lawful t = record {
  here = λ x f. leaf-here x f.plain;
  sized = tt;
  proper = λ x f. f.proper;
  cleaned = λ x f. leaf-cleaned (StringFits t) x f.plain f;
  fits = λ x b l. l.fits;
  size = λ x b l. rw l.is;
  laid = λ x f. record { fits = f; is = refl };
  back = λ x b l _. rw (← l.is, assert-yes slot (spells? t (bytes x)) l.fits.spelled) (ap got (sym l.fits.plain));
  forth = λ b hb. when-then (when-assert slot (spells? t b)) λ _ s.
      yields {a = leaf b} (record { fits = record { plain = rw leaf-bytes; proper = rw leaf-bytes hb; spelled = rw leaf-bytes s }; is = leaf-bytes b });
}

-- ---- one child

inside-lawful : (w v : ℕ) (c : Codec) → Lawful c → v ≤ w → SizedAs v c.Fits c.put → LawfulKid w (inside w v c)
unfolding inside fill
inside-lawful w v c l h e = record {
  here = l.here;
  wide = λ at x f. length-fill w (c.put x) (omega (arith, e.size x f));
  eight = λ x. omega arith;
  slotted = λ at x f. bytes-fill w (l.proper x f);
  proper = λ x f. empty;
  cleaned = λ x f. record { fits = (l.cleaned x f).fits; size = refl };
  fits = λ at d rs x s rs' y. l.fits x y.own y.lays;
  size = λ at d rs x s rs' y.
      let n : length y.own ≡ v = l.size x y.own y.lays ∙ e.size x (l.fits x y.own y.lays) in
      record { slot = rw (← y.slot) (length-fill w y.own (omega arith)); adds = rw (← y.same) (omega arith) };
  laid = λ at d t rs x f p n o. record {
    ranges = rs;
    lays = record { own = c.put x; lays = l.laid x f; slot = refl; same = refl };
    packed = p;
    takes =
        omega arith;
  };
  adds = λ at d rs x s rs' y. rw (← y.same) same;
  keep = λ at d e rs x s rs' n g y. y;
  back = λ j at d rs x s rs' y b.
      let u = y.own in
      let n : length u ≡ v = l.size x u y.lays ∙ e.size x (l.fits x u y.lays) in
      let z = zeros (w - length u) in
      rw (
        ← y.slot,
        cut-back (byte j) v u z n,
        l.back x u y.lays (omega (arith, e.small)),
        within-got j j x,
        assert-yes (byte (j + v + zeros_ahead z))
            (ℕ_discrete (num z) 0) (num-zeros (w - length u)),
        y.same,
      );
  forth = λ j at d rs s n hs hd. when-bind (cut-forth (byte j) v hs) λ (u, z) q.
      when-bind (when-within j j (l.forth u q.front)) λ x r.
      when-then (when-assert (byte (j + v + zeros_ahead z)) (ℕ_discrete (num z) 0)) λ _ o.
      let t : length u + length z ≡ w = omega (arith, length-append u z, ap length q.whole) in
      yields {a = (x, rs)} (record { own = u; lays = r; slot = fill_is u z w o t ∙ q.whole; same = refl });
}

outside-lawful : (c : Codec) → Lawful c → LawfulKid 8 (outside c)
unfolding outside total fill
outside-lawful c l = record {
  here = l.here;
  wide = λ at x f. length-le 8 (at * 2 ^ 32 + length (c.put x));
  eight = λ x. rw (length-padded (c.put x)) (omega arith);
  slotted = λ at x f. bytes_le 8 (at * 2 ^ 32 + length (c.put x));
  proper = λ x f. bytes-fill (pad (length (c.put x))) (l.proper x f);
  cleaned = λ x f. record { fits = (l.cleaned x f).fits; size = rw (length-padded (c.put (clean x)), length-padded (c.put x), (l.cleaned x f).size) };
  fits = λ at d rs x s rs' y. l.fits x y.own y.lays;
  size = λ at d rs x s rs' y. record {
    slot = rw (← y.slot) (length-le 8 _);
    adds = rw (← y.more, length-padded (c.put x), l.size x y.own y.lays) (omega arith);
  };
  laid = λ at d e rs x f p n o.
      let u = c.put x in
      let a = at + total rs in
      let z : length (d ++ (padded u ++ e)) ≡ length d + (pad (length u) + length e) = rw (length-append, length-append, length-padded u) in
      let j : a - at ≡ length d = omega arith in
      record {
        ranges = range a (pad (length u)) ∷ rs;
        lays = record {
          place = a;
          own = u;
          behind = e;
          lays = l.laid x f;
          slot = refl;
          stands = stands-next at (at + length (d ++ (padded u ++ e))) rs (pad (length u)) p o (omega arith);
          there = rw j (sym (drop_at d (padded u ++ e) (length d) refl));
          more = refl;
        };
        packed = (refl, p);
        takes = rw (length-padded u) (omega arith);
      };
  adds = λ at d rs x s rs' y. rw (← y.more) (more y.stands (omega arith));
  keep = λ at d e rs x s rs' n g y.
      let t = g (range y.place (pad (length y.own))) y.more (padded y.own) y.behind (length-padded y.own) y.there in
      record { place = y.place; own = y.own; behind = t.0; lays = y.lays; slot = y.slot; stands = rw n y.stands; there = t.1; more = y.more };
  back = λ j at d rs x s rs' y b.
      let u = y.own in
      let n = length u in
      let o = y.place in
      let q = y.stands.high in
      let v = zeros (pad n - n) in
      let e : num s ≡ o * 2 ^ 32 + n = rw (← y.slot) (num-le 8 (o * 2 ^ 32 + n) (omega arith)) in
      let p : (o * 2 ^ 32 + n) / 2 ^ 32 ≡ o = omega arith in
      let z : (o * 2 ^ 32 + n) % 2 ^ 32 ≡ n = omega arith in
      rw (
        e,
        p,
        z,
        assert-yes (byte j) (stands? at (at + length d) rs (range o (pad n))) y.stands,
        ← y.there,
        append_assoc,
        cut-back (byte j) n u (v ++ y.behind) refl,
        l.back x u y.lays (omega arith),
        within-got j o x,
        cut-back (byte j) (pad n - n) v y.behind (length-replicate (pad n - n) 0),
        assert-yes (byte (o + n + zeros_ahead v)) (ℕ_discrete (num v) 0) (num-zeros (pad n - n)),
        y.more,
      );
  forth = λ j at d rs s n hs hd.
      let o = num s / 2 ^ 32 in
      let m = num s % 2 ^ 32 in
      when-then (when-assert (byte j) (stands? at (at + length d) rs (range o (pad m)))) λ _ g.
      when-bind (cut-forth (byte j) m (bytes_drop (o - at) hd)) λ (u, r) q.
      when-bind (when-within j o (l.forth u q.front)) λ x t.
      when-bind (cut-forth (byte j) (pad m - m) q.rest) λ (v, r') c.
      when-then (when-assert (byte (o + m + zeros_ahead v)) (ℕ_discrete (num v) 0)) λ _ i.
      let e : o * 2 ^ 32 + length u ≡ num s = omega (arith, q.size) in
      let y : le 8 (num s) ≡ s = rw n at (le-num hs) in
      let k : length u + length v ≡ pad (length u) = omega (arith, q.size, c.size) in
      let w : padded u ++ r' ≡ drop (o - at) d = rw (fill_is u v (pad (length u)) i k, append_assoc, c.whole) q.whole in
      yields {a = (x, range o (pad m) ∷ rs)}
      (record { place = o; own = u; behind = r'; lays = t; slot = rw e y; stands = rw q.size g; there = w; more = rw q.size });
}

-- ---- a type's child, in a slot of the table's width, and in one of 8

pub kid-array : (o : Option ℕ) (c : Codec) → Lawful c → Sized o c.Fits c.put → LawfulKid (slot_of o) (kid_of (slot_of o) o c)
unfolding slot_of kid_of
kid-array none c l s = outside-lawful c l
kid-array (some v) c l s = inside-lawful v v c l (omega arith) s

pub kid-struct : (o : Option ℕ) (c : Codec) → Lawful c → Sized o c.Fits c.put → LawfulKid 8 (kid_of 8 o c)
unfolding kid_of
kid-struct none c l s = outside-lawful c l
kid-struct (some v) c l s = inside-lawful 8 v c l s.small s
