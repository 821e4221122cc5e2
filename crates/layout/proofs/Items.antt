-- The laws of a listing's records, each a field of one record; and that they hold of leaves, of children and of runs of children.
-- Assumes nothing.
use mathlib.Core.Path.{◌≡◌, refl, sym, ap, ◌∙◌}
use mathlib.Core.Logic.{◌≢◌}
use mathlib.Core.Option.{Option, none, some}
use mathlib.Core.List.{List, [], ◌∷◌, ◌++◌, map, append_assoc}
use Prim.Native.Nat.{ℕ, zero, suc, ◌+◌, ◌*◌, ◌≤◌, ◌<◌, ◌^◌}
use native.Mathlib.Omega.{arith}
use native.Mathlib.Decide.{dec_lt, ℕ_discrete}
use lib.ListN.{length, replicate, length-append, length-replicate}
use Rattle.words.specs.Bytes.{Bytes, empty, le, num, zeros}
use Rattle.words.proofs.Numbers.{bytes-append, bytes_le, bytes-zeros, length-le, num-le, le-num}
use Rattle.schema.proofs.Table.{IsMark, pair-mark}
use Rattle.layout.specs.Cells.{Cell, null, leaf, nodes, on_null, flag, bytes, clean}
use Rattle.schema.specs.Types.{Text}
use Rattle.layout.specs.Layout.{Codec, Kid, spells?, number, string, NullFits, kid_fits, kid_tail, AllFit, tails}
use Rattle.layout.specs.Listing.{nu, Script, number_script, text_script, marked, null_or, item, run_put, run_get}
use Rattle.layout.proofs.Cells.{present, leaf-bytes, clean-leaf, clean-null, bytes-clean}
use Rattle.layout.proofs.Reader.{When, yields, when-bind, when-then, when-map, when-assert, assert-yes, cut-back, cut-forth}

-- what a script may read from b: clean contents that are listed so
pub record Listed (Fit : Cell → Type 0) (put : Cell → List ℕ) (b : List ℕ) (p : Cell × List ℕ) : Type 0 where
  pub fits : Fit p.0
  pub clear : clean p.0 ≡ p.0
  pub whole : put p.0 ++ p.1 ≡ b
  pub rest : Bytes p.1

-- what is listed behind a mark is no longer than a fixed width, or than three times what is laid down, but for a count
pub record ShortFixed (v : ℕ) (c : Codec) (s : Script) : Type 0 where
  pub one : 1 ≤ v
  pub short : (x : Cell) → c.Fits x → length (s.put x) ≤ v

abbrev pub Short : Option ℕ → Codec → Script → Type 0
Short none c s = (x : Cell) → c.Fits x → length (s.put x) ≤ 3 * length (c.put x) + 4
Short (some v) c s = ShortFixed v c s

pub record Scripted (c : Codec) (s : Script) : Type 0 where
  pub same : (x : Cell) → s.put (clean x) ≡ s.put x
  pub proper : (x : Cell) → c.Fits x → Bytes (s.put x)
  pub short : Short c.wide c s
  pub back : (x : Cell) (r : List ℕ) → c.Fits x → length (s.put x) < 2 ^ 32 → s.get (s.put x ++ r) ≡ some (clean x, r)
  pub forth : (b : List ℕ) → Bytes b → When (Listed c.Fits s.put b) (s.get b)

-- the same of a child, in a slot of w bytes; none is listed in no bytes
pub record ScriptedKid (w : ℕ) (k : Kid) (s : Script) : Type 0 where
  pub same : (x : Cell) → s.put (clean x) ≡ s.put x
  pub proper : (x : Cell) → kid_fits w k x → Bytes (s.put x)
  pub long : (x : Cell) → kid_fits w k x → 1 ≤ length (s.put x)
  pub short : (x : Cell) → kid_fits w k x → length (s.put x) ≤ 3 * (w + length (kid_tail k x))
  pub back : (x : Cell) (r : List ℕ) → kid_fits w k x → length (s.put x) < 2 ^ 32 → s.get (s.put x ++ r) ≡ some (clean x, r)
  pub forth : (b : List ℕ) → Bytes b → When (Listed (kid_fits w k) s.put b) (s.get b)

-- ---- leaves

leaf-cleaned : (x : Cell) → x ≡ leaf (bytes x) → leaf (bytes x) ≡ clean x
leaf-cleaned x e = sym (ap clean e ∙ clean-leaf (bytes x))

pub pairs : {x y : Cell} (r : List ℕ) → x ≡ y → ◌≡◌ {A = Option (Cell × List ℕ)} (some (x, r)) (some (y, r))
pairs r e = ap (λ (c : Cell). some (c, r)) e

pub number-scripted : (w m : ℕ) → 1 ≤ w → Scripted (number w m) (number_script w m)
unfolding number number_script
number-scripted w m h = record {
  same = bytes-clean;
  proper = λ x f. f.proper;
  short = record { one = h; short = λ x f. omega (arith, f.wide) };
  back = λ x r f h. rw (cut-back w (bytes x) r f.wide, assert-yes (dec_lt (num (bytes x)) m) f.below) (pairs r (leaf-cleaned x f.plain));
  forth = λ b hb.
      when-bind (cut-forth w hb) λ (u, r) p.
      when-then (when-assert (dec_lt (num u) m)) λ _ l.
      yields {a = (leaf u, r)} (record {
        fits = record { plain = rw leaf-bytes; wide = rw leaf-bytes p.size; proper = rw leaf-bytes p.front; below = rw leaf-bytes l };
        clear = clean-leaf u;
        whole = rw leaf-bytes p.whole;
        rest = p.rest;
      });
}

pub text-scripted : (t : Text) → Scripted (string t) (text_script t)
unfolding string text_script
text-scripted t = record {
  same = λ x. rw (bytes-clean x);
  proper = λ x f. bytes-append (bytes_le 4 (length (bytes x))) f.proper;
  short = λ x f. rw (length-append, length-le) (omega arith);
  back = λ x r f h.
      let u = bytes x in
      let n : length u < 2 ^ 32 = omega (arith, length-append (le 4 (length u)) u) in
      rw (
        append_assoc,
        cut-back 4 (le 4 (length u)) (u ++ r) (length-le 4 (length u)),
        num-le 4 (length u) (omega arith),
        cut-back (length u) u r refl,
        assert-yes (spells? t u) f.spelled,
      )
      (pairs r (leaf-cleaned x f.plain));
  forth = λ b hb.
      when-bind (cut-forth 4 hb) λ (h, r) p.
      when-bind (cut-forth (num h) p.rest) λ (u, r') q.
      let g : le 4 (num h) ≡ h = rw p.size at (le-num p.front) in
      when-then (when-assert (spells? t u)) λ _ s.
      yields {a = (leaf u, r')} (record {
        fits = record { plain = rw leaf-bytes; proper = rw leaf-bytes q.front; spelled = rw leaf-bytes s };
        clear = clean-leaf u;
        whole = rw (leaf-bytes, q.size, g, append_assoc, q.whole) p.whole;
        rest = q.rest;
      });
}

-- ---- a child: nu, or its mark and its contents

-- two bytes are known by their number
pub two_bytes : {h m : List ℕ} → IsMark m → length h ≡ 2 → Bytes h → num h ≡ num m → h ≡ m
two_bytes i n b e = sym (rw n at (le-num b)) ∙ ap (le 2) e ∙ rw i.two at (le-num i.bytes)

nu-mark : IsMark nu
nu-mark = pair-mark 0x6e 0x75 (omega arith) (omega arith)

pub null-yes : {P : Type 0} (w : ℕ) (d : Dec P) (r : List ℕ) (o : Option (Cell × List ℕ)) → P → null_or w d r o ≡ some (null (zeros w), r)
unfolding null_or
null-yes w (yes p) r o h = refl
null-yes w (no n) r o h = absurd (n h)

pub null-no : {P : Type 0} (w : ℕ) (d : Dec P) (r : List ℕ) (o : Option (Cell × List ℕ)) → ¬ P → null_or w d r o ≡ o
unfolding null_or
null-no w (yes p) r o h = absurd (h p)
null-no w (no n) r o h = refl

-- k is the child of c, o wide, in slots of w bytes: there is room for its listing
pub record KidFor (w : ℕ) (o : Option ℕ) (c : Codec) (k : Kid) : Type 0 where
  pub fits : (x : Cell) → k.Fits x → c.Fits x
  pub given : (x : Cell) → c.Fits x → k.Fits x
  pub here : (x : Cell) → c.Fits x → flag x ≡ 0
  pub roomy : (s : Script) → Short o c s → (x : Cell) → c.Fits x → 2 + length (s.put x) ≤ 3 * (w + length (k.tail x))
  pub one : (s : Script) → Short o c s → 1 ≤ w

module _ (w : ℕ) (c : Codec) (k : Kid) (kf : KidFor w c.wide c k) (m : List ℕ) (im : IsMark m) (not : num m ≢ num nu) (s : Script) (l : Scripted c s) where
  item-same : (x : Cell) → (item w m s).put (clean x) ≡ (item w m s).put x
  unfolding item on_null clean
  item-same (null u) = refl
  item-same (leaf u) = refl
  item-same (nodes u) = ap (λ (t : List ℕ). m ++ t) (l.same (nodes u))

  item-proper : (x : Cell) → kid_fits w k x → Bytes ((item w m s).put x)
  unfolding item on_null
  item-proper (null u) f = nu-mark.bytes
  item-proper (leaf u) f = bytes-append im.bytes (l.proper (leaf u) (kf.fits (leaf u) f))
  item-proper (nodes u) f = bytes-append im.bytes (l.proper (nodes u) (kf.fits (nodes u) f))

  item-long : (x : Cell) → kid_fits w k x → 1 ≤ length ((item w m s).put x)
  unfolding item on_null
  item-long (null u) f = omega arith
  item-long (leaf u) f = rw (length-append, im.two) (omega arith)
  item-long (nodes u) f = rw (length-append, im.two) (omega arith)

  item-short : (x : Cell) → kid_fits w k x → length ((item w m s).put x) ≤ 3 * (w + length (kid_tail k x))
  unfolding item on_null
  item-short (null u) f = omega (arith, kf.one s l.short)
  item-short (leaf u) f = rw (length-append, im.two) (kf.roomy s l.short (leaf u) (kf.fits (leaf u) f))
  item-short (nodes u) f = rw (length-append, im.two) (kf.roomy s l.short (nodes u) (kf.fits (nodes u) f))

  given_back : (x : Cell) (r : List ℕ) → c.Fits x → length (m ++ s.put x) < 2 ^ 32 → (item w m s).get (m ++ s.put x ++ r) ≡ some (clean x, r)
  unfolding item marked
  given_back x r f h =
      rw (
        append_assoc,
        cut-back 2 m (s.put x ++ r) im.two,
        null-no w (ℕ_discrete (num m) (num nu)) (s.put x ++ r) (marked m s m (s.put x ++ r)) not,
        assert-yes (ℕ_discrete (num m) (num m)) refl,
        l.back x r f (omega (arith, length-append m (s.put x))),
      )

  item_back : (x : Cell) (r : List ℕ) → kid_fits w k x → length ((item w m s).put x) < 2 ^ 32 → (item w m s).get ((item w m s).put x ++ r) ≡ some (clean x, r)
  unfolding item on_null clean
  item_back (null u) r f h =
      rw (cut-back 2 nu r refl, null-yes w (ℕ_discrete (num nu) (num nu)) r (marked m s nu r) refl, f.wide)
  item_back (leaf u) r f h = given_back (leaf u) r (kf.fits (leaf u) f) h
  item_back (nodes u) r f h = given_back (nodes u) r (kf.fits (nodes u) f) h

  null-forth : (b h r : List ℕ) (d : Dec (num h ≡ num nu)) → length h ≡ 2 → Bytes h → Bytes r → h ++ r ≡ b
      → When (Listed (kid_fits w k) (item w m s).put b) (null_or w d r (marked m s h r))
  unfolding null_or marked item on_null
  null-forth b h r (yes e) n hh hr q = yields {a = (null (zeros w), r)} (record {
    fits = record { wide = length-replicate w 0; proper = bytes-zeros w };
    clear = clean-null w;
    whole = rw (two_bytes nu-mark n hh e) at q;
    rest = hr;
  })
  null-forth b h r (no e) n hh hr q =
      when-then (when-assert (ℕ_discrete (num h) (num m))) λ _ g.
      when-map (l.forth r hr) λ (x, r') t.
      let o = kf.here x t.fits in
      record {
        fits = rw (present (NullFits w) (k.Fits x) x o) (kf.given x t.fits);
        clear = t.clear;
        whole = rw (present (λ _. nu) (m ++ s.put x) x o, append_assoc, t.whole) (rw (two_bytes im n hh g) at q);
        rest = t.rest;
      }

  pub item-scripted : ScriptedKid w k (item w m s)
  unfolding item
  item-scripted = record {
    same = item-same;
    proper = item-proper;
    long = item-long;
    short = item-short;
    back = item_back;
    forth = λ b hb. when-bind (cut-forth 2 hb) λ (h, r) p. null-forth b h r (ℕ_discrete (num h) (num nu)) p.size p.front p.rest p.whole;
  }

-- ---- children in order

abbrev pub AllScripted : ℕ → List Kid → List Script → Type 0
AllScripted w [] [] = Unit {0}
AllScripted w [] (s ∷ ss) = ⊥
AllScripted w (k ∷ ks) [] = ⊥
AllScripted w (k ∷ ks) (s ∷ ss) = ScriptedKid w k s × AllScripted w ks ss

pub run-same : (w : ℕ) (ks : List Kid) (ss : List Script) (cs : List Cell) → AllScripted w ks ss → run_put ss (map clean cs) ≡ run_put ss cs
unfolding run_put
run-same w [] [] cs l = refl
run-same w (k ∷ ks) (s ∷ ss) [] l = refl
run-same w (k ∷ ks) (s ∷ ss) (c ∷ cs) l = rw (l.0.same c, run-same w ks ss cs l.1)
run-same w [] (s ∷ ss) cs l = elim l [ ]
run-same w (k ∷ ks) [] cs l = elim l [ ]

pub run-proper : (w : ℕ) (ks : List Kid) (ss : List Script) (cs : List Cell) → AllScripted w ks ss → AllFit w ks cs → Bytes (run_put ss cs)
unfolding AllFit run_put
run-proper w [] [] [] l f = empty
run-proper w (k ∷ ks) (s ∷ ss) (c ∷ cs) l f = bytes-append (l.0.proper c f.0) (run-proper w ks ss cs l.1 f.1)
run-proper w [] [] (c ∷ cs) l f = elim f [ ]
run-proper w [] (s ∷ ss) cs l f = elim l [ ]
run-proper w (k ∷ ks) [] cs l f = elim l [ ]
run-proper w (k ∷ ks) (s ∷ ss) [] l f = elim f [ ]

pub run_long : (w : ℕ) (ks : List Kid) (ss : List Script) (cs : List Cell) → AllScripted w ks ss → AllFit w ks cs → length cs ≤ length (run_put ss cs)
unfolding AllFit run_put
run_long w [] [] [] l f = omega arith
run_long w (k ∷ ks) (s ∷ ss) (c ∷ cs) l f = rw length-append (omega (arith, l.0.long c f.0, run_long w ks ss cs l.1 f.1))
run_long w [] [] (c ∷ cs) l f = elim f [ ]
run_long w [] (s ∷ ss) cs l f = elim l [ ]
run_long w (k ∷ ks) [] cs l f = elim l [ ]
run_long w (k ∷ ks) (s ∷ ss) [] l f = elim f [ ]

pub run_short : (w : ℕ) (ks : List Kid) (ss : List Script) (cs : List Cell) → AllScripted w ks ss → AllFit w ks cs
    → length (run_put ss cs) ≤ 3 * (length ks * w + length (tails ks cs))
unfolding AllFit run_put tails
run_short w [] [] [] l f = omega arith
run_short w (k ∷ ks) (s ∷ ss) (c ∷ cs) l f = rw (length-append, length-append) (omega (arith, l.0.short c f.0, run_short w ks ss cs l.1 f.1))
run_short w [] [] (c ∷ cs) l f = elim f [ ]
run_short w [] (s ∷ ss) cs l f = elim l [ ]
run_short w (k ∷ ks) [] cs l f = elim l [ ]
run_short w (k ∷ ks) (s ∷ ss) [] l f = elim f [ ]

pub run-back : (w : ℕ) (ks : List Kid) (ss : List Script) (cs : List Cell) (r : List ℕ) → AllScripted w ks ss → AllFit w ks cs → length (run_put ss cs) < 2 ^ 32
    → run_get ss (run_put ss cs ++ r) ≡ some (map clean cs, r)
unfolding AllFit run_put run_get
run-back w [] [] [] r l f h = refl
run-back w (k ∷ ks) (s ∷ ss) (c ∷ cs) r l f h =
    let n = length-append (s.put c) (run_put ss cs) in
    rw (append_assoc, l.0.back c (run_put ss cs ++ r) f.0 (omega arith), run-back w ks ss cs r l.1 f.1 (omega arith))
run-back w [] [] (c ∷ cs) r l f h = elim f [ ]
run-back w [] (s ∷ ss) cs r l f h = elim l [ ]
run-back w (k ∷ ks) [] cs r l f h = elim l [ ]
run-back w (k ∷ ks) (s ∷ ss) [] r l f h = elim f [ ]

pub record RunListed (w : ℕ) (ks : List Kid) (ss : List Script) (b : List ℕ) (p : List Cell × List ℕ) : Type 0 where
  pub fit : AllFit w ks p.0
  pub clear : map clean p.0 ≡ p.0
  pub whole : run_put ss p.0 ++ p.1 ≡ b
  pub rest : Bytes p.1

pub run-forth : (w : ℕ) (ks : List Kid) (ss : List Script) (b : List ℕ) → AllScripted w ks ss → Bytes b → When (RunListed w ks ss b) (run_get ss b)
unfolding AllFit run_put run_get
run-forth w [] [] b l h = yields {a = ([], b)} (record { fit = tt; clear = refl; whole = refl; rest = h })
run-forth w (k ∷ ks) (s ∷ ss) b l h =
    when-bind (l.0.forth b h) λ (c, r) p.
    when-bind (run-forth w ks ss r l.1 p.rest) λ (cs, r') q.
    yields {a = (c ∷ cs, r')} (record {
      fit = (p.fits, q.fit);
      clear = rw (p.clear, q.clear);
      whole = rw (append_assoc, q.whole) p.whole;
      rest =
          q.rest;
    })
run-forth w [] (s ∷ ss) b l h = elim l [ ]
run-forth w (k ∷ ks) [] b l h = elim l [ ]

pub repeat-scripted : (w n : ℕ) (k : Kid) (s : Script) → ScriptedKid w k s → AllScripted w (replicate n k) (replicate n s)
repeat-scripted w zero k s l = tt
repeat-scripted w (suc n) k s l = (l, repeat-scripted w n k s l)
