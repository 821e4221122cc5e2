-- Comparing, step by step: the table that building would have so far is the lent one, with no end yet in the entries of the containers that
-- are open; and a law for each way on. Assumes nothing.
use Rattle.std.proofs.Common.{◌≡◌, ℕ, ◌+◌, ◌-◌, ◌*◌, ◌/◌, ◌%◌, ◌<◌, ◌≤◌, true, List, ◌++◌, length, get_or, take, set, replicate, sym, refl, ap, ◌∙◌, subst, arith, length-append, get_or-set_other, get_or-take, take_at, w64, Fits}
use lib.ListN.{length-replicate}
use Rattle.table.specs.Words.{line_word, MarkAt, line_for, held_at, behind_at}
use Rattle.table.proofs.Lines.{held_small}
use Rattle.table.proofs.Building.{Going, Looking, Line, Marked, OpenHolder, line-some, going-leaf, leaf-fits}
use Rattle.table.proofs.Opening.{going-push}
use Rattle.compare.specs.Lines.{is_leaf}
use Rattle.compare.proofs.Leaves.{leaf-low, leaf-line, line-own, line-kind}
use Rattle.compare.proofs.Columns.{Based, entry_of}
use Rattle.compare.proofs.Runs.{owed, owed-push}
use Rattle.compare.proofs.Opened.{opened, Rising, rising-next, rising-push, opened-leaf, opened-push}

-- the lent table, with room behind for as many entries as any schema has
unfoldable pub roomy : List ℕ → List ℕ
roomy t = t ++ replicate 1024 0

pub roomy-long : (t : List ℕ) → length (roomy t) ≡ length t + 1024
unfolding roomy
roomy-long t = length-append t (replicate 1024 0) ∙ ap (λ (u : ℕ). length t + u) (length-replicate {A = ℕ} 1024 0)

pub roomy-front : (t : List ℕ) → take (length t) (roomy t) ≡ t
unfolding roomy
roomy-front t = take_at t (replicate 1024 0) (length t) refl

pub roomy-at : (t : List ℕ) (i : ℕ) → i < length t → get_or (roomy t) i 0 ≡ get_or t i 0
roomy-at t i l = sym (get_or-take (length t) (roomy t) i 0 l) ∙ ap (λ (u : List ℕ). get_or u i 0) (roomy-front t)

-- n types are left at the frame numbered d, the next of which stands at place i; x bytes of the schema so far are beyond two a type
pub record Follows (s t F : List ℕ) (d i x n base left : ℕ) : Type 0 where
  pub going : Going s (opened (roomy t) F d) F d (2 * i + x) i n base
  pub rising : Rising F d i
  -- each word of the table is behind, asked for by a container, or spare
  pub asked : i + n + owed F d + left ≡ length t + 1
  pub spare : 0 < left
  pub beyond : x + 2 * length t ≤ length s
  pub root : get_or F 0 0 ≡ 0
  pub whole : get_or t 0 0 / 18014398509481984 ≡ length t

-- how large the numbers of the code are
pub record Small (d i x n base : ℕ) : Type 0 where
  pub based : Based d i base
  pub extra : x ≤ 1024
  pub few : n ≤ 255

pub small : {s t F : List ℕ} {d i x n base left : ℕ} → Follows s t F d i x n base left → Small d i x n base
small f = record {
  based = record { made = f.going.made; deep = f.going.deep; short = omega (arith, f.going.half, f.going.within, f.going.short) };
  extra = omega (arith, f.beyond, f.going.short);
  few = f.going.few;
}

-- before a type
pub record Faces (s t F : List ℕ) (d i x n base left : ℕ) : Type 0 where
  pub follows : Follows s t F d i x n base left
  pub some : 0 < n

-- w is the entry at its place, less base
pub record Takes (s t F : List ℕ) (d i x n base left w : ℕ) : Type 0 where
  pub faces : Faces s t F d i x n base left
  pub entry : (w + base) % 18446744073709551616 ≡ get_or t i 0
  pub below : Fits w64 w

module _ {s t F : List ℕ} {d i x n base left : ℕ} (f : Faces s t F d i x n base left) where
  pub looking : Looking s (opened (roomy t) F d) F d (2 * i + x) i n base
  looking = record { going = f.follows.going; left = f.some }

  pub word_in : i < length t
  word_in = omega (arith, f.follows.asked, f.follows.spare, f.some)

  pub mark-in : 2 * i + x + 2 ≤ length s
  mark-in = omega (arith, word_in, f.follows.beyond)

  word-there : get_or (roomy t) i 0 ≡ get_or t i 0
  word-there = roomy-at t i word_in

  pub based : Based d i base
  based = (small f.follows).based

-- ---- a leaf

module _ {s t F : List ℕ} {d i x n base left w m : ℕ} (y : Takes s t F d i x n base left w) (l : is_leaf w ≡ true) (q : MarkAt s (2 * i + x) m)
    (z : m ≡ w % 65536) where
  abbrev f : Follows s t F d i x n base left
  f = y.faces.follows

  abbrev T : List ℕ
  T = opened (roomy t) F d

  leaf-marked : Marked s T F d (2 * i + x) i n base w (w / 268435456)
  leaf-marked = record {
    looking = looking y.faces;
    room = mark-in y.faces;
    line = line-some (mark-in y.faces) q (leaf-line l ∙ ap line_for (sym z)) (sym z);
  }

  leaf-entry : get_or (roomy t) i 0 ≡ w + base
  leaf-entry = word-there y.faces ∙ sym y.entry ∙ omega (arith, leaf-fits leaf-marked)

  pub follow-leaf : Follows s t F d (i + 1) x (n - 1) (base + 18031990695526400) left
  follow-leaf =
      let g = going-leaf leaf-marked (leaf-low l) in
      let a : 2 * i + x + 2 ≡ 2 * (i + 1) + x = omega arith in
      let h = subst (λ (u : List ℕ). Going s u F d (2 * i + x + 2) (i + 1) (n - 1) (base + 18031990695526400))
      (opened-leaf (roomy t) f.rising leaf-entry) g in
      record {
        going = subst (λ (u : ℕ). Going s T F d u (i + 1) (n - 1) (base + 18031990695526400)) a h;
        rising = rising-next f.rising;
        asked = omega (arith, f.asked, y.faces.some);
        spare = f.spare;
        beyond = f.beyond;
        root = f.root;
        whole = f.whole;
      }

-- ---- a container of the kind k, with c children, whose mark was read

pub record Opens (s t F : List ℕ) (d i x n base left w k c x' : ℕ) : Type 0 where
  pub takes : Takes s t F d i x n base left w
  pub low : 9 ≤ k
  pub high : k < 12
  pub mark : MarkAt s (2 * i + x) (line_word k % 65536)
  pub shallow : d < 6
  pub held : c ≡ held_at s (2 * i + x + 2) k
  pub some : 0 < c
  pub is : w % 18014398509481984 ≡ line_word k + c * 68719476736
  pub enough : c < left
  pub behind : 2 * (i + 1) + x' ≡ behind_at (2 * i + x + 2) k
  pub beyond : x' + 2 * length t ≤ length s

module _ {s t F : List ℕ} {d i x n base left w k c x' : ℕ} (y : Opens s t F d i x n base left w k c x') where
  abbrev g : Faces s t F d i x n base left
  g = y.takes.faces

  abbrev b : Follows s t F d i x n base left
  b = g.follows

  abbrev R : List ℕ
  R = opened (roomy t) F d

  own_line : line_for (line_word k % 65536) ≡ line_word k
  own_line = line-own k y.high

  open-marked : Marked s R F d (2 * i + x) i n base (line_word k) k
  open-marked = record {
    looking = looking g;
    room = mark-in g;
    line = subst (Line s (2 * i + x) (line_word k)) (line-kind k y.high) (line-some (mark-in g) y.mark (sym own_line) refl);
  }

  is_open : OpenHolder s R F d (2 * i + x) i n base (line_word k) k c
  is_open = record { marked = open-marked; holds = y.low; held = y.held; some = y.some; shallow = y.shallow }

  few : c ≤ 128
  few = held_small s (2 * i + x + 2) k c y.held y.high

  open-entry : get_or (roomy t) i 0 % 18014398509481984 ≡ line_word k + c * 68719476736 + (base - (i + 1) * 18014398509481984)
  open-entry = ap (λ (u : ℕ). u % 18014398509481984) (word-there g ∙ sym y.takes.entry)
      ∙ entry_of (based g) w (line_word k + c * 68719476736) (omega (arith, few, open-marked.line.small)) y.is

  abbrev frame : ℕ
  frame = i * 256 + (n - 1)

  pub follow-open : Faces s t (set F (d + 1) (i * 256 + (n - 1))) (d + 1) (i + 1) x' c (base + 18031994990493696) (left - c)
  follow-open =
      let p = going-push is_open y.behind in
      let a : frame / 256 ≡ i = omega (arith, b.going.few) in
      let e : frame % 256 ≡ n - 1 = omega (arith, b.going.few) in
      let u : d + 1 < 8 = omega (arith, y.shallow) in
      let o = owed-push F d frame b.going.frames u in
      record {
        follows = record {
          going = subst (λ (v : List ℕ). Going s v (set F (d + 1) frame) (d + 1) (2 * (i + 1) + x') (i + 1) c (base + 18031994990493696))
              (opened-push (roomy t) F d frame b.going.frames u a open-entry) p.going;
          rising = rising-push frame b.rising b.going.frames u a;
          asked = omega (arith, b.asked, o, e, g.some, y.enough);
          spare = omega (arith, y.enough);
          beyond = y.beyond;
          root = get_or-set_other F (d + 1) 0 frame 0 (λ v. absurd (omega arith)) ∙ b.root;
          whole = b.whole;
        };
        some = y.some;
      }
