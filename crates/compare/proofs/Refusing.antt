-- Comparing, where it stops: of a schema's own table every test holds; and a container whose tests hold is opened. Assumes nothing.
use Rattle.std.proofs.Common.{◌≡◌, ℕ, ◌+◌, ◌-◌, ◌*◌, ◌%◌, ◌<◌, ◌≤◌, Bool, true, false, cond, eqb, ◌⊎◌, List, length, get_or, set, sym, refl, ap, ◌∙◌, subst, inl, inr, true≢false, arith, eq-eqb, eqb-true}
use native.Mathlib.Decide.{dec_lt}
use Rattle.schema.specs.Marks.{types}
use Rattle.table.specs.Words.{lower, line_word, MarkAt, held_at, behind_at}
use Rattle.table.proofs.Lines.{held_small, held-is, held-other, behind-struct, behind-other}
use Rattle.table.proofs.Opening.{held-byte}
use Rattle.compare.specs.Lent.{Own}
use Rattle.compare.specs.Lines.{is_leaf, held_by}
use Rattle.compare.proofs.Leaves.{leaf-is, line-kind}
use Rattle.compare.proofs.Columns.{less-of, mark_of}
use Rattle.compare.proofs.Runs.{owed}
use Rattle.compare.proofs.Expected.{LeafSays, HolderSays, says}
use Rattle.compare.proofs.Following.{Follows, Faces, Takes, Opens, looking, mark-in, based, follow-open}

-- ---- the lines of containers

nine : line_word 9 ≡ 2415946092
unfolding line_word lower types
nine = refl

ten : line_word 10 ≡ 2684379501
unfolding line_word lower types
ten = refl

eleven : line_word 11 ≡ 2952818546
unfolding line_word lower types
eleven = refl

-- a kind by its mark
kinds : (k : ℕ) → 9 ≤ k → k < 12 → (k ≡ 9) ⊎ ((k ≡ 10) ⊎ (k ≡ 11))
kinds k l h = go (dec_lt k 10) (dec_lt k 11)
  where
    go : Dec (k < 10) → Dec (k < 11) → (k ≡ 9) ⊎ ((k ≡ 10) ⊎ (k ≡ 11))
    go (yes p) q = inl (omega arith)
    go (no p) (yes q) = inr (inl (omega arith))
    go (no p) (no q) = inr (inr (omega arith))

line_small : (k : ℕ) → k < 12 → line_word k < 3221225472
line_small k h = omega (arith, line-kind k h)

struct_kind : (k : ℕ) → 9 ≤ k → k < 12 → line_word k % 65536 ≡ 28530 → k ≡ 11
struct_kind k l h e = go (kinds k l h)
  where
    go : (k ≡ 9) ⊎ ((k ≡ 10) ⊎ (k ≡ 11)) → k ≡ 11
    go (inl p) = let q : 2415946092 % 65536 ≡ 28530 = ap (λ (u : ℕ). u % 65536) (sym nine ∙ ap line_word (sym p)) ∙ e in absurd (omega (arith, q))
    go (inr (inl p)) = let q : 2684379501 % 65536 ≡ 28530 = ap (λ (u : ℕ). u % 65536) (sym ten ∙ ap line_word (sym p)) ∙ e in absurd (omega (arith, q))
    go (inr (inr p)) = p

-- ---- what a schema's own table says of the entry w, less place and depth

pub record HolderIs (s t F : List ℕ) (d i x n w m : ℕ) : Type 0 where
  pub kind : ℕ
  pub low : 9 ≤ kind
  pub high : kind < 12
  pub mark : line_word kind % 65536 ≡ m
  pub shallow : d < 6
  pub count : ℕ
  pub held : count ≡ held_at s (2 * i + x + 2) kind
  pub some : 0 < count
  pub is : w % 18014398509481984 ≡ line_word kind + count * 68719476736
  pub types : i + n + owed F d + count ≤ length t
  pub bytes : behind_at (2 * i + x + 2) kind + 2 * length t ≤ length s + 2 * (i + 1)

module _ {s t F : List ℕ} {d i x n base left w m : ℕ} (y : Takes s t F d i x n base left w) (q : MarkAt s (2 * i + x) m) (o : Own s t) where
  abbrev f : Faces s t F d i x n base left
  f = y.faces

  said : LeafSays t i base m ⊎ HolderSays s t F d (2 * i + x) i n base m
  said = says o f.follows.rising (looking f) (mark-in f) q

  leaf-w : (h : LeafSays t i base m) → w ≡ line_word h.kind
  leaf-w h =
      let a : (w + base) % 18446744073709551616 ≡ line_word h.kind + base = y.entry ∙ h.is in
      let b = based f in
      let l = line_small h.kind (omega (arith, h.small)) in
      omega (arith, a, b.made, b.deep, b.short, l, y.below)

  holder-is : HolderSays s t F d (2 * i + x) i n base m → HolderIs s t F d i x n w m
  holder-is h =
      let few = held_small s (2 * i + x + 2) h.kind h.count h.held h.high in
      let l = line_small h.kind h.high in
      record {
        kind = h.kind;
        low = h.low;
        high = h.high;
        mark = h.mark;
        shallow = h.shallow;
        count = h.count;
        held = h.held;
        some = h.some;
        is = less-of (based f) w (line_word h.kind + h.count * 68719476736) (omega (arith, few, l))
            (ap (λ (u : ℕ). u % 18014398509481984) y.entry ∙ h.is);
        types = h.types;
        bytes = h.bytes;
      }

  -- its mark is the schema's
  pub own-mark : m ≡ w % 65536
  own-mark = go said
    where
      go : LeafSays t i base m ⊎ HolderSays s t F d (2 * i + x) i n base m → m ≡ w % 65536
      go (inl h) = sym (ap (λ (u : ℕ). u % 65536) (leaf-w h) ∙ h.mark)
      go (inr h) = let u = holder-is h in sym (mark_of w (line_word u.kind) u.count u.is ∙ u.mark)

  -- it is a container's where it is no leaf's
  pub own-holder : is_leaf w ≡ false → HolderIs s t F d i x n w m
  own-holder e = go said
    where
      go : LeafSays t i base m ⊎ HolderSays s t F d (2 * i + x) i n base m → HolderIs s t F d i x n w m
      go (inl h) = absurd (true≢false (sym (ap is_leaf (leaf-w h) ∙ leaf-is h.kind h.small) ∙ e))
      go (inr h) = holder-is h

-- and not too deep
pub own-shallow : {s t F : List ℕ} {d i x n base left w : ℕ} → Takes s t F d i x n base left w → ((j : ℕ) → get_or s j 0 < 256) → Own s t
    → is_leaf w ≡ false → d < 6
own-shallow {s} {t} {F} {d} {i} {x} y b o e =
    (own-holder y (record { number = refl; first = b (2 * i + x); second = b (2 * i + x + 1) }) o e).shallow

-- ---- a struct

module _ {s t F : List ℕ} {d i x n w m : ℕ} (h : HolderIs s t F d i x n w m) where
  module _ (e : m ≡ 28530) where
    is-struct : h.kind ≡ 11
    is-struct = struct_kind h.kind h.low h.high (h.mark ∙ e)

    byte : (h.count ≡ get_or s (2 * i + x + 2) 0) × (get_or s (2 * i + x + 2) 0 ≤ 128)
    unfolding held_at
    byte = held-byte (get_or s (2 * i + x + 2) 0) h.some (h.held ∙ rw (eq-eqb h.kind 11 is-struct))

    pub own-beyond : x ≡ length s - 2 * length t → ⊥
    own-beyond z =
        let b : 2 * i + x + 2 + 1 ≡ behind_at (2 * i + x + 2) h.kind = behind-struct (2 * i + x + 2) h.kind is-struct in
        omega (arith, b, h.bytes)

    module _ {c : ℕ} (q : c ≡ get_or s (2 * i + x + 2) 0) where
      pub own-some : c ≡ 0 → ⊥
      own-some z = omega (arith, byte.0, h.some)

      pub own-few : c ≤ 128
      own-few = omega (arith, byte.1)

      pub own-entry : w % 18014398509481984 ≡ 2952818546 + c * 68719476736
      own-entry = h.is ∙ ap (λ (u : ℕ). u + h.count * 68719476736) (ap line_word is-struct ∙ eleven)
          ∙ ap (λ (u : ℕ). 2952818546 + u * 68719476736) (byte.0 ∙ sym q)

      pub own-left : {left : ℕ} → i + n + owed F d + left ≡ length t + 1 → c < left
      own-left a = omega (arith, h.types, byte.0)

  -- ---- a list or a map

  module _ (e : m ≡ 28530 → ⊥) where
    other-held : held_by w ≡ h.count
    unfolding held_by held_at
    other-held = go (kinds h.kind h.low h.high)
      where
        go : (h.kind ≡ 9) ⊎ ((h.kind ≡ 10) ⊎ (h.kind ≡ 11)) → held_by w ≡ h.count
        go (inl p) =
            let a : h.count ≡ 1 = h.held ∙ rw p in
            let b : w % 18014398509481984 ≡ 71135422828 = h.is ∙ rw (p, nine, a) in
            rw (b, a)
        go (inr (inl p)) =
            let a : h.count ≡ 2 = h.held ∙ rw p in
            let b : w % 18014398509481984 ≡ 140123332973 = h.is ∙ rw (p, ten, a) in
            rw (b, a)
        go (inr (inr p)) = absurd (e (sym h.mark ∙ ap (λ (u : ℕ). line_word u % 65536) p ∙ ap (λ (u : ℕ). u % 65536) eleven))

    pub other-some : held_by w ≡ 0 → ⊥
    other-some z = omega (arith, other-held, h.some)

    pub other-left : {c left : ℕ} → c ≡ held_by w → i + n + owed F d + left ≡ length t + 1 → c < left
    other-left q a = omega (arith, h.types, other-held)

-- ---- a container whose tests hold

module _ {s t F : List ℕ} {d i x n base left w m c : ℕ} (y : Takes s t F d i x n base left w) (q : MarkAt s (2 * i + x) m) (h : d ≡ 6 → ⊥)
    (l : c < left) (z : c ≡ 0 → ⊥) where
  abbrev g : Follows s t F d i x n base left
  g = y.faces.follows

  module _ (e : m ≡ 28530) (b : x ≡ length s - 2 * length t → ⊥) (p : c ≡ get_or s (2 * i + x + 2) 0) (u : c ≤ 128)
      (r : w % 18014398509481984 ≡ 2952818546 + c * 68719476736) where
    struct-opens : Opens s t F d i x n base left w 11 c (x + 1)
    struct-opens = record {
      takes = y;
      low = omega arith;
      high = omega arith;
      mark = subst (MarkAt s (2 * i + x)) (e ∙ ap (λ (u : ℕ). u % 65536) (sym eleven)) q;
      shallow = omega (arith, g.going.deep);
      held = held-is s (2 * i + x + 2) 11 refl c p u;
      some = omega arith;
      is = r ∙ ap (λ (u : ℕ). u + c * 68719476736) (sym eleven);
      enough = l;
      behind = omega (arith, behind-struct (2 * i + x + 2) 11 refl);
      beyond = omega (arith, g.beyond);
    }

    pub follow-struct : Faces s t (set F (d + 1) (i * 256 + (n - 1))) (d + 1) (i + 1) (x + 1) c (base + 18031994990493696) (left - c)
    follow-struct = follow-open struct-opens

  module _ (r : m ≡ w % 65536) (p : c ≡ held_by w) where
    opens : (k : ℕ) → 9 ≤ k → k < 11 → c ≡ k - 8 → w % 18014398509481984 ≡ line_word k + c * 68719476736 → Opens s t F d i x n base left w k c x
    opens k a b v e = record {
      takes = y;
      low = a;
      high = omega arith;
      mark = subst (MarkAt s (2 * i + x)) (r ∙ mark_of w (line_word k) c e) q;
      shallow = omega (arith, g.going.deep);
      held = v ∙ omega (arith, held-other s (2 * i + x + 2) k (λ j. absurd (omega arith)) a);
      some = omega arith;
      is = e;
      enough = l;
      behind = omega (arith, behind-other (2 * i + x + 2) k (λ j. absurd (omega arith)));
      beyond = g.beyond;
    }

    pub follow-other : Faces s t (set F (d + 1) (i * 256 + (n - 1))) (d + 1) (i + 1) x c (base + 18031994990493696) (left - c)
    unfolding held_by
    follow-other = go (eqb (w % 18014398509481984) 71135422828) refl (eqb (w % 18014398509481984) 140123332973) refl p
      where
        go : (a : Bool) → eqb (w % 18014398509481984) 71135422828 ≡ a → (b : Bool) → eqb (w % 18014398509481984) 140123332973 ≡ b
            → c ≡ cond a 1 (cond b 2 0)
            → Faces s t (set F (d + 1) (i * 256 + (n - 1))) (d + 1) (i + 1) x c (base + 18031994990493696) (left - c)
        go true a b f v = follow-open (opens 9 (omega arith) (omega arith) v (eqb-true (w % 18014398509481984) 71135422828 a ∙ rw (nine, v)))
        go false a true f v = follow-open (opens 10 (omega arith) (omega arith) v (eqb-true (w % 18014398509481984) 140123332973 f ∙ rw (ten, v)))
        go false a false f v = absurd (z v)
