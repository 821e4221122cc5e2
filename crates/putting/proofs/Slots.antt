-- Numbers in slots, texts word by word, and the fixed parts of containers, in the words of the code. Assumes nothing.
use mathlib.Core.Path.{◌≡◌, refl, sym, ap, ◌∙◌}
use mathlib.Core.List.{List, ◌++◌, append-nil, append_assoc}
use Prim.Native.Nat.{ℕ, ◌+◌, ◌*◌, ◌-◌, ◌%◌, ◌^◌, ◌≤◌, ◌<◌}
use native.Mathlib.Nat.{mod-eq_of_lt, lt_of_le_of_lt, one-mul}
use native.Mathlib.Omega.{arith}
use lib.Dec.{lit<}
use lib.Pow.{pow_mono}
use lib.Bits.{bit_and}
use lib.ListN.{length, get_or, length-append}
use lib.Seq.{sets}
use mir.Syntax.{w8}
use mir.Val.{Fits}
use Rattle.words.specs.Bytes.{Bytes, le, num, part, zeros, pad, padded, fill, bitmap}
use Rattle.words.specs.Reads.{Reads}
use Rattle.words.proofs.Powers.{mask_is}
use Rattle.words.proofs.Runs.{sets_then}
use Rattle.words.proofs.Parts.{length_part, bytes-part, part-add}
use Rattle.words.proofs.Numbers.{le-num, length-le, slice-bytes}
use Rattle.words.proofs.NumLaws.{pow256, part-lt, num-low, le-pad, le-zero}
use Rattle.putting.specs.Put.{PaddedCan, ClearCan}

-- what a place of the code knows of the listing's bytes
abbrev pub Octets : List ℕ → Type 0
Octets l = (i : ℕ) → Fits w8 (get_or l i 0)

-- fewer than 8 bytes of a word: what a shift makes of 1 is no more than the word holds
short-power : (k : ℕ) → k < 8 → 1 * 2 ^ (8 * k) % 2 ^ 64 ≡ 2 ^ (8 * k)
short-power k h =
    let m : 2 ^ (8 * k) ≤ 2 ^ 56 = pow_mono {i = 8 * k} {j = 56} (omega arith) in
    rw one-mul (mod-eq_of_lt (lt_of_le_of_lt m (lit< tt)))

pub short-reads : {l : List ℕ} {at k x : ℕ} → Octets l → at + k ≤ length l → k < 8 → Reads l at 8 x
    → Reads l at k (bit_and x (1 * 2 ^ (8 * k) % 2 ^ 64 - 1))
short-reads {l} {at} {k} {x} o h lo r =
    let hb : Bytes l = slice-bytes o in
    let q : k + (8 - k) ≡ 8 = omega arith in
    let low = rw q at (num-low {b = l} at k (8 - k) hb h) in
    let e : bit_and x (1 * 2 ^ (8 * k) % 2 ^ 64 - 1) ≡ num (part l at k) = rw (short-power k lo, mask_is x (8 * k), ← pow256 k, r.is) low in
    record { is = e; below = rw e (part-lt at k hb h) }

-- a number of v bytes in w is those bytes and zeros
pub word-slot : {l : List ℕ} {at v x w : ℕ} → Bytes l → at + v ≤ length l → v ≤ w → Reads l at v x → le w x ≡ fill w (part l at v)
unfolding fill
word-slot {l} {at} {v} {x} {w} hb h g r =
    let u = part l at v in
    let long : length u ≡ v = length_part l at v h in
    let q : v + (w - v) ≡ w = omega arith in
    let p : le (v + (w - v)) x ≡ le v x ++ zeros (w - v) = le-pad v (w - v) x r.below in
    let a : le v x ≡ u = ap (le v) r.is ∙ rw long at (le-num (bytes-part at v hb)) in
    rw q at p ∙ rw (a, long)

-- bytes that fill whole words have no padding
pub padded-whole : (u : List ℕ) → length u % 8 ≡ 0 → padded u ≡ u
unfolding fill
padded-whole u e = let z : pad (length u) - length u ≡ 0 = omega arith in rw z (append-nil u)

-- ---- a text word by word: i bytes stand

pub record PaddedGoing (l : List ℕ) (from n to : ℕ) (x₀ x : List ℕ) (i : ℕ) : Type 0 where
  pub can : PaddedCan l from n to (length x₀)
  pub octets : Bytes l
  pub most : i ≤ n
  pub eight : i % 8 ≡ 0
  pub stands : x ≡ sets x₀ to (part l from i)

pub padded-starts : {l : List ℕ} {from n to : ℕ} {x₀ : List ℕ} → PaddedCan l from n to (length x₀) → Octets l → PaddedGoing l from n to x₀ x₀ 0
padded-starts p o = record { can = p; octets = slice-bytes o; most = omega arith; eight = omega arith; stands = refl }

module _ {l : List ℕ} {from n to : ℕ} {x₀ x : List ℕ} {i : ℕ} (g : PaddedGoing l from n to x₀ x i) where
  done-long : length (part l from i) ≡ i
  done-long = length_part l from i (omega (arith, g.can.inside))

  -- the same of i by another name
  pub padded-at : {j : ℕ} → j ≡ i → PaddedGoing l from n to x₀ x j
  padded-at e = rw e g

  -- the next bytes behind those that stand
  behind : (u : List ℕ) {y : List ℕ} → y ≡ sets x (to + i) u → y ≡ sets x₀ to (part l from i ++ u)
  behind u e = e ∙ rw g.stands (sets_then x₀ to (to + i) (part l from i) u (omega (arith, done-long)))

  pub padded-goes : {j : ℕ} → j ≡ i + 8 → j ≤ n → {r : ℕ} → Reads l (from + i) 8 r → {y : List ℕ} → y ≡ sets x (to + i) (le 8 r)
      → PaddedGoing l from n to x₀ y j
  unfolding fill
  padded-goes ej h {r} b {y} e =
      let u = part l (from + i) 8 in
      let long : length u ≡ 8 = length_part l (from + i) 8 (omega (arith, g.can.inside)) in
      let w : le 8 r ≡ u = ap (le 8) b.is ∙ rw long at (le-num (bytes-part (from + i) 8 g.octets)) in
      record {
        can = g.can;
        octets = g.octets;
        most = h;
        eight = omega (arith, g.eight);
        stands = rw ej (behind u (rw w at e) ∙ ap (sets x₀ to) (sym (part-add l from i 8)));
      }

  pub padded-last : i < n → n < i + 8 → {r : ℕ} → Reads l (from + i) (n - i) r → {y : List ℕ} → y ≡ sets x (to + i) (le 8 r)
      → y ≡ sets x₀ to (padded (part l from n))
  unfolding fill
  padded-last h k {r} b {y} e =
      let u = part l (from + i) (n - i) in
      let a = part l from i in
      let w : le 8 r ≡ fill 8 u = word-slot g.octets (omega (arith, g.can.inside)) (omega arith) b in
      let lu : length u ≡ n - i = length_part l (from + i) (n - i) (omega (arith, g.can.inside)) in
      let q : i + (n - i) ≡ n = omega arith in
      let all : part l from n ≡ a ++ u = rw q at (part-add l from i (n - i)) in
      let long : length (a ++ u) ≡ n = length-append a u ∙ omega (arith, lu, done-long) in
      let z : 8 - (n - i) ≡ pad n - n = omega (arith, g.eight) in
      let whole : a ++ fill 8 u ≡ padded (part l from n) = rw (all, long, lu, z) (sym (append_assoc a u (zeros (pad n - n)))) in
      behind (fill 8 u) (rw w at e) ∙ ap (sets x₀ to) whole

  pub padded-ends : n < i + 8 → n ≤ i → x ≡ sets x₀ to (padded (part l from n))
  padded-ends k h =
      let e : i ≡ n = omega (arith, g.most) in
      g.stands ∙ rw e (ap (sets x₀ to) (sym (padded-whole (part l from n) (rw (length_part l from n g.can.inside) (rw e at g.eight)))))

-- ---- fixed parts

module _ (x : List ℕ) {n at len : ℕ} (p : ClearCan n at len) where
  pub clear-one : n ≤ 64 → {y : List ℕ} → y ≡ sets x at (le 8 0) → y ≡ sets x at (zeros (bitmap n))
  clear-one h e = let q : bitmap n ≡ 8 = omega (arith, p.low) in e ∙ rw (q, le-zero)

  pub clear-two : 64 < n → {x₁ y : List ℕ} → x₁ ≡ sets x at (le 8 0) → y ≡ sets x₁ (at + 8) (le 8 0) → y ≡ sets x at (zeros (bitmap n))
  clear-two h {x₁} {y} e₁ e =
      let q : bitmap n ≡ 16 = omega (arith, p.high) in
      let z : le 8 0 ++ le 8 0 ≡ zeros (bitmap n) = rw (q, le-zero) in
      e ∙ rw e₁ (sets_then x at (at + 8) (le 8 0) (le 8 0) (rw length-le refl) ∙ ap (sets x at) z)
