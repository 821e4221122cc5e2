-- Big-endian numbers and bytes: each is the other's inverse. Assumes nothing.
use mathlib.Core.Path.{◌≡◌, refl, sym, ap, ◌∙◌}
use mathlib.Core.List.{List, [], ◌∷◌, reverse, reverse_aux, reverse-reverse}
use Prim.Native.Nat.{ℕ, suc, ◌+◌, ◌*◌, ◌/◌, ◌%◌, ◌^◌, ◌≤◌, ◌<◌}
use native.Mathlib.Omega.{arith}
use lib.Dec.{lit<}
use lib.ListN.{length, get_or, set, length-reverse}
use lib.Seq.{sets}
use lib.Bits.{bit_and, bit_or}
use Rattle.words.specs.Reads.{Reads}
use Rattle.words.specs.Bytes.{Bytes, empty, byte, le, num, part}
use Rattle.words.proofs.Numbers.{length-le, num-le, le-num, num-lt, byte_at, bytes_le}
use Rattle.words.proofs.Parts.{part-cons}
use Rattle.words.proofs.Turns.{reads-next, low_byte}
use Rattle.batch.specs.Frames.{be, big}
use Rattle.batch.specs.Places.{Says}

bytes-turned : {a r : List ℕ} → Bytes a → Bytes r → Bytes (reverse_aux a r)
bytes-turned empty k = k
bytes-turned (byte d h) k = bytes-turned h (byte d k)

bytes-reverse : {b : List ℕ} → Bytes b → Bytes (reverse b)
bytes-reverse h = bytes-turned h empty

pub bytes-be : (w x : ℕ) → Bytes (be w x)
unfolding be
bytes-be w x = bytes-reverse (bytes_le w x)

pub length-be : (w x : ℕ) → length (be w x) ≡ w
unfolding be
length-be w x = length-reverse (le w x) ∙ length-le w x

pub big-be : (w x : ℕ) → x < 256 ^ w → big (be w x) ≡ x
unfolding be big
big-be w x h = ap num (reverse-reverse (le w x)) ∙ num-le w x h

pub be-big : {b : List ℕ} → Bytes b → be (length b) (big b) ≡ b
unfolding be big
be-big {b} h =
    ap (λ (n : ℕ). reverse (le n (num (reverse b)))) (sym (length-reverse b))
    ∙ ap reverse (le-num (bytes-reverse h))
    ∙ reverse-reverse b

pub big_lt : {b : List ℕ} → Bytes b → big b < 256 ^ length b
unfolding big
big_lt {b} h = rw length-reverse at (num-lt (bytes-reverse h))

-- ---- a straight read and a straight write

reads-one : {b : List ℕ} (x : ℕ) → Bytes (x ∷ b) → Reads (x ∷ b) 0 1 x
unfolding num
reads-one x (byte d h) = record { is = omega arith; below = d }

module _ {b : List ℕ} (at : ℕ) (h : Bytes b) (room : at + 4 ≤ length b) where
  four : part b at 4 ≡ get_or b at 0 ∷ get_or b (at + 1) 0 ∷ get_or b (at + 2) 0 ∷ get_or b (at + 3) 0 ∷ []
  four =
      let e1 : suc at ≡ at + 1 = omega arith in
      let e2 : suc (at + 1) ≡ at + 2 = omega arith in
      let e3 : suc (at + 2) ≡ at + 3 = omega arith in
      let p1 = part-cons b (at + 1) 2 (omega arith) in
      let p2 = part-cons b (at + 2) 1 (omega arith) in
      rw (part-cons b at 3 (omega arith), e1, p1, e2, p2, e3, part-cons b (at + 3) 0 (omega arith))

  pub says : (x3 x2 x1 x0 : ℕ) → x3 ≡ get_or b at 0 → x2 ≡ get_or b (at + 1) 0 → x1 ≡ get_or b (at + 2) 0 → x0 ≡ get_or b (at + 3) 0
      → Says b at (bit_or (bit_or (bit_or x0 (x1 * 2 ^ 8 % 2 ^ 64)) (x2 * 2 ^ 16 % 2 ^ 64)) (x3 * 2 ^ 24 % 2 ^ 64))
  unfolding big
  says x3 x2 x1 x0 e3 e2 e1 e0 =
      let t : List ℕ = x0 ∷ x1 ∷ x2 ∷ x3 ∷ [] in
      let k2 : Bytes (x2 ∷ x3 ∷ []) = byte {d = x2} (rw e2 (byte_at h (at + 1))) (byte {d = x3} (rw e3 (byte_at h at)) empty) in
      let k : Bytes t = byte {d = x0} (rw e0 (byte_at h (at + 3))) (byte {d = x1} (rw e1 (byte_at h (at + 2))) k2) in
      let r1 = reads-one x0 k in
      let r2 = reads-next {b = t} 0 1 _ x1 k r1 refl (lit< tt) (lit< tt) in
      let r3 = reads-next {b = t} 0 2 _ x2 k r2 refl (lit< tt) (lit< tt) in
      let r4 = reads-next {b = t} 0 3 _ x3 k r3 refl (lit< tt) (lit< tt) in
      record { is = r4.is ∙ rw (four, ← e3, ← e2, ← e1, ← e0); below = r4.below }

four-sets : (b : List ℕ) (at v3 v2 v1 v0 w3 w2 w1 w0 : ℕ) → v3 ≡ w3 → v2 ≡ w2 → v1 ≡ w1 → v0 ≡ w0
    → set (set (set (set b at v3) (at + 1) v2) (at + 2) v1) (at + 3) v0 ≡ sets b at (w3 ∷ w2 ∷ w1 ∷ w0 ∷ [])
four-sets b at v3 v2 v1 v0 w3 w2 w1 w0 e3 e2 e1 e0 =
    let p1 : at + 1 ≡ suc at = omega arith in
    let p2 : at + 2 ≡ suc (suc at) = omega arith in
    let p3 : at + 3 ≡ suc (suc (suc at)) = omega arith in
    rw (e3, e2, e1, e0, p1, p2, p3)

pub size-put : (b : List ℕ) (at x : ℕ)
    → set (set (set (set b at (bit_and (x / 2 ^ 24) 255)) (at + 1) (bit_and (x / 2 ^ 16) 255)) (at + 2) (bit_and (x / 2 ^ 8) 255)) (at + 3) (bit_and x 255)
    ≡ sets b at (be 4 x)
unfolding be le
size-put b at x =
    four-sets b at _ _ _ _ (x / 256 / 256 / 256 % 256) (x / 256 / 256 % 256) (x / 256 % 256) (x % 256)
    (low_byte (x / 2 ^ 24) ∙ omega arith) (low_byte (x / 2 ^ 16) ∙ omega arith) (low_byte (x / 2 ^ 8)) (low_byte x)
