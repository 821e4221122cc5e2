-- The children of a container as a loop over them meets them: one law for each thing that the loop may find. Assumes nothing.
use mathlib.Core.Path.{◌≡◌, refl, sym, ap, ◌∙◌}
use mathlib.Core.Bool.{Bool, true, false, cond}
use mathlib.Core.List.{List, [], ◌∷◌}
use Prim.Native.Nat.{ℕ, zero, suc, ◌+◌, ◌*◌, ◌-◌, ◌/◌, ◌%◌, ◌^◌, ◌≤◌, ◌<◌}
use native.Mathlib.Decide.{ℕ_discrete}
use native.Mathlib.Nat.{mul-le-mul_right}
use native.Mathlib.Numerals.{add-one}
use native.Mathlib.Omega.{arith}
use lib.Dec.{eqb}
use lib.ListN.{length, take, drop, length-drop}
use lib.Seq.{drop-drop, take-take}
use borrow.Author.Tests.{eq-eqb, ne_eqb, eqb-true, eqb-false}
use Rattle.words.specs.Bytes.{Bytes, num, pad, bitmap, part, zeros_ahead}
use Rattle.words.specs.Bits.{bit_of, bit}
use Rattle.words.proofs.Parts.{length_part, part-part, drop-take}
use Rattle.words.proofs.BitLaws.{bit-num}
use Rattle.layout.specs.Faults.{byte, Read, got, ◌>>=◌, ◌>>◌, assert_at, cut_at, within}
use Rattle.layout.specs.Tiles.{Range, range, total, Stands, stands?}
use Rattle.layout.specs.Cells.{Cell, null}
use Rattle.layout.specs.Layout.{Codec, Kid, inside, outside, kid_get, reads, front}
use Rattle.layout.proofs.Faults.{assert-yes}
use Rattle.layout.proofs.Steps.{kid_at, reads-step, reads_end}
use Rattle.checking.specs.Sound.{code, in_child, zeros_then, ending, fault_from}
use Rattle.checking.proofs.Tests.{assert-no, code-fault, cut-some, bind_assoc, value-code, end-code, ends_more}

-- a bit that is set is 1, and one that is not is 0
bit-one : (m i : ℕ) → bit_of m i ≡ true → m / 2 ^ i % 2 ≡ 1
bit-one m i e = eqb-true (m / 2 ^ i % 2) 1 e

bit-zero : (m i : ℕ) → bit_of m i ≡ false → m / 2 ^ i % 2 ≡ 0
bit-zero m i e = let n : m / 2 ^ i % 2 ≡ 1 → ⊥ = eqb-false (m / 2 ^ i % 2) 1 e in go (m / 2 ^ i % 2) (omega arith) n
  where
    go : (x : ℕ) → x < 2 → (x ≡ 1 → ⊥) → x ≡ 0
    go zero h n = refl
    go (suc x) h n = absurd (n (omega arith))

-- how a value in the container's data is read
outside-code : (n j at : ℕ) (d : List ℕ) (rs : List Range) (o : ℕ) (c : Codec) (next : Cell × List Range → Read (List Cell)) (r : ℕ)
    → n ≤ length (drop (o - at) d) → pad n - n ≤ length (drop n (drop (o - at) d)) → ((x : Cell) → code (next (x, range o (pad n) ∷ rs)) ≡ r)
    → code ((cut_at (byte j) n (drop (o - at) d) >>= λ p. within j o (c.get p.0) >>= λ x. cut_at (byte j) (pad n - n) p.1 >>= λ q.
    assert_at (byte (o + n + zeros_ahead q.0)) (ℕ_discrete (num q.0) 0) >> got (x, range o (pad n) ∷ rs)) >>= next)
    ≡ in_child j o (code (c.get (take n (drop (o - at) d))))
    (cond (eqb (num (take (pad n - n) (drop n (drop (o - at) d)))) 0) r (suc (suc (o + n + zeros_ahead (take (pad n - n) (drop n (drop (o - at) d)))))))
outside-code n j at d rs o c next r h k f =
    let e = drop (o - at) d in
    let z = take (pad n - n) (drop n e) in
    rw (cut-some (byte j) n e h, cut-some (byte j) (pad n - n) (drop n e) k)
    (value-code j o (c.get (take n e)) (byte (o + n + zeros_ahead z)) (num z) (λ x. (x, range o (pad n) ∷ rs)) next r f)

module _ (h w : ℕ) (ks : List Kid) (b : List ℕ) (fits : front h w (length ks) ≤ length b) (hb : Bytes b) where
  abbrev n : ℕ
  n = length ks

  abbrev at : ℕ
  at = front h w n

  abbrev S : List ℕ
  S = part b (h + bitmap n) (n * w)

  abbrev M : ℕ
  M = num (part b h (bitmap n))

  long-slots : length S ≡ n * w
  long-slots = length_part b (h + bitmap n) (n * w) (omega arith)

  -- what is left of the reading from child i on, with the ranges rs before it
  abbrev left : ℕ → List Range → Read (List Cell × List Range)
  left i rs = reads w at (drop at b) (drop i ks) (h + bitmap n + i * w) (M / 2 ^ i) (drop (i * w) S) rs

  -- and how it ends
  abbrev code_left : ℕ → List Range → ℕ
  code_left i rs = code (left i rs >>= ending h w n b)

  -- the data ends with the container
  stop_is : at + length (drop at b) ≡ length b
  stop_is = omega (arith, length-drop at b, fits)

  pub good-end : (i : ℕ) (rs : List Range) (cur : ℕ) → i ≡ n → at + total rs ≡ cur
      → fault_from h w ks b i rs ≡ zeros_then b (h + bitmap n + n * w) at (cond (eqb cur (length b)) 0 1)
  unfolding fault_from
  good-end i rs cur e l =
      let k : at - (h + bitmap n + n * w) ≡ pad (n * w) - n * w = omega arith in
      rw (
        reads_end w at i (h + bitmap n + i * w) (M / 2 ^ i) (drop at b) ks (drop (i * w) S) rs (sym e),
        end-code h w n b [] rs,
        k,
        go (ℕ_discrete cur (length b)),
      )
    where
      go : Dec (cur ≡ length b) → eqb (total rs) (length b - at) ≡ eqb cur (length b)
      go (yes q) = eq-eqb (total rs) (length b - at) (omega arith) ∙ sym (eq-eqb cur (length b) q)
      go (no q) = ne_eqb (total rs) (length b - at) (λ z. q (omega arith)) ∙ sym (ne_eqb cur (length b) q)

  module _ (i : ℕ) (k : i < n) where
    -- where its slot starts
    abbrev p : ℕ
    p = h + bitmap n + i * w

    fit : i * w + w ≤ n * w
    fit = omega (arith, mul-le-mul_right {m = suc i} {n = n} w k)

    slot_is : part S (i * w) w ≡ part b p w
    slot_is = part-part b (h + bitmap n) (n * w) (i * w) w fit

    -- the other children, behind this one
    abbrev others : Cell × List Range → Read (List Cell × List Range)
    others x = left (suc i) x.1 >>= λ (q : List Cell × List Range). got (x.0 ∷ q.0, q.1)

    step : (rs : List Range) → code_left i rs ≡ code (kid_get (kid_at ks i) (M / 2 ^ i % 2) p at (drop at b) rs (part b p w) >>= λ x. others x >>= ending h w n b)
    step rs =
        let e : p + w ≡ h + bitmap n + suc i * w = omega arith in
        ap (λ (m : Read (List Cell × List Range)). code (m >>= ending h w n b)) (reads-step w at (drop at b) ks i p M S rs k long-slots)
        ∙ rw (slot_is, e) (ap code (bind_assoc (kid_get (kid_at ks i) (M / 2 ^ i % 2) p at (drop at b) rs (part b p w)) others (ending h w n b)))

    -- how they end
    rest-code : (x : Cell) (rs : List Range) → code (others (x, rs) >>= ending h w n b) ≡ code_left (suc i) rs
    rest-code x rs = ends_more h w n b x (left (suc i) rs)

    flag : (v : Bool) → bit b h i ≡ v → bit_of M i ≡ v
    flag v e = bit-num h (bitmap n) i hb (omega arith) ∙ e

    pub good-null : (rs : List Range) → bit b h i ≡ true → fault_from h w ks b i rs ≡ fault_from h w ks b (i + 1) rs
    unfolding fault_from kid_get
    good-null rs e = rw (add-one i, step rs, bit-one M i (flag true e)) (rest-code (null (part b p w)) rs)

    -- a fixed width: v bytes that the codec reads, and zeros behind them
    pub good-inside : (rs : List Range) (v : ℕ) (c : Codec) → kid_at ks i ≡ inside w v c → v ≤ w → bit b h i ≡ false
        → fault_from h w ks b i rs ≡ in_child p p (code (c.get (part b p v))) (zeros_then b (p + v) (p + w) (fault_from h w ks b (i + 1) rs))
    unfolding fault_from kid_get inside
    good-inside rs v c e l f =
        let s = part b p w in
        let long : length s ≡ w = length_part b p w (omega (arith, fit)) in
        let u : take v s ≡ part b p v = take-take v w (drop p b) l in
        let z : drop v s ≡ part b (p + v) (w - v) = drop-take v w (drop p b) ∙ ap (take (w - v)) (drop-drop v p b) in
        let o : p + w - (p + v) ≡ w - v = omega arith in
        rw (add-one i, step rs, e, bit-zero M i (flag false f), cut-some (byte p) v s (omega arith), u, z, o)
        (value-code p p (c.get (part b p v)) (byte (p + v + zeros_ahead (part b (p + v) (w - v)))) (num (part b (p + v) (w - v)))
        (λ x. (x, rs)) (λ x. others x >>= ending h w n b)
        (code_left (suc i) rs) (λ x. rest-code x rs))

    -- a value elsewhere: the slot is the number x
    module _ (rs : List Range) (c : Codec) (e : kid_at ks i ≡ outside c) (w8 : w ≡ 8) (f : bit b h i ≡ false) (x : ℕ) (ex : x ≡ num (part b p 8)) where
      slot-8 : num (part b p w) ≡ x
      slot-8 = ap (λ (k : ℕ). num (part b p k)) w8 ∙ sym ex

      -- it may not stand where the slot says
      pub good-off : (Stands at (length b) rs (range (x / 2 ^ 32) (pad (x % 2 ^ 32))) → ⊥) → fault_from h w ks b i rs ≡ suc (suc p)
      unfolding fault_from kid_get outside
      good-off ne =
          rw (
            step rs,
            e,
            bit-zero M i (flag false f),
            slot-8,
            stop_is,
            assert-no (byte p) (stands? at (length b) rs (range (x / 2 ^ 32) (pad (x % 2 ^ 32)))) _ ne,
          ) (code-fault (List Cell) (byte p))

      -- its contents, and its padding
      pub good-outside : (o size next : ℕ) → x / 2 ^ 32 ≡ o → size ≡ x % 2 ^ 32 → next ≡ o + pad size → Stands at (length b) rs (range o (pad size))
          → fault_from h w ks b i rs
          ≡ in_child p o (code (c.get (part b o size))) (zeros_then b (o + size) next (fault_from h w ks b (i + 1) (range o (pad size) ∷ rs)))
      unfolding fault_from kid_get outside
      good-outside o size next eo es en st =
          let d = drop at b in
          let hi = st.high in
          let lo = st.low in
          let ca : at + (o - at) ≡ o = omega arith in
          let dd : drop (o - at) d ≡ drop o b = drop-drop (o - at) at b ∙ ap (λ (j : ℕ). drop j b) ca in
          let dz : drop size (drop o b) ≡ drop (o + size) b = drop-drop size o b in
          let z : pad size - size ≡ next - (o + size) = omega arith in
          let m = outside-code size p at d rs o c (λ x. others x >>= ending h w n b)
          (code_left (suc i) (range o (pad size) ∷ rs)) (rw (dd, length-drop) (omega arith)) (rw (dd, dz, length-drop) (omega arith))
          (λ x. rest-code x (range o (pad size) ∷ rs)) in
          rw (
            add-one i,
            step rs,
            e,
            bit-zero M i (flag false f),
            slot-8,
            eo,
            ← es,
            stop_is,
            assert-yes (byte p) (stands? at (length b) rs (range o (pad size))) st,
            m,
            dd,
            dz,
            z,
          )
