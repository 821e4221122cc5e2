-- Children written one after the other: each one's bytes behind the slots, its slot and its bit; and that this lays down the
-- bitmap, the slots and the bytes behind them. Assumes nothing.
use mathlib.Core.Path.{◌≡◌, refl, sym, ap, ◌∙◌}
use mathlib.Core.Bool.{true}
use mathlib.Core.List.{List, [], ◌∷◌, ◌++◌, append-nil, append_assoc}
use Prim.Native.Nat.{ℕ, suc, ◌+◌, ◌*◌, ◌-◌, ◌/◌, ◌%◌, ◌≤◌, ◌<◌}
use native.Mathlib.Omega.{arith}
use lib.ListN.{length, get_or, set, length-append, length-replicate}
use lib.Seq.{sets, length-sets, set-append_seam}
use Rattle.words.specs.Bytes.{le, zeros, pad, fill, bitmap}
use Rattle.words.specs.Bits.{with_bit, put_bit}
use Rattle.words.proofs.Runs.{sets_then, sets-comm, sets_last, sets-part-in, part-sets, get_or-sets-in, sets-low}
use Rattle.words.proofs.Numbers.{length-le}
use Rattle.words.proofs.NumLaws.{le-zero}
use Rattle.layout.specs.Cells.{Cell, null, leaf, nodes, on_null, flag}
use Rattle.layout.specs.Layout.{Kid, kid_slot, kid_tail, flags, slots, tails, AllFit, front, body_put}
use Rattle.layout.proofs.Bitmaps.{bits-set}
use Rattle.layout.proofs.Children.{AllLawful, kid-wide, slots_length, all-length}

-- ---- bits

-- a null's bit is set in the bitmap that starts at bm
abbrev pub flagged : List ℕ → ℕ → ℕ → Cell → List ℕ
flagged x bm i c = on_null (λ _. put_bit x bm i true) x c

pub bit_past : (x v : List ℕ) (bm i p : ℕ) → bm + i / 8 < p → put_bit (sets x p v) bm i true ≡ sets (put_bit x bm i true) p v
bit_past x v bm i p h =
    ap (λ (b : ℕ). sets (sets x p v) (bm + i / 8) (with_bit b (i % 8) true ∷ [])) (sets-low x p v (bm + i / 8) h)
    ∙ sets-comm x (bm + i / 8) p (with_bit (get_or x (bm + i / 8) 0) (i % 8) true ∷ []) v (omega arith)

flag-past : (x v : List ℕ) (bm i p : ℕ) (c : Cell) → bm + i / 8 < p → flagged (sets x p v) bm i c ≡ sets (flagged x bm i c) p v
unfolding on_null
flag-past x v bm i p (null u) h = bit_past x v bm i p h
flag-past x v bm i p (leaf u) h = refl
flag-past x v bm i p (nodes u) h = refl

-- the bits of children from number i on
unfoldable bits : ℕ → ℕ → List Cell → List ℕ → List ℕ
bits bm i [] x = x
bits bm i (c ∷ cs) x = bits bm (i + 1) cs (flagged x bm i c)

bits-past : (bm i : ℕ) (cs : List Cell) (x v : List ℕ) (p : ℕ) → bm + (i + length cs + 7) / 8 ≤ p → bits bm i cs (sets x p v) ≡ sets (bits bm i cs x) p v
unfolding bits
bits-past bm i [] x v p h = refl
bits-past bm i (c ∷ cs) x v p h = ap (bits bm (i + 1) cs) (flag-past x v bm i p c (omega arith)) ∙ bits-past bm (i + 1) cs (flagged x bm i c) v p (omega arith)

flags-more : (done : List Cell) (c : Cell) → flag c ≡ 0 → flags (done ++ (c ∷ [])) ≡ flags done
unfolding flags
flags-more [] c e = omega arith
flags-more (d ∷ done) c e = rw (flags-more done c e)

-- a byte of a run that was set
sets-inner : (x v u : List ℕ) (p j : ℕ) → p + length v ≤ length x → j + length u ≤ length v → sets (sets x p v) (p + j) u ≡ sets x p (sets v j u)
sets-inner x v u p j h k =
    let b = sets x p v in
    let long : length b ≡ length x = length-sets x p v in
    sym (sets-part-in b p (length v) j u (rw long h) k)
    ∙ ap (λ (y : List ℕ). sets b p (sets y j u)) (part-sets x p v h)
    ∙ sets_last x p v (sets v j u) (sym (length-sets v j u))

put-inner : (x v : List ℕ) (bm i : ℕ) → bm + length v ≤ length x → i / 8 < length v → put_bit (sets x bm v) bm i true ≡ sets x bm (put_bit v 0 i true)
put-inner x v bm i h k =
    let z : 0 + i / 8 ≡ i / 8 = omega arith in
    ap (λ (b : ℕ). sets (sets x bm v) (bm + i / 8) (with_bit b (i % 8) true ∷ [])) (get_or-sets-in x bm v h (i / 8) k)
    ∙ rw z (sets-inner x v (with_bit (get_or v (i / 8) 0) (i % 8) true ∷ []) bm (i / 8) h (omega arith))

module _ (x : List ℕ) (bm w : ℕ) (fits : bm + w ≤ length x) where
  -- one bit more
  bit-more : (done : List Cell) (i : ℕ) (c : Cell) → i ≡ length done → i + 1 ≤ 8 * w
      → flagged (sets x bm (le w (flags done))) bm i c ≡ sets x bm (le w (flags (done ++ (c ∷ []))))
  unfolding on_null
  bit-more done i (leaf u) e h = ap (λ (n : ℕ). sets x bm (le w n)) (sym (flags-more done (leaf u) refl))
  bit-more done i (nodes u) e h = ap (λ (n : ℕ). sets x bm (le w n)) (sym (flags-more done (nodes u) refl))
  bit-more done i (null u) e h =
      let v = le w (flags done) in
      let long : length v ≡ w = length-le w (flags done) in
      let many : length (done ++ (leaf [] ∷ [])) ≡ i + 1 = length-append done (leaf [] ∷ []) ∙ omega arith in
      let more = done ++ (leaf [] ∷ []) in
      let b : le w (flags (set more i (null u))) ≡ put_bit (le w (flags more)) 0 i true = bits-set w more (null u) i (omega arith) (omega arith) in
      let q : set more i (null u) ≡ done ++ (null u ∷ []) = ap (λ (j : ℕ). set more j (null u)) e ∙ set-append_seam done (leaf []) [] (null u) in
      put-inner x v bm i (rw long fits) (omega arith)
      ∙ ap (sets x bm) (ap (λ (n : ℕ). put_bit (le w n) 0 i true) (sym (flags-more done (leaf []) refl)) ∙ sym b ∙ ap (λ cs. le w (flags cs)) q)

  bits-more : (cs done : List Cell) (i : ℕ) → i ≡ length done → i + length cs ≤ 8 * w
      → bits bm i cs (sets x bm (le w (flags done))) ≡ sets x bm (le w (flags (done ++ cs)))
  unfolding bits
  bits-more [] done i e h = ap (λ cs. sets x bm (le w (flags cs))) (sym (append-nil done))
  bits-more (c ∷ cs) done i e h =
      ap (bits bm (i + 1) cs) (bit-more done i c e (omega arith))
      ∙ bits-more cs (done ++ (c ∷ [])) (i + 1) (sym (length-append done (c ∷ []) ∙ omega arith)) (omega arith)
      ∙ ap (λ ds. sets x bm (le w (flags ds))) (append_assoc done (c ∷ []) cs)

  bits-all : (cs : List Cell) → length cs ≤ 8 * w → bits bm 0 cs (sets x bm (zeros w)) ≡ sets x bm (le w (flags cs))
  unfolding flags
  bits-all cs h = ap (λ v. bits bm 0 cs (sets x bm v)) (sym (le-zero w)) ∙ bits-more cs [] 0 refl (omega arith)

-- ---- children in order

unfoldable pub paint : ℕ → ℕ → ℕ → List Kid → List Cell → ℕ → ℕ → ℕ → List ℕ → List ℕ
paint base bm w [] cs i slot cur x = x
paint base bm w (k ∷ ks) [] i slot cur x = x
paint base bm w (k ∷ ks) (c ∷ cs) i slot cur x =
    paint base bm w ks cs (i + 1) (slot + w) (cur + length (kid_tail k c)) (flagged (sets (sets x cur (kid_tail k c)) slot (kid_slot k (cur - base) c)) bm i c)

module _ (base bm w : ℕ) where
  paint-is : (ks : List Kid) (cs : List Cell) (i slot cur : ℕ) (x : List ℕ) → AllLawful w ks → AllFit w ks cs
      → bm + (i + length ks + 7) / 8 ≤ slot → slot + length ks * w ≤ cur → base ≤ cur
      → paint base bm w ks cs i slot cur x ≡ sets (sets (bits bm i cs x) slot (slots (cur - base) ks cs)) cur (tails ks cs)
  unfolding paint slots tails AllFit bits
  paint-is [] [] i slot cur x l f hb hs ho = refl
  paint-is (k ∷ ks) (c ∷ cs) i slot cur x l f hb hs ho =
      let d = kid_tail k c in
      let s₁ = kid_slot k (cur - base) c in
      let S = slots (cur - base + length d) ks cs in
      let D = tails ks cs in
      let Y = bits bm (i + 1) cs (flagged x bm i c) in
      let ls : length s₁ ≡ w = kid-wide w k l.0 (cur - base) c f.0 in
      let lS : length S ≡ length ks * w = slots_length w (cur - base + length d) ks cs l.1 f.1 in
      let n : length cs ≡ length ks = all-length w ks cs f.1 in
      let o : cur + length d - base ≡ cur - base + length d = omega arith in
      let m : suc (length ks) * w ≡ w + length ks * w = omega arith in
      paint-is ks cs (i + 1) (slot + w) (cur + length d) (flagged (sets (sets x cur d) slot s₁) bm i c) l.1 f.1 (omega arith) (omega arith) (omega arith)
      ∙ ap (λ (j : ℕ). sets (sets (bits bm (i + 1) cs (flagged (sets (sets x cur d) slot s₁) bm i c)) (slot + w) (slots j ks cs)) (cur + length d) D) o
      ∙ ap (λ y. sets (sets (bits bm (i + 1) cs y) (slot + w) S) (cur + length d) D)
      (flag-past (sets x cur d) s₁ bm i slot c (omega arith) ∙ ap (λ y. sets y slot s₁) (flag-past x d bm i cur c (omega arith)))
      ∙ ap (λ y. sets (sets y (slot + w) S) (cur + length d) D)
      (bits-past bm (i + 1) cs (sets (flagged x bm i c) cur d) s₁ slot (omega arith)
      ∙ ap (λ y. sets y slot s₁) (bits-past bm (i + 1) cs (flagged x bm i c) d cur (omega arith)))
      ∙ ap (λ y. sets y (cur + length d) D)
      (sets_then (sets Y cur d) slot (slot + w) s₁ S (omega arith) ∙ sets-comm Y slot cur (s₁ ++ S) d (rw (length-append, ls, lS) (omega arith)))
      ∙ sets_then (sets Y slot (s₁ ++ S)) cur (cur + length d) d D refl
  paint-is [] (c ∷ cs) i slot cur x l f hb hs ho = elim f [ ]
  paint-is (k ∷ ks) [] i slot cur x l f hb hs ho = elim f [ ]

  -- zeros in the bitmap and behind the slots first, then the children
  pub body_is : (h : ℕ) (ks : List Kid) (cs : List Cell) (x x₀ : List ℕ) (B stop start P : ℕ) → AllLawful w ks → AllFit w ks cs
      → B ≡ bitmap (length ks) → bm ≡ base + h → stop ≡ bm + B + length ks * w
      → P ≡ pad (length ks * w) - length ks * w → start ≡ bm + B + pad (length ks * w) → bm + B ≤ length x
      → x₀ ≡ sets (sets x bm (zeros B)) stop (zeros P)
      → paint base bm w ks cs 0 (bm + B) start x₀ ≡ sets x bm (body_put h w ks cs)
  unfolding body_put fill
  body_is h ks cs x x₀ B stop start P l f eB eb es eP et room e =
      let n : length cs ≡ length ks = all-length w ks cs f in
      let at = front h w (length ks) in
      let F = le B (flags cs) in
      let S = slots at ks cs in
      let D = tails ks cs in
      let lF : length F ≡ B = length-le B (flags cs) in
      let lS : length S ≡ length ks * w = slots_length w at ks cs l f in
      let o : start - base ≡ at = omega arith in
      let lz : length (zeros P) ≡ P = length-replicate P 0 in
      let q : pad (length S) - length S ≡ P = rw lS (sym eP) in
      paint-is ks cs 0 (bm + B) start x₀ l f (omega arith) (omega arith) (omega arith)
      ∙ ap (λ (j : ℕ). sets (sets (bits bm 0 cs x₀) (bm + B) (slots j ks cs)) start D) o
      ∙ ap (λ y. sets (sets (bits bm 0 cs y) (bm + B) S) start D) e
      ∙ ap (λ y. sets (sets y (bm + B) S) start D)
      (bits-past bm 0 cs (sets x bm (zeros B)) (zeros P) stop (omega arith) ∙ ap (λ y. sets y stop (zeros P)) (bits-all x bm B room cs (omega arith)))
      ∙ ap (λ y. sets y start D)
      (sets-comm (sets x bm F) (bm + B) stop S (zeros P) (rw lS (omega arith))
      ∙ sets_then (sets x bm F) (bm + B) stop S (zeros P) (rw lS (omega arith)))
      ∙ sets_then (sets x bm F) (bm + B) start (S ++ zeros P) D (rw (length-append, lS, lz) (omega arith))
      ∙ sets_then x bm (bm + B) F ((S ++ zeros P) ++ D) (rw lF (omega arith))
      ∙ rw (q, ← eB)
