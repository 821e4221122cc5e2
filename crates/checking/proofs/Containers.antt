-- Struct, list and map as code meets them: one law for each thing that it may find before, and in, their children. Assumes nothing.
use mathlib.Core.Path.{◌≡◌, refl, ap, ◌∙◌}
use mathlib.Core.Bool.{true, false, cond}
use mathlib.Core.List.{List, [], ◌∷◌}
use Prim.Native.Nat.{ℕ, suc, ◌+◌, ◌*◌, ◌-◌, ◌/◌, ◌%◌, ◌^◌, ◌≤◌, ◌<◌}
use native.Mathlib.Decide.{dec_le, ℕ_discrete}
use native.Mathlib.Omega.{arith}
use lib.Dec.{eqb, ltb}
use lib.ListN.{length, take, drop, length-drop, length-replicate}
use lib.Seq.{drop-drop}
use Rattle.words.specs.Bytes.{num, pad, bitmap, part, past_byte}
use Rattle.schema.specs.Types.{Ty, li, ma, ro, Tys}
use Rattle.schema.proofs.Places.{Holding as HoldingType, list as is_list, map as is_map, struct as is_struct}
use Rattle.layout.specs.Faults.{Place, slot, byte, Read, fault, got, ◌>>=◌, ◌>>◌, assert_at, cut_at}
use Rattle.layout.specs.Cells.{Cell, node, parts}
use Rattle.layout.specs.Layout.{Kid, kid, slot_of, reads, front, body_get, struct, array, pair, list, codec, kids}
use Rattle.layout.proofs.Faults.{when-got, assert-yes}
use Rattle.layout.proofs.Near.{codec-near, Near, faulty}
use Rattle.layout.proofs.Containers.{list_counted, codec-lawful}
use Rattle.checking.specs.Sound.{code, fault_of, in_child, ending, fault_from}
use Rattle.checking.specs.Room.{elements}
use Rattle.checking.proofs.Tests.{assert-no, code-equal, code-less, code-fault, code_got, code-made, code-within, cut-some, cut-none}

-- ---- a body behind a header of h bytes

-- three cuts that there is no room for
cuts-none : {A : Type 0} (s : Place) (i j k : ℕ) (r : List ℕ) (f : List ℕ × List ℕ → List ℕ × List ℕ → List ℕ × List ℕ → Read A) → length r < i + j + k
    → (cut_at s i r >>= λ x. cut_at s j x.1 >>= λ y. cut_at s k y.1 >>= f x y) ≡ fault s
cuts-none s i j k r f h = first (dec_le i (length r))
  where
    third : i ≤ length r → j ≤ length (drop i r) → (cut_at s k (drop j (drop i r)) >>= f (take i r, drop i r) (take j (drop i r), drop j (drop i r))) ≡ fault s
    third p q = rw (cut-none s k (drop j (drop i r)) (rw (length-drop j (drop i r), length-drop i r) (omega (arith, length-drop i r))))

    second : i ≤ length r → Dec (j ≤ length (drop i r)) → (cut_at s j (drop i r) >>= λ y. cut_at s k y.1 >>= f (take i r, drop i r) y) ≡ fault s
    second p (yes q) = rw (cut-some s j (drop i r) q) (third p q)
    second p (no q) = rw (cut-none s j (drop i r) (omega arith))

    first : Dec (i ≤ length r) → (cut_at s i r >>= λ x. cut_at s j x.1 >>= λ y. cut_at s k y.1 >>= f x y) ≡ fault s
    first (yes p) = rw (cut-some s i r p) (second p (dec_le j (length (drop i r))))
    first (no p) = rw (cut-none s i r (omega arith))

body-none : (s : Place) (h w : ℕ) (ks : List Kid) (b : List ℕ) → h ≤ length b → length b < front h w (length ks) → body_get s h w ks (drop h b) ≡ fault s
unfolding body_get
body-none s h w ks b l k = cuts-none s (bitmap (length ks)) (length ks * w) (pad (length ks * w) - length ks * w) (drop h b) _ (rw length-drop (omega arith))

body-code : (s : Place) (h w : ℕ) (ks : List Kid) (b : List ℕ) → front h w (length ks) ≤ length b
    → code (body_get s h w ks (drop h b))
    ≡ cond (ltb (num (part b h (bitmap (length ks)))) (2 ^ length ks)) (fault_from h w ks b 0 [])
    (suc (suc (h + past_byte (length ks) (part b h (bitmap (length ks))))))
unfolding body_get fault_from ending
body-code short h w ks b fits =
    let n = length ks in
    let at = front h w n in
    let r = drop h b in
    let m = part b h (bitmap n) in
    let lr : length r ≡ length b - h = length-drop h b in
    let d₁ : drop (bitmap n) r ≡ drop (h + bitmap n) b = drop-drop (bitmap n) h b in
    let d₂ : drop (n * w) (drop (h + bitmap n) b) ≡ drop (h + bitmap n + n * w) b = drop-drop (n * w) (h + bitmap n) b in
    let e₃ : h + bitmap n + n * w + (pad (n * w) - n * w) ≡ at = omega arith in
    let d₃ : drop (pad (n * w) - n * w) (drop (h + bitmap n + n * w) b) ≡ drop at b =
    drop-drop (pad (n * w) - n * w) (h + bitmap n + n * w) b ∙ ap (λ (j : ℕ). drop j b) e₃ in
    let s = part b (h + bitmap n) (n * w) in
    let d = drop at b in
    let one : num m / 2 ^ 0 ≡ num m = omega arith in
    let o : 0 * w ≡ 0 = omega arith in
    let j : h + bitmap n + 0 ≡ h + bitmap n = omega arith in
    rw (
      cut-some short (bitmap n) r (omega arith),
      d₁,
      cut-some short (n * w) (drop (h + bitmap n) b) (rw length-drop (omega arith)),
      d₂,
      cut-some short (pad (n * w) - n * w) (drop (h + bitmap n + n * w) b) (rw length-drop (omega arith)),
      d₃,
      length-drop at b,
      code-less (byte (h + past_byte n m)) (num m) (2 ^ n) (reads w at d ks (h + bitmap n) (num m) s [] >>= ending h w n b),
      one,
      o,
      j,
    )

-- a size that is no multiple of 8
odd-fault : {A : Type 0} (b : List ℕ) (m : Read A) → (length b % 8 ≡ 0 → ⊥) → code (assert_at slot (ℕ_discrete (length b % 8) 0) >> m) ≡ 1
odd-fault {A} b m h = rw (assert-no slot (ℕ_discrete (length b % 8) 0) m h) (code-fault A slot)

-- ---- a struct of n fields

module _ (ts : Tys) (n : ℕ) (b : List ℕ) (en : length (kids ts) ≡ n) where
  pub struct-odd : (length b % 8 ≡ 0 → ⊥) → fault_of (ro ts) b ≡ 1
  unfolding fault_of codec struct
  struct-odd h = odd-fault b (body_get slot 0 8 (kids ts) b >>= λ cs. got (node cs)) h

  module _ (e8 : length b % 8 ≡ 0) where
    struct-body : fault_of (ro ts) b ≡ code (body_get slot 0 8 (kids ts) b)
    unfolding fault_of codec struct
    struct-body = rw (assert-yes slot (ℕ_discrete (length b % 8) 0) e8) (code-made (body_get slot 0 8 (kids ts) b) node)

    pub struct-short : length b < bitmap n + 8 * n → fault_of (ro ts) b ≡ 1
    struct-short h = struct-body ∙ ap code (body-none slot 0 8 (kids ts) b (omega arith) (rw en (omega arith))) ∙ code-fault (List Cell) slot

    module _ (h : bitmap n + 8 * n ≤ length b) where
      room : front 0 8 (length (kids ts)) ≤ length b
      room = rw en (omega arith)

      struct_is : fault_of (ro ts) b
          ≡ cond (ltb (num (part b 0 (bitmap n))) (2 ^ n)) (fault_from 0 8 (kids ts) b 0 []) (suc (suc (0 + past_byte n (part b 0 (bitmap n)))))
      struct_is =
          struct-body ∙ body-code slot 0 8 (kids ts) b room
          ∙ ap (λ (j : ℕ). cond (ltb (num (part b 0 (bitmap j))) (2 ^ j)) (fault_from 0 8 (kids ts) b 0 [])
          (suc (suc (0 + past_byte j (part b 0 (bitmap j)))))) en

      pub struct-past : ltb (num (part b 0 (bitmap n))) (2 ^ n) ≡ false → fault_of (ro ts) b ≡ suc (suc (0 + past_byte n (part b 0 (bitmap n))))
      struct-past e = struct_is ∙ rw e

      pub struct-good : ltb (num (part b 0 (bitmap n))) (2 ^ n) ≡ true → fault_of (ro ts) b ≡ fault_from 0 8 (kids ts) b 0 []
      struct-good e = struct_is ∙ rw e

-- ---- a list of n elements of w bytes

module _ (t : Ty) (b : List ℕ) where
  abbrev w : ℕ
  w = slot_of (codec t).wide

  pub list-odd : (length b % 8 ≡ 0 → ⊥) → fault_of (li t) b ≡ 1
  unfolding fault_of codec array
  list-odd h = odd-fault b _ h

  module _ (e8 : length b % 8 ≡ 0) where
    pub list-short : length b < 8 → fault_of (li t) b ≡ 1
    unfolding fault_of codec array
    list-short h = rw (assert-yes slot (ℕ_discrete (length b % 8) 0) e8, cut-none slot 8 b h) (code-fault Cell slot)

    module _ (n : ℕ) (en : n ≡ num (part b 0 8)) (h : 8 ≤ length b) where
      list-body : fault_of (li t) b ≡ code (body_get (byte 0) 8 w (elements t n) (drop 8 b))
      unfolding fault_of codec array
      list-body =
          rw (assert-yes slot (ℕ_discrete (length b % 8) 0) e8, cut-some slot 8 b h, ← en)
          (code-made (body_get (byte 0) 8 w (elements t n) (drop 8 b)) node)

      pub list-unfit : length b < front 8 w n → fault_of (li t) b ≡ 2
      list-unfit l = list-body ∙ ap code (body-none (byte 0) 8 w (elements t n) b h (rw length-replicate l)) ∙ code-fault (List Cell) (byte 0)

      module _ (l : front 8 w n ≤ length b) where
        list-is : fault_of (li t) b
            ≡ cond (ltb (num (part b 8 (bitmap n))) (2 ^ n)) (fault_from 8 w (elements t n) b 0 []) (suc (suc (8 + past_byte n (part b 8 (bitmap n)))))
        list-is =
            let q : length (elements t n) ≡ n = length-replicate n (kid w (codec t)) in
            list-body ∙ body-code (byte 0) 8 w (elements t n) b (rw q l)
            ∙ ap (λ (j : ℕ). cond (ltb (num (part b 8 (bitmap j))) (2 ^ j)) (fault_from 8 w (elements t n) b 0 [])
            (suc (suc (8 + past_byte j (part b 8 (bitmap j)))))) q

        pub list-past : ltb (num (part b 8 (bitmap n))) (2 ^ n) ≡ false → fault_of (li t) b ≡ suc (suc (8 + past_byte n (part b 8 (bitmap n))))
        list-past e = list-is ∙ rw e

        pub list-good : ltb (num (part b 8 (bitmap n))) (2 ^ n) ≡ true → fault_of (li t) b ≡ fault_from 8 w (elements t n) b 0 []
        list-good e = list-is ∙ rw e

-- ---- a map

module _ (k v : Ty) (b : List ℕ) where
  pub map-odd : (length b % 8 ≡ 0 → ⊥) → fault_of (ma k v) b ≡ 1
  unfolding fault_of codec pair
  map-odd h = odd-fault b _ h

  module _ (e8 : length b % 8 ≡ 0) where
    pub map-short : length b < 8 → fault_of (ma k v) b ≡ 1
    unfolding fault_of codec pair
    map-short h = rw (assert-yes slot (ℕ_discrete (length b % 8) 0) e8, cut-none slot 8 b h) (code-fault Cell slot)

    module _ (K : ℕ) (eK : K ≡ num (part b 0 8)) (h : 8 ≤ length b) where
      pub map-uneven : (K % 8 ≡ 0 → ⊥) → fault_of (ma k v) b ≡ 2
      unfolding fault_of codec pair
      map-uneven z =
          rw (assert-yes slot (ℕ_discrete (length b % 8) 0) e8, cut-some slot 8 b h, ← eK, assert-no (byte 0) (ℕ_discrete (K % 8) 0) _ z)
          (code-fault Cell (byte 0))

      module _ (k8 : K % 8 ≡ 0) where
        pub map-unfit : length b < 8 + K → fault_of (ma k v) b ≡ 2
        unfolding fault_of codec pair
        map-unfit l =
            rw (
              assert-yes slot (ℕ_discrete (length b % 8) 0) e8,
              cut-some slot 8 b h,
              ← eK,
              assert-yes (byte 0) (ℕ_discrete (K % 8) 0) k8,
              cut-none (byte 0) K (drop 8 b) (rw length-drop (omega arith)),
            ) (code-fault Cell (byte 0))

        pub map_is : 8 + K ≤ length b
            → fault_of (ma k v) b ≡ in_child 8 8 (fault_of (li k) (part b 8 K))
            (cond (eqb (num (take 8 (drop (8 + K) b))) (num (take 8 (part b 8 K))))
            (in_child (8 + K) (8 + K) (fault_of (li v) (drop (8 + K) b)) 0) (suc (suc (8 + K))))
        unfolding fault_of codec pair
        map_is l =
            let d : drop K (drop 8 b) ≡ drop (8 + K) b = drop-drop K 8 b in
            let p = part b 8 K in
            let q = drop (8 + K) b in
            let x = in_child (8 + K) (8 + K) (code ((list (codec v)).get q)) 0 in
            rw (
              assert-yes slot (ℕ_discrete (length b % 8) 0) e8,
              cut-some slot 8 b h,
              ← eK,
              assert-yes (byte 0) (ℕ_discrete (K % 8) 0) k8,
              cut-some (byte 0) K (drop 8 b) (rw length-drop (omega arith)),
              d,
            ) (code-within 8 8 ((list (codec k)).get p) _ (cond (eqb (num (take 8 q)) (num (take 8 p))) x (suc (suc (8 + K)))) λ a e.
            let c : num (take 8 p) ≡ length (parts a) = when-got (rw e at ((list_counted (codec k) (codec-lawful k)).count p)) in
            rw c (code-equal (byte (8 + K)) (num (take 8 q)) (length (parts a)) _
            ∙ ap (λ (y : ℕ). cond (eqb (num (take 8 q)) (length (parts a))) y (suc (suc (8 + K))))
            (code-within (8 + K) (8 + K) ((list (codec v)).get q) _ 0 λ vs _. code_got (node (a ∷ vs ∷ [])))))

-- ---- the size of a sound container is a multiple of 8

abbrev pub Eights : Ty → Type 0
Eights t = (b : List ℕ) → fault_of t b ≡ 0 → length b % 8 ≡ 0

even-sound : (t : Ty) (b : List ℕ) → ((length b % 8 ≡ 0 → ⊥) → fault_of t b ≡ 1) → fault_of t b ≡ 0 → length b % 8 ≡ 0
even-sound t b f e = go (ℕ_discrete (length b % 8) 0)
  where
    go : Dec (length b % 8 ≡ 0) → length b % 8 ≡ 0
    go (yes h) = h
    go (no h) = absurd (omega (arith, f h))

pub container-eights : (t : Ty) (k : ℕ) → HoldingType t k → Eights t
container-eights t k (is_list {t = u}) b e = even-sound t b (list-odd u b) e
container-eights t k (is_map {k = u} {v = v}) b e = even-sound t b (map-odd u v b) e
container-eights t k (is_struct {ts = ts}) b e = even-sound t b (struct-odd ts (length (kids ts)) b refl) e

-- ---- a fault's number is small

near-code : {A : Type 0} (n : ℕ) (m : Read A) → Near n m → code m ≤ n + 2
unfolding code
near-code n (got a) c = omega arith
near-code n (fault slot) c = omega arith
near-code n (fault (byte i)) (faulty p h) = omega arith

pub fault-small : (t : Ty) (b : List ℕ) (r : ℕ) → r ≡ fault_of t b → length b ≤ 16384 → r ≤ 16386
unfolding fault_of
fault-small t b r e h = omega (arith, near-code (length b) ((codec t).get b) (codec-near t b))

-- what telling a child's fault asks for
pub child-asks : (t : Ty) (p : List ℕ) {r j o : ℕ} → r ≡ fault_of t p → (r ≡ 0 → ⊥) → length p ≤ 16384 → j ≤ 16384 → o ≤ 16384
    → (1 ≤ r) × (r ≤ 65536) × (j ≤ 65536) × (o ≤ 65536)
child-asks t p {r} e ne l hj ho = let s = fault-small t p r e l in (omega arith, omega arith, omega arith, omega arith)
