-- Text put piece by piece: numbers digit by digit, bytes one by one, a path step by step. Assumes nothing.
use mathlib.Core.Path.{◌≡◌, refl, sym, ap, ap₂, ◌∙◌}
use mathlib.Core.Bool.{true, false, true≢false}
use mathlib.Core.List.{List, [], ◌∷◌, ◌++◌, append_assoc, append-nil}
use Prim.Native.Nat.{ℕ, zero, suc, ◌+◌, ◌*◌, ◌-◌, ◌/◌, ◌%◌, ◌≤◌, ◌<◌}
use native.Mathlib.Omega.{arith}
use native.Mathlib.Numerals.{add-one}
use lib.Bits.{bit_and}
use lib.IntN.{ℤ, pos, negsuc}
use lib.Signed.{mag}
use lib.ListN.{length, take, drop, get_or, length-append}
use lib.Seq.{sets, sets-eq, take-suc, take_all, drop-drop, length-take-le, drop-append-le}
use borrow.Rule.Slice.PartMut.{put_mid}
use borrow.Author.Tests.{lt-ltb, le-ltb}
use Rattle.io.specs.Digits.{hex_digit_ascii}
use Rattle.words.specs.Bytes.{part}
use Rattle.words.specs.Signed.{is_negative}
use Rattle.words.proofs.Powers.{mask_is}
use Rattle.words.proofs.Runs.{sets_then}
use Rattle.words.proofs.Parts.{length_part}
use Rattle.lettering.specs.Text.{hex, decimal_in, decimal, signed, hexes, bytes, dotted, path, Puts}
use Rattle.lettering.specs.Held.{Spilt, Walked}

-- ---- pieces

pub puts_none : (out : List ℕ) (at : ℕ) → Puts out at [] at out
puts_none out at = record { bytes = refl; next = omega arith }

-- one text behind another
pub puts_then : {a b c u v : List ℕ} {at m r : ℕ} → Puts a at u m b → Puts b m v r c → Puts a at (u ++ v) r c
puts_then {a} {b} {c} {u} {v} {at} {m} {r} p q =
    record {
      bytes = q.bytes ∙ ap (λ (l : List ℕ). sets l m v) p.bytes ∙ sets_then a at m u v p.next;
      next = q.next ∙ rw (p.next, length-append u v) (omega arith);
    }

-- the same text under another name
pub puts-as : {a b u v : List ℕ} {at r : ℕ} → u ≡ v → Puts a at u r b → Puts a at v r b
puts-as e p = rw e at p

-- ---- numbers

pub less_one : (k : ℕ) → suc k - 1 ≡ k
less_one k = omega arith

hex-digit : (k n : ℕ) → (k ≡ 0 → ⊥) → hex (k - 1) (n / 16) ++ (hex_digit_ascii (n % 16) ∷ []) ≡ hex k n
unfolding hex
hex-digit zero n h = absurd (h refl)
hex-digit (suc k) n h = rw (less_one k)

pub hex-none : (out : List ℕ) (at k n : ℕ) → k ≡ 0 → Puts out at (hex k n) at out
unfolding hex
hex-none out at k n e = rw e (puts_none out at)

pub hex-more : {a b c : List ℕ} {at m r : ℕ} (k n d : ℕ) → (k ≡ 0 → ⊥) → d ≡ hex_digit_ascii (bit_and n 15) → Puts a at (hex (k - 1) (n / 16)) m b
    → Puts b m (d ∷ []) r c → Puts a at (hex k n) r c
hex-more k n d h e p q =
    puts-as (ap (λ (x : ℕ). hex (k - 1) (n / 16) ++ (x ∷ [])) (e ∙ ap hex_digit_ascii (mask_is n 4)) ∙ hex-digit k n h) (puts_then p q)

-- what a tenth leaves is the last digit
pub last-digit : (n q : ℕ) → q ≡ n / 10 → n - 10 * q ≡ n % 10
last-digit n q e = omega arith

decimal-first : (k n : ℕ) → (k ≡ 0 → ⊥) → n < 10 → hex_digit_ascii n ∷ [] ≡ decimal_in k n
unfolding decimal_in
decimal-first zero n h l = absurd (h refl)
decimal-first (suc k) n h l = rw (lt-ltb n 10 l)

decimal_digit : (k n : ℕ) → (k ≡ 0 → ⊥) → 10 ≤ n → decimal_in (k - 1) (n / 10) ++ (hex_digit_ascii (n % 10) ∷ []) ≡ decimal_in k n
unfolding decimal_in
decimal_digit zero n h l = absurd (h refl)
decimal_digit (suc k) n h l = rw (less_one k, le-ltb n 10 l)

pub decimal-none : (out : List ℕ) (at k n : ℕ) → k ≡ 0 → Puts out at (decimal_in k n) at out
unfolding decimal_in
decimal-none out at k n e = rw e (puts_none out at)

pub decimal-one : {a b : List ℕ} {at r : ℕ} (k n d : ℕ) → (k ≡ 0 → ⊥) → n < 10 → d ≡ hex_digit_ascii n → Puts a at (d ∷ []) r b → Puts a at (decimal_in k n) r b
decimal-one k n d h l e p = puts-as (ap (λ (x : ℕ). x ∷ []) e ∙ decimal-first k n h l) p

pub decimal-more : {a b c : List ℕ} {at m r : ℕ} (k n q d : ℕ) → (k ≡ 0 → ⊥) → 10 ≤ n → q ≡ n / 10 → d ≡ hex_digit_ascii (n - 10 * q)
    → Puts a at (decimal_in (k - 1) q) m b → Puts b m (d ∷ []) r c → Puts a at (decimal_in k n) r c
decimal-more k n q d h l t e p s =
    puts-as (ap₂ (λ (x y : ℕ). decimal_in (k - 1) x ++ (y ∷ [])) t (e ∙ ap hex_digit_ascii (last-digit n q t)) ∙ decimal_digit k n h l) (puts_then p s)

pub decimal-whole : {a b : List ℕ} {at r : ℕ} (n : ℕ) → Puts a at (decimal_in 20 n) r b → Puts a at (decimal n) r b
unfolding decimal
decimal-whole n p = p

signed_above : (z : ℤ) (m : ℕ) → is_negative z ≡ false → m ≡ mag z → decimal m ≡ signed z
unfolding signed
signed_above (pos n) m h e = ap decimal e
signed_above (negsuc n) m h e = absurd (true≢false h)

signed-under : (z : ℤ) (m : ℕ) → is_negative z ≡ true → m ≡ mag z → (45 ∷ []) ++ decimal (m + 1) ≡ signed z
unfolding signed
signed-under (pos n) m h e = absurd (true≢false (sym h))
signed-under (negsuc n) m h e = ap (λ (k : ℕ). 45 ∷ decimal k) (add-one m ∙ ap suc e)

pub signed-plain : {a b : List ℕ} {at r : ℕ} (z : ℤ) (m : ℕ) → is_negative z ≡ false → m ≡ mag z → Puts a at (decimal m) r b → Puts a at (signed z) r b
signed-plain z m h e p = puts-as (signed_above z m h e) p

pub signed-minus : {a b c : List ℕ} {at k r : ℕ} (z : ℤ) (m : ℕ) → is_negative z ≡ true → m ≡ mag z → Puts a at (45 ∷ []) k b
    → Puts b k (decimal (m + 1)) r c → Puts a at (signed z) r c
signed-minus z m h e p q = puts-as (signed-under z m h e) (puts_then p q)

-- ---- bytes

-- those lent out of a row
pub run-is : (row : List ℕ) (i n : ℕ) → take (i + n - i) (drop i row) ≡ part row i n
run-is row i n = ap (λ (k : ℕ). take k (drop i row)) (omega arith)

pub run-long : (row : List ℕ) (i n : ℕ) → i + n ≤ length row → length (take (i + n - i) (drop i row)) ≡ n
run-long row i n h = ap length (run-is row i n) ∙ length_part row i n h

hexes-append : (xs ys : List ℕ) → hexes (xs ++ ys) ≡ hexes xs ++ hexes ys
unfolding hexes
hexes-append [] ys = refl
hexes-append (x ∷ xs) ys = rw (hexes-append xs ys, append_assoc)

hexes-one : (b : ℕ) → hexes (b ∷ []) ≡ hex 2 b
unfolding hexes
hexes-one b = append-nil (hex 2 b)

pub hexes-none : (out bytes : List ℕ) (at : ℕ) → Puts out at (hexes (take 0 bytes)) at out
unfolding hexes
hexes-none out bytes at = puts_none out at

pub hexes-more : {a b c : List ℕ} {at m r : ℕ} (bytes : List ℕ) (i x : ℕ) → i < length bytes → x ≡ get_or bytes i 0
    → Puts a at (hexes (take i bytes)) m b → Puts b m (hex 2 x) r c → Puts a at (hexes (take (i + 1) bytes)) r c
hexes-more bytes i x h e p q =
    puts-as (ap (λ (y : ℕ). hexes (take i bytes) ++ hex 2 y) e
    ∙ ap (λ (l : List ℕ). hexes (take i bytes) ++ l) (sym (hexes-one (get_or bytes i 0)))
    ∙ sym (hexes-append (take i bytes) (get_or bytes i 0 ∷ []))
    ∙ ap hexes (sym (take-suc bytes i 0 h))
    ∙ ap (λ (n : ℕ). hexes (take n bytes)) (sym (add-one i)))
    (puts_then p q)

bytes-some : (l : List ℕ) → 0 < length l → hexes l ≡ bytes l
unfolding bytes
bytes-some [] h = absurd (omega arith)
bytes-some (b ∷ bs) h = refl

pub bytes-none : {a b : List ℕ} {at r : ℕ} (row : List ℕ) (start n : ℕ) → n ≡ 0 → Puts a at (45 ∷ []) r b → Puts a at (bytes (part row start n)) r b
unfolding bytes
bytes-none row start n e p = rw e p

pub bytes-all : {a b : List ℕ} {at r : ℕ} (row : List ℕ) (start n i : ℕ) → (n ≡ 0 → ⊥) → start + n ≤ length row
    → length (take (start + n - start) (drop start row)) ≤ i → Puts a at (hexes (take i (take (start + n - start) (drop start row)))) r b
    → Puts a at (bytes (part row start n)) r b
bytes-all row start n i z h l p =
    puts-as (ap hexes (take_all i (take (start + n - start) (drop start row)) l ∙ run-is row start n)
    ∙ bytes-some (part row start n) (rw (length_part row start n h) (omega (arith, z))))
    p

-- ---- a path

dotted-append : (xs ys : List ℕ) → dotted (xs ++ ys) ≡ dotted xs ++ dotted ys
unfolding dotted
dotted-append [] ys = refl
dotted-append (x ∷ xs) ys = rw (dotted-append xs ys, append_assoc)

pub path-none : (out : List ℕ) (at : ℕ) (p : List ℕ) → length p ≡ 0 → Puts out at (path p) at out
unfolding path
path-none out at [] h = puts_none out at
path-none out at (x ∷ p) h = absurd (omega arith)

-- the steps behind the first, as far as the k-th
pub steps-none : (out : List ℕ) (at : ℕ) (p : List ℕ) → Puts out at (dotted (drop 1 (take 1 p))) at out
unfolding dotted
steps-none out at [] = puts_none out at
steps-none out at (i ∷ p) = puts_none out at

pub steps-more : {a b c : List ℕ} {at m r : ℕ} (p : List ℕ) (k i : ℕ) → 0 < k → k < length p → i ≡ get_or p k 0 → Puts a at (dotted (drop 1 (take k p))) m b
    → Puts b m (46 ∷ decimal i) r c → Puts a at (dotted (drop 1 (take (k + 1) p))) r c
unfolding dotted
steps-more p k i z h e q s =
    let l : length (take k p) ≡ k = length-take-le k p (omega arith) in
    let x = get_or p k 0 in
    puts-as (ap (λ (j : ℕ). dotted (drop 1 (take k p)) ++ (46 ∷ decimal j)) e
    ∙ ap (λ (t : List ℕ). dotted (drop 1 (take k p)) ++ t) (sym (append-nil (46 ∷ decimal x)))
    ∙ sym (dotted-append (drop 1 (take k p)) (x ∷ []))
    ∙ ap dotted (sym (drop-append-le 1 (take k p) (x ∷ []) (rw l z)))
    ∙ ap (λ (t : List ℕ). dotted (drop 1 t)) (sym (take-suc p k 0 h))
    ∙ ap (λ (j : ℕ). dotted (drop 1 (take j p))) (sym (add-one k)))
    (puts_then q s)

by-steps : (p : List ℕ) → 0 < length p → decimal (get_or p 0 0) ++ dotted (drop 1 p) ≡ path p
unfolding path
by-steps [] h = absurd (omega arith)
by-steps (i ∷ p) h = refl

pub path-all : {a b c : List ℕ} {at m r : ℕ} (p : List ℕ) (k i : ℕ) → 0 < length p → length p ≤ k → i ≡ get_or p 0 0 → Puts a at (decimal i) m b
    → Puts b m (dotted (drop 1 (take k p))) r c → Puts a at (path p) r c
path-all p k i z h e q s =
    puts-as (ap (λ (j : ℕ). decimal j ++ dotted (drop 1 (take k p))) e
    ∙ ap (λ (t : List ℕ). decimal (get_or p 0 0) ++ dotted (drop 1 t)) (take_all k p h)
    ∙ by-steps p z)
    (puts_then q s)

-- ---- a run of bytes lent and written whole

put_mid-sets : (b v : List ℕ) (at k : ℕ) → length v ≡ k → at + k ≤ length b → put_mid at k b v ≡ sets b at v
put_mid-sets b v at k e h =
    sym (append_assoc (take at b) v _) ∙ ap (λ (t : List ℕ). take at b ++ v ++ t) (drop-drop k at b ∙ ap (λ (n : ℕ). drop (at + n) b) (sym e))
    ∙ sym (sets-eq v b at (omega arith))

pub puts_mid : {out u : List ℕ} (at n : ℕ) → length u ≡ n → at + n ≤ length out → Puts out at u (at + n) (put_mid at (at + n - at) out u)
puts_mid {out} {u} at n e room = record { bytes = put_mid-sets out u at (at + n - at) (omega (arith, e)) (omega arith); next = omega (arith, e) }

pub puts_whole : {out u : List ℕ} (w : List ℕ) (at : ℕ) → u ≡ w → at + length w ≤ length out
    → Puts out at w (at + length w) (put_mid at (at + length w - at) out u)
puts_whole w at e room = puts-as e (puts_mid at (length w) (ap length e) room)

-- ---- text that is held

pub at-used : {out out' text : List ℕ} {used at r : ℕ} → Spilt used at → used ≤ 229000 → Puts out at text r out' → Puts out used text r out'
at-used S l q = rw (S.held l) at q

-- the same text under another name
pub walked_as : {u v out out' : List ℕ} {used r : ℕ} → u ≡ v → Walked u out used r out' → Walked v out used r out'
walked_as e w = rw e at w
