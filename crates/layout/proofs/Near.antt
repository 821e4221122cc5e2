-- The place of a fault is a byte of the value, or its slot. Assumes nothing.
use mathlib.Core.Path.{◌≡◌, refl}
use mathlib.Core.Option.{Option, none, some}
use mathlib.Core.List.{List, [], ◌∷◌}
use Prim.Native.Nat.{ℕ, zero, suc, ◌+◌, ◌*◌, ◌-◌, ◌/◌, ◌%◌, ◌^◌, ◌≤◌}
use native.Mathlib.Decide.{dec_le, dec_lt, ℕ_discrete}
use native.Mathlib.Omega.{arith}
use lib.ListN.{length, replicate, take, drop, length-take, length-drop}
use Rattle.words.specs.Bytes.{num, pad, bitmap, zeros_ahead, past_byte}
use Rattle.words.proofs.FirstSet.{ahead-most, past-most}
use Rattle.schema.specs.Types.{width, Text, Ty, fix, text, li, ma, ro, Tys, end, ◌then◌}
use Rattle.layout.specs.Faults.{Place, slot, byte, Read, fault, got, ◌>>=◌, ◌>>◌, assert_at, cut_at, seen_from, within}
use Rattle.layout.specs.Tiles.{Range, range, total, stands?}
use Rattle.layout.specs.Cells.{parts}
use Rattle.layout.specs.Layout.{Codec, Kid, spells?, number, string, inside, outside, kid_of, kid, slot_of, kid_get, reads, front, body_get}
use Rattle.layout.specs.Layout.{struct, array, pair}
use Rattle.layout.specs.Layout.{list, limit, codec, kids}
use Rattle.layout.proofs.Faults.{When, yields, when-then, when-assert}

-- a place in a value of n bytes
abbrev pub InBytes : ℕ → Place → Type 0
InBytes n slot = Unit {0}
InBytes n (byte i) = i ≤ n

-- a reading that meets a fault in n bytes, if any
pub data Near {A : Type 0} (n : ℕ) : Read A → Type 0 where
  sound : {a : A} → Near n (got a)
  faulty : (p : Place) → InBytes n p → Near n (fault p)

near-bind : {A B : Type 0} {n : ℕ} {Q : A → Type 0} (m : Read A) {f : A → Read B} → Near n m → When Q m → ((a : A) → Q a → Near n (f a)) → Near n (m >>= f)
near-bind (got a) c (yields q) k = k a q
near-bind (fault p) (faulty q h) w k = faulty p h

near_on : {A B : Type 0} {n : ℕ} (m : Read A) {f : A → Read B} → Near n m → ((a : A) → Near n (f a)) → Near n (m >>= f)
near_on (got a) c k = k a
near_on (fault p) (faulty q h) k = faulty p h

near-assert : {P B : Type 0} {n : ℕ} (p : Place) (d : Dec P) {m : Read B} → InBytes n p → (P → Near n m) → Near n (assert_at p d >> m)
unfolding assert_at
near-assert p (yes h) f k = k h
near-assert p (no h) f k = faulty p f

seen-near : (n N j o : ℕ) (p : Place) → j ≤ N → o + n ≤ N → InBytes n p → InBytes N (seen_from j o p)
unfolding seen_from
seen-near n N j o slot h l k = h
seen-near n N j o (byte i) h l k = omega arith

near_within : {A : Type 0} {n : ℕ} (N j o : ℕ) {m : Read A} → j ≤ N → o + n ≤ N → Near n m → Near N (within j o m)
unfolding within
near_within N j o h l sound = sound
near_within {n = n} N j o h l (faulty p k) = faulty (seen_from j o p) (seen-near n N j o p h l k)

-- the sizes of a cut
record Sizes (n : ℕ) (b : List ℕ) (p : List ℕ × List ℕ) : Type 0 where
  first : length p.0 ≡ n
  whole : n + length p.1 ≡ length b

cut-sizes : (p : Place) (n : ℕ) (b : List ℕ) → When (Sizes n b) (cut_at p n b)
unfolding cut_at
cut-sizes p n b =
    when-then (when-assert p (dec_le n (length b))) λ _ l. yields {a = (take n b, drop n b)}
    (record { first = rw length-take (omega arith); whole = rw length-drop (omega arith) })

cut-near : {n : ℕ} (p : Place) (k : ℕ) (b : List ℕ) → InBytes n p → Near n (cut_at p k b)
unfolding cut_at
cut-near p k b h = near-assert p (dec_le k (length b)) h λ _. sound

-- ---- leaves and children

abbrev pub NearCodec : Codec → Type 0
NearCodec c = (b : List ℕ) → Near (length b) (c.get b)

-- a child, whose slot stands before the variable data
abbrev pub NearKid : ℕ → Kid → Type 0
NearKid w k = (j at : ℕ) (d : List ℕ) (rs : List Range) (s : List ℕ) → length s ≡ w → j + w ≤ at → Near (at + length d) (k.get j at d rs s)

number-near : (w m : ℕ) → NearCodec (number w m)
unfolding number
number-near w m b = near-assert (byte 0) (ℕ_discrete (length b) w) (omega arith) λ _. near-assert (byte 0) (dec_lt (num b) m) (omega arith) λ _. sound

string-near : (t : Text) → NearCodec (string t)
unfolding string
string-near t b = near-assert slot (spells? t b) tt λ _. sound

inside-near : (w v : ℕ) (c : Codec) → NearCodec c → NearKid w (inside w v c)
unfolding inside
inside-near w v c l j at d rs s n h =
    near-bind (cut_at (byte j) v s) (cut-near (byte j) v s (omega arith)) (cut-sizes (byte j) v s) λ (u, z) q.
    near_on (within j j (c.get u)) (near_within (at + length d) j j (omega arith) (omega (arith, q.first, q.whole)) (l u)) λ x.
    near-assert (byte (j + v + zeros_ahead z)) (ℕ_discrete (num z) 0) (omega (arith, q.whole, ahead-most z)) λ _. sound

outside-near : (c : Codec) → NearCodec c → NearKid 8 (outside c)
unfolding outside
outside-near c l j at d rs s n h =
    let o = num s / 2 ^ 32 in
    let m = num s % 2 ^ 32 in
    near-assert (byte j) (stands? at (at + length d) rs (range o (pad m))) (omega arith) λ g.
    near-bind (cut_at (byte j) m (drop (o - at) d)) (cut-near (byte j) m (drop (o - at) d) (omega arith)) (cut-sizes (byte j) m (drop (o - at) d)) λ (u, r) q.
    near_on (within j o (c.get u)) (near_within (at + length d) j o (omega arith) (omega (arith, q.first, g.high)) (l u)) λ x.
    near-bind (cut_at (byte j) (pad m - m) r) (cut-near (byte j) (pad m - m) r (omega arith)) (cut-sizes (byte j) (pad m - m) r) λ (z, r') t.
    near-assert (byte (o + m + zeros_ahead z)) (ℕ_discrete (num z) 0) (omega (arith, t.first, g.high, ahead-most z)) λ _. sound

kid-near : (w : ℕ) (o : Option ℕ) (c : Codec) → (o ≡ none → w ≡ 8) → NearCodec c → NearKid w (kid_of w o c)
unfolding kid_of
kid-near w none c e l j at d rs s n h = outside-near c l j at d rs s (omega (arith, e refl)) (omega (arith, e refl))
kid-near w (some v) c e l j at d rs s n h = inside-near w v c l j at d rs s n h

get-near : (w : ℕ) (k : Kid) → NearKid w k → (m j at : ℕ) (d : List ℕ) (rs : List Range) (s : List ℕ) → length s ≡ w → j + w ≤ at
    → Near (at + length d) (kid_get k m j at d rs s)
unfolding kid_get
get-near w k l zero j at d rs s n h = l j at d rs s n h
get-near w k l (suc m) j at d rs s n h = sound

abbrev AllNear : ℕ → List Kid → Type 0
AllNear w [] = Unit {0}
AllNear w (k ∷ ks) = NearKid w k × AllNear w ks

reads-near : (w at : ℕ) (d : List ℕ) (ks : List Kid) (j m : ℕ) (s : List ℕ) (rs : List Range) → AllNear w ks → length s ≡ length ks * w
    → j + length ks * w ≤ at → Near (at + length d) (reads w at d ks j m s rs)
unfolding reads
reads-near w at d [] j m s rs l n h = sound
reads-near w at d (k ∷ ks) j m s rs l n h =
    near-bind (cut_at (byte j) w s) (cut-near (byte j) w s (omega arith)) (cut-sizes (byte j) w s) λ (s₀, left) q.
    near_on (kid_get k (m % 2) j at d rs s₀) (get-near w k l.0 (m % 2) j at d rs s₀ q.first (omega arith)) λ (c, ranges).
    near_on (reads w at d ks (j + w) (m / 2) left ranges) (reads-near w at d ks (j + w) (m / 2) left ranges l.1 (omega (arith, q.whole)) (omega arith))
    λ (cs, rs'). sound

-- ---- containers

body_near : (short : Place) (h w : ℕ) (ks : List Kid) (b : List ℕ) → AllNear w ks → InBytes (h + length b) short → Near (h + length b) (body_get short h w ks b)
unfolding body_get
body_near short h w ks b l f =
    let n = length ks in
    near-bind (cut_at short (bitmap n) b) (cut-near short (bitmap n) b f) (cut-sizes short (bitmap n) b) λ (m, r) p.
    near-bind (cut_at short (n * w) r) (cut-near short (n * w) r f) (cut-sizes short (n * w) r) λ (s, r') q.
    near-bind (cut_at short (pad (n * w) - n * w) r') (cut-near short (pad (n * w) - n * w) r' f) (cut-sizes short (pad (n * w) - n * w) r') λ (z, d) t.
    let e : front h w n + length d ≡ h + length b = omega (arith, p.whole, q.whole, t.whole) in
    near-assert (byte (h + past_byte n m)) (dec_lt (num m) (2 ^ n)) (omega (arith, p.first, p.whole, past-most n m (omega (arith, p.first)))) λ _.
    near_on (reads w (front h w n) d ks (h + bitmap n) (num m) s [])
    (rw e at (reads-near w (front h w n) d ks (h + bitmap n) (num m) s [] l q.first (omega arith))) λ (cs, rs).
    near-assert (byte (h + bitmap n + n * w + zeros_ahead z)) (ℕ_discrete (num z) 0) (omega (arith, p.whole, q.whole, t.first, t.whole, ahead-most z)) λ _.
    near-assert slot (ℕ_discrete (total rs) (length d)) tt λ _. sound

struct-near : (ks : List Kid) → AllNear 8 ks → NearCodec (struct ks)
unfolding struct
struct-near ks l b =
    let o : 0 + length b ≡ length b = omega arith in
    near-assert slot (ℕ_discrete (length b % 8) 0) tt λ _. near_on (body_get slot 0 8 ks b) (rw o at (body_near slot 0 8 ks b l tt)) λ cs. sound

repeat-near : (w n : ℕ) (k : Kid) → NearKid w k → AllNear w (replicate n k)
repeat-near w zero k l = tt
repeat-near w (suc n) k l = (l, repeat-near w n k l)

array-near : (w : ℕ) (k : Kid) → NearKid w k → NearCodec (array w k)
unfolding array
array-near w k l b = near-assert slot (ℕ_discrete (length b % 8) 0) tt λ _.
    near-bind (cut_at slot 8 b) (cut-near slot 8 b tt) (cut-sizes slot 8 b) λ (h, r) q.
    near_on (body_get (byte 0) 8 w (replicate (num h) k) r)
    (rw q.whole at (body_near (byte 0) 8 w (replicate (num h) k) r (repeat-near w (num h) k l) (omega arith))) λ cs. sound

pair-near : (k v : Codec) → NearCodec k → NearCodec v → NearCodec (pair k v)
unfolding pair
pair-near k v lk lv b = near-assert slot (ℕ_discrete (length b % 8) 0) tt λ _.
    near-bind (cut_at slot 8 b) (cut-near slot 8 b tt) (cut-sizes slot 8 b) λ (h, r) s.
    near-assert (byte 0) (ℕ_discrete (num h % 8) 0) (omega arith) λ _.
    near-bind (cut_at (byte 0) (num h) r) (cut-near (byte 0) (num h) r (omega arith)) (cut-sizes (byte 0) (num h) r) λ (p, q) t.
    near_on (within 8 8 (k.get p)) (near_within (length b) 8 8 (omega (arith, s.whole)) (omega (arith, s.whole, t.first, t.whole)) (lk p)) λ ks.
    near-assert (byte (8 + num h)) (ℕ_discrete (num (take 8 q)) (length (parts ks))) (omega (arith, s.whole, t.whole)) λ _.
    near_on (within (8 + num h) (8 + num h) (v.get q))
    (near_within (length b) (8 + num h) (8 + num h) (omega (arith, s.whole, t.whole)) (omega (arith, s.whole, t.whole)) (lv q)) λ vs. sound

slot-none : (o : Option ℕ) → o ≡ none → slot_of o ≡ 8
unfolding slot_of
slot-none o e = rw e

list-near : (c : Codec) → NearCodec c → NearCodec (list c)
list-near c l = array-near (slot_of c.wide) (kid (slot_of c.wide) c) (kid-near (slot_of c.wide) c.wide c (slot-none c.wide) l)

mutual
  unfolding codec

  -- of every type
  pub codec-near : (t : Ty) → NearCodec (codec t)
  codec-near (fix f) b = number-near (width f) (limit f) b
  codec-near (text t) b = string-near t b
  codec-near (li t) b = list-near (codec t) (λ b. codec-near t b) b
  codec-near (ma k v) b = pair-near (list (codec k)) (list (codec v)) (list-near (codec k) (λ b. codec-near k b)) (list-near (codec v) (λ b. codec-near v b)) b
  codec-near (ro ts) b = struct-near (kids ts) (kids-near ts) b

  kids-near : (ts : Tys) → AllNear 8 (kids ts)
  kids-near end = tt
  kids-near (t then ts) = (kid-near 8 (codec t).wide (codec t) (λ e. refl) (λ b. codec-near t b), kids-near ts)
