-- A child of a container as its bit and its slot show it. Assumes nothing.
use mathlib.Core.Path.{◌≡◌, refl, sym, ap, ◌∙◌, subst}
use mathlib.Core.Bool.{Bool, true, false, cond}
use mathlib.Core.Option.{Option, none, some}
use mathlib.Core.List.{List, [], ◌++◌}
use Prim.Native.Nat.{ℕ, zero, suc, ◌+◌, ◌*◌, ◌/◌, ◌%◌, ◌^◌, ◌≤◌, ◌<◌}
use native.Mathlib.Decide.{dec_le, dec_lt, ℕ_discrete}
use native.Mathlib.Omega.{arith}
use lib.ListN.{length, length-take, length-drop}
use borrow.Author.Tests.{eqb-true, eqb-false}
use Rattle.words.specs.Bytes.{Bytes, num, bitmap, part}
use Rattle.words.specs.Bits.{bit_of, bit}
use Rattle.words.proofs.BitLaws.{bit-num}
use Rattle.words.proofs.Parts.{bytes-part}
use Rattle.schema.specs.Types.{Ty, mark}
use Rattle.layout.specs.Cells.{Cell, null, leaf, nodes, on_null, flag, part_of}
use Rattle.layout.specs.Layout.{front, codec, Lays}
use Rattle.layout.specs.Listing.{nu, script}
use Rattle.layout.specs.Refusals.{numbered, broken_at}
use Rattle.layout.specs.Walk.{Seat, Step, stop, to_null, into, must_step, by_slot, by_flag, seat_of, child}
use Rattle.layout.proofs.Cells.{present}
use Rattle.layout.proofs.Stepped as Stepped
use Rattle.layout.proofs.Stepped.{Comes}
use Rattle.listing.specs.Lines.{own_bytes, own_lines, child_lines}
use Rattle.listing.specs.Room.{Within, Own}
use Rattle.listing.proofs.Held.{holds-lays, lines_of}

-- ---- what a step shows of the child it comes to

abbrev tag : Step → ℕ
tag (stop (numbered n)) = n
tag (stop (broken_at q)) = 7
tag (to_null s) = 0
tag (into t s o u) = 1

abbrev own : Step → List ℕ
own (stop n) = []
own (to_null s) = []
own (into t s o u) = u

-- it is there, and u are its bytes
record Shown (t : Ty) (x : Cell) (u : List ℕ) : Type 0 where
  here : flag x ≡ 0
  lays : Lays t x u

-- a rule that a step must keep is kept, and what follows it is come to
record Kept (P : Type 0) (Q : Type 0) : Type 0 where
  holds : P
  comes : Q

module _ (T t : Ty) (c : Cell) (i o : ℕ) (b : List ℕ) where
  -- a step over bytes that stand for contents is nowhere broken
  unbroken : (r : Step) (q : ℕ) → Comes T t c i o b r → r ≡ stop (broken_at q) → ⊥
  unbroken r q (Stepped.past h) e = omega (arith, ap tag e)
  unbroken r q (Stepped.missing k f z) e = omega (arith, ap tag e)
  unbroken r q (Stepped.on k f h z) e = omega (arith, ap tag e)

  nulled : (r : Step) (s : Seat) → Comes T t c i o b r → r ≡ to_null s → flag (part_of i c) ≡ 1
  nulled r s (Stepped.past h) e = absurd (let z : ◌≡◌ {A = ℕ} 0 1 = cc in omega arith)
  nulled r s (Stepped.missing k f q) e = f
  nulled r s (Stepped.on k f h q) e = absurd (let z : ◌≡◌ {A = ℕ} 0 1 = cc in omega arith)

  shown : (r : Step) (s : Seat) (p : ℕ) (u : List ℕ) → Comes T t c i o b r → r ≡ into t s p u → Shown t (part_of i c) u
  shown r s p u (Stepped.past h) e = absurd (let z : ◌≡◌ {A = ℕ} 0 1 = cc in omega arith)
  shown r s p u (Stepped.missing k f q) e = absurd (let z : ◌≡◌ {A = ℕ} 0 1 = cc in omega arith)
  shown r s p u (Stepped.on k f h q) e = record { here = f; lays = subst (λ (v : List ℕ). Lays t (part_of i c) v) (ap own e) h.lays }

  kept : (P : Type 0) (d : Dec P) (j : ℕ) (r : Step) → Comes T t c i o b (must_step d (broken_at j) r) → Kept P (Comes T t c i o b r)
  unfolding must_step
  kept P (yes p) j r y = record { holds = p; comes = y }
  kept P (no q) j r y = absurd (unbroken (stop (broken_at j)) j y refl)

-- ---- child i of n, in slots of w bytes behind a header of h

-- a child that is not null: its bytes lie in b, and stand for it
pub record There (t : Ty) (x : Cell) (b : List ℕ) (slot : ℕ) : Type 0 where
  pub here : flag x ≡ 0
  pub own : Own t b slot
  pub lays : Lays t x (own_bytes (codec t).wide b slot)

-- the same, by the width that its type has
record As (wd : Option ℕ) (t : Ty) (x : Cell) (b : List ℕ) (slot : ℕ) : Type 0 where
  within : Within wd b slot
  bytes : Bytes (own_bytes wd b slot)
  small : length (own_bytes wd b slot) ≤ 16384
  shown : Shown t x (own_bytes wd b slot)

missing : {A : Type 0} (a u : A) (x : Cell) → flag x ≡ 1 → on_null (λ _. u) a x ≡ u
unfolding on_null
missing a u (null z) e = refl
missing a u (leaf z) e = absurd (omega arith)
missing a u (nodes z) e = absurd (omega arith)

module _ (T t : Ty) (c : Cell) (h w n i : ℕ) (b : List ℕ) (k : i < n) (hb : Bytes b) (l : length b ≤ 16384)
    (y : Comes T t c i 0 b (child h w n t i 0 b)) where
  abbrev slot : ℕ
  slot = h + (bitmap n + i * w)

  abbrev seat : Seat
  seat = seat_of h w n i 0

  abbrev bit₀ : ℕ
  bit₀ = num (part b h (bitmap n)) / 2 ^ i % 2

  abbrev stepped : Step
  stepped = by_flag bit₀ seat (by_slot (codec t).wide t seat (front h w n) 0 slot b)

  by_bit : Comes T t c i 0 b stepped
  unfolding child must_step
  by_bit = go (dec_lt i n) y
    where
      go : (d : Dec (i < n)) → Comes T t c i 0 b (must_step d (numbered 5) stepped) → Comes T t c i 0 b stepped
      go (yes p) z = z
      go (no q) z = absurd (q k)

  bit_is : bit_of (num (part b h (bitmap n))) i ≡ bit b h i
  bit_is = bit-num h (bitmap n) i hb (omega arith)

  null-child : bit b h i ≡ true → flag (part_of i c) ≡ 1
  unfolding by_flag
  null-child e = nulled T t c i 0 b _ seat by_bit (rw (eqb-true bit₀ 1 (bit_is ∙ e)))

  small-part : (j m : ℕ) → length (part b j m) ≤ 16384
  small-part j m = rw (length-take, length-drop) (omega arith)

  by-slot : (wd : Option ℕ) → Comes T t c i 0 b (by_slot wd t seat (front h w n) 0 slot b) → As wd t (part_of i c) b slot
  unfolding by_slot own_bytes
  by-slot (some v) z = record {
    within = tt;
    bytes = bytes-part slot v hb;
    small = small-part slot v;
    shown = shown T t c i 0 b _ seat _ (part b slot v) z refl;
  }
  by-slot none z =
      let x = num (part b slot 8) in
      let z₁ = kept T t c i 0 b _ (dec_le (front h w n) (x / 2 ^ 32)) seat.slot _ z in
      let z₂ = kept T t c i 0 b _ (ℕ_discrete (x / 2 ^ 32 % 8) 0) seat.slot _ z₁.comes in
      let z₃ = kept T t c i 0 b _ (dec_le (x / 2 ^ 32 + x % 2 ^ 32) (length b)) seat.slot _ z₂.comes in
      record {
        within = z₃.holds;
        bytes = bytes-part (x / 2 ^ 32) (x % 2 ^ 32) hb;
        small = small-part (x / 2 ^ 32) (x % 2 ^ 32);
        shown = shown T t c i 0 b _ seat _ (part b (x / 2 ^ 32) (x % 2 ^ 32)) z₃.comes refl;
      }

  zero_bit : bit b h i ≡ false → bit₀ ≡ 0
  zero_bit e = go bit₀ (omega arith) (eqb-false bit₀ 1 (bit_is ∙ e))
    where
      go : (x : ℕ) → x < 2 → (x ≡ 1 → ⊥) → x ≡ 0
      go zero q m = refl
      go (suc x) q m = absurd (m (omega arith))

  pub there-child : bit b h i ≡ false → There t (part_of i c) b slot
  unfolding by_flag
  there-child e =
      let a = by-slot (codec t).wide (rw (zero_bit e) at by_bit) in
      record {
        here = a.shown.here;
        own = record { within = a.within; holds = holds-lays t (part_of i c) _ a.bytes a.small a.shown.lays };
        lays = a.shown.lays;
      }

  -- what it lists
  pub lines-child : on_null (λ _. nu) (mark t ++ (script t).put (part_of i c)) (part_of i c) ≡ child_lines t b h i slot
  unfolding child_lines own_lines
  lines-child = go (bit b h i) refl
    where
      go : (v : Bool) → bit b h i ≡ v
          → on_null (λ _. nu) (mark t ++ (script t).put (part_of i c)) (part_of i c) ≡ cond v nu (own_lines t b slot)
      go true e = missing _ nu (part_of i c) (null-child e)
      go false e =
          let a = there-child e in
          present _ _ (part_of i c) a.here ∙ sym (lines_of t (part_of i c) _ a.lays a.own.holds.small)
