-- A child by its bit and its slot, as the code of `pointed` and `child` finds it. Assumes nothing.
use mathlib.Core.Path.{◌≡◌, refl, sym, ap, ◌∙◌}
use mathlib.Core.Logic.{inl, inr}
use mathlib.Core.Bool.{Bool, true, false}
use mathlib.Core.Option.{Option, none, some}
use mathlib.Core.List.{List}
use Prim.Native.Nat.{ℕ, zero, suc, ◌+◌, ◌*◌, ◌-◌, ◌/◌, ◌%◌, ◌^◌, ◌≤◌, ◌<◌}
use native.Mathlib.Nat.{mul-le-mul_right, mul-le-mul_left}
use native.Mathlib.Omega.{arith}
use native.Mathlib.Decide.{dec_lt}
use lib.Dec.{eqb}
use lib.ListN.{length}
use borrow.Author.Tests.{eqb-true, eqb-false}
use Rattle.words.specs.Bytes.{Bytes, num, part, bitmap, pad}
use Rattle.words.specs.Bits.{bit}
use Rattle.words.proofs.Parts.{length_part, part-part}
use Rattle.words.proofs.BitLaws.{bit-num}
use Rattle.schema.specs.Types.{Fixed, bo, i1, i2, i4, i8, f4, f8, Ty, fix, text, li, ma, ro, width, fixed_place}
use Rattle.schema.specs.Marks.{types}
use Rattle.schema.proofs.Table.{width-8}
use Rattle.layout.specs.Layout.{front, slot_of, number, string, array, pair, struct, codec}
use Rattle.layout.specs.Refusals.{Refusal, numbered, broken_at}
use Rattle.layout.specs.Walk as W
use Rattle.layout.specs.Walk.{stop, must_step, by_slot, by_flag, seat_of}
use Rattle.layout.proofs.Slotted.{must-step}
use Rattle.reading.specs.Children.{wide_of, child_as, SeatIn, ChildIn, SlotOf, Points, IsChild, Comes}
use Rattle.reading.specs.Places.{slot_width}
use Rattle.reading.specs.declared.Seat.{Seat}
use Rattle.reading.specs.declared.Child.{Child}
use Rattle.reading.specs.declared.Child.TheVariants.{Null, At}
use Rattle.std.specs.Prelude.{Result, Ok, Err}
use Rattle.answers.specs.declared.Refusal.{Refusal as Answered}
use Rattle.answers.specs.declared.Refusal.TheVariants as F
use Rattle.answers.specs.Meaning.{refusal_means}

pub step-no : {P : Type 0} (q : Dec P) (n : Refusal) (s : W.Step) → (P → ⊥) → must_step q n s ≡ stop n
unfolding must_step
step-no (yes p) n s h = absurd (h p)
step-no (no x) n s h = refl

-- ---- widths

abbrev wide_opt : ℕ → Option ℕ
wide_opt zero = none
wide_opt (suc v) = some (suc v)

fixed-wide : (f : Fixed) → some (width f) ≡ wide_opt (width f)
unfolding width fixed_place types
fixed-wide bo = refl
fixed-wide i1 = refl
fixed-wide i2 = refl
fixed-wide i4 = refl
fixed-wide i8 = refl
fixed-wide f4 = refl
fixed-wide f8 = refl

wide-codec : (t : Ty) → (codec t).wide ≡ wide_opt (wide_of t)
unfolding codec number string array pair struct wide_of
wide-codec (fix f) = fixed-wide f
wide-codec (text f) = refl
wide-codec (li t) = refl
wide-codec (ma k v) = refl
wide-codec (ro ts) = refl

pub wide-8 : (t : Ty) → wide_of t ≤ 8
unfolding wide_of
wide-8 (fix f) = width-8 f
wide-8 (text f) = omega arith
wide-8 (li t) = omega arith
wide-8 (ma k v) = omega arith
wide-8 (ro ts) = omega arith

slot-opt : (v : ℕ) → slot_of (wide_opt v) ≡ slot_width v
unfolding slot_of slot_width
slot-opt zero = refl
slot-opt (suc v) = refl

pub slot-codec : (t : Ty) → slot_of (codec t).wide ≡ slot_width (wide_of t)
slot-codec t = rw (wide-codec t) (slot-opt (wide_of t))

-- ---- where a slot points

module _ {row : List ℕ} {base size : ℕ} {s : Seat} (P : SlotOf row base size s) {x : ℕ} (e : x ≡ num (part row s.slot 8))
    {off len : ℕ} (o : off ≡ x / 2 ^ 32) (l : len ≡ x % 2 ^ 32) where
  slot-number : num (part (part row base size) (s.slot - base) 8) ≡ x
  slot-number =
      let j : s.slot - base + 8 ≤ size = omega (arith, P.after, P.before) in
      let b : base + (s.slot - base) ≡ s.slot = omega (arith, P.after) in
      rw (part-part row base size (s.slot - base) 8 j, b) (sym e)

  whole : length (part row base size) ≡ size
  whole = length_part row base size P.within

  pub pointed-low : {f : ℕ} → off < f → Points row base size f s (Err (F.Layout s.slot))
  unfolding child_as by_slot
  pointed-low h = record { means = λ t. rw (slot-number, ← o, ← l) (sym (step-no _ (broken_at s.slot) _ (λ q. omega arith))); lands = tt }

  pub pointed-odd : {f : ℕ} → f ≤ off → (off % 8 ≡ 0 → ⊥) → Points row base size f s (Err (F.Layout s.slot))
  unfolding child_as by_slot
  pointed-odd h k =
      record { means = λ t. rw (slot-number, ← o, ← l) (sym (must-step _ (broken_at s.slot) _ h ∙ step-no _ (broken_at s.slot) _ k)); lands = tt }

  pub pointed-long : {f : ℕ} → f ≤ off → off % 8 ≡ 0 → size < off + len → Points row base size f s (Err (F.Layout s.slot))
  unfolding child_as by_slot
  pointed-long h k m =
      record {
        means = λ t. rw (slot-number, ← o, ← l, whole)
            (sym (must-step _ (broken_at s.slot) _ h ∙ must-step _ (broken_at s.slot) _ k ∙ step-no _ (broken_at s.slot) _ (λ q. omega arith)));
        lands = tt;
      }

  pub pointed-at : {f : ℕ} → f ≤ off → off % 8 ≡ 0 → off + len ≤ size → Points row base size f s (Ok (At s (base + off) len))
  unfolding child_as by_slot
  pointed-at h k m = record {
    means = λ t. rw (slot-number, ← o, ← l, whole, part-part row base size off len m)
        (sym (must-step _ (broken_at s.slot) _ h ∙ must-step _ (broken_at s.slot) _ k ∙ must-step _ (broken_at s.slot) _ m));
    lands = record { within = omega (arith, P.within); sized = inl refl; seated = P.seated };
  }

-- ---- the bit, and the slot's place

module _ {row : List ℕ} {base size h n w v i : ℕ} (s : IsChild row base size h n w v i) where
  slot-room : h + (bitmap n + i * w) + w ≤ size
  slot-room = omega (arith, s.fixed, mul-le-mul_right {m = suc i} {n = n} w s.child)

  -- the child's numbers are small
  pub record Small : Type 0 where
    pub count : n ≤ 16384
    pub before : i * w ≤ 16384
    pub slots : n * w ≤ 16384
    pub end : base + (h + (bitmap n + i * w)) ≤ 16384

  pub small : Small
  small = record {
    count = omega (arith, s.within, s.short, s.fixed, mul-le-mul_left {m = 1} {n = w} n s.some);
    before = omega (arith, slot-room, s.within, s.short);
    slots = omega (arith, s.fixed, s.within, s.short);
    end = omega (arith, slot-room, s.within, s.short);
  }

  abbrev pub seat_in : ℕ → Seat
  seat_in m = record { bits = base + h; number = i; slot = base + (h + (m + i * w)); wide = w }

  module _ {m : ℕ} (q : m ≡ bitmap n) where
    -- the fixed part, as the code adds it
    pub front-is : {k : ℕ} → k ≡ pad (n * w) → h + m + k ≡ front h w n
    front-is f = rw (q, f)

    seated : SeatIn row v (seat_in m)
    seated = record { flag = omega (arith, s.within, s.child, s.fixed); room = omega (arith, s.within, slot-room); wide = s.slot }

    pub slot-of : v ≡ 0 → SlotOf row base size (seat_in m)
    slot-of z =
        let e : w ≡ 8 = s.points z in
        record {
          within = s.within;
          short = s.short;
          after = omega arith;
          before = omega (arith, slot-room);
          seated = record { flag = seated.flag; room = seated.room; wide = omega arith };
        }

    flag_is : Bytes row → (t : Bool) → t ≡ bit row (base + h) i → eqb (num (part (part row base size) h (bitmap n)) / 2 ^ i % 2) 1 ≡ t
    flag_is b t e = rw (part-part row base size h (bitmap n) (omega (arith, s.fixed)))
        (bit-num (base + h) (bitmap n) i b (omega (arith, s.child)) ∙ sym e)

    module _ (b : Bytes row) {t : Bool} (e : t ≡ bit row (base + h) i) where
      pub null-child : t ≡ true → Comes row base size h n w v i (Ok (Null (seat_in m)))
      unfolding child_as W.child by_flag
      null-child g =
          let z : num (part (part row base size) h (bitmap n)) / 2 ^ i % 2 ≡ 1 = eqb-true _ 1 (flag_is b _ e ∙ g) in
          record { means = λ y u. rw (q, z) (sym (must-step (dec_lt i n) (numbered 5) _ s.child)); lands = seated }

      module _ (g : t ≡ false) where
        here : num (part (part row base size) h (bitmap n)) / 2 ^ i % 2 ≡ 0
        here = omega (arith, eqb-false (num (part (part row base size) h (bitmap n)) / 2 ^ i % 2) 1 (flag_is b _ e ∙ g))

        child-is : (y : Ty) → by_slot (codec y).wide y (seat_of h w n i base) (front h w n) base (h + (bitmap n + i * w)) (part row base size)
            ≡ W.child h w n y i base (part row base size)
        unfolding W.child by_flag
        child-is y = rw here (sym (must-step (dec_lt i n) (numbered 5) _ s.child))

        wide_is : (y : Ty) (k : ℕ) → wide_of y ≡ k → (codec y).wide ≡ wide_opt k
        wide_is y k u = wide-codec y ∙ ap wide_opt u

        pub far-child : v ≡ 0 → {f : ℕ} → f ≡ front h w n → {r : Result Child Answered} → Points row base size f (seat_in m) r → Comes row base size h n w v i r
        far-child z {f} u {r} k = record {
          means = λ y p.
              let j : base + (h + (bitmap n + i * w)) - base ≡ h + (bitmap n + i * w) = omega arith in
              let a : (codec y).wide ≡ none = wide_is y 0 (p ∙ z) in
              (rw (q, u, j) at (k.means y)) ∙ rw a at (child-is y);
          lands = lift r k.lands;
        }
          where
            lift : (r : Result Child Answered) → ChildIn row 0 r → ChildIn row v r
            lift (Err k) l = tt
            lift (Ok (Null x)) l = record { flag = l.flag; room = l.room; wide = rw z l.wide }
            lift (Ok (At x o c)) l =
                record { within = l.within; sized = inl z; seated = record { flag = l.seated.flag; room = l.seated.room; wide = rw z l.seated.wide } }

        near : (v ≡ 0 → ⊥) → wide_opt v ≡ some v
        near z = go v z
          where
            go : (k : ℕ) → (k ≡ 0 → ⊥) → wide_opt k ≡ some k
            go zero z = absurd (z refl)
            go (suc k) z = refl

        pub near-child : (v ≡ 0 → ⊥) → Comes row base size h n w v i (Ok (At (seat_in m) (base + (h + (m + i * w))) v))
        unfolding child_as by_slot
        near-child z = record {
          means = λ y p.
              let a : (codec y).wide ≡ some v = wide_is y v p ∙ near z in
              rw (q, ← (part-part row base size (h + (bitmap n + i * w)) v (omega (arith, slot-room, s.slot)))) (rw a at (child-is y));
          lands = record { within = omega (arith, q, s.within, slot-room, s.slot); sized = inr refl; seated = seated };
        }
