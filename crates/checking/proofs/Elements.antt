-- Lists by the kind of their elements, as the code that judges one meets them. Assumes nothing.
use mathlib.Core.Path.{◌≡◌, sym, ap, ◌∙◌, subst}
use mathlib.Core.Bool.{Bool, true, false, not, cond}
use mathlib.Core.List.{List, []}
use Prim.Native.Nat.{ℕ, suc, ◌+◌, ◌*◌, ◌-◌, ◌%◌, ◌^◌, ◌≤◌, ◌<◌}
use native.Mathlib.Nat.{mul-le-mul_left, mul-one}
use native.Mathlib.Omega.{arith}
use mir.Val.{Fits}
use mir.Syntax.{w64}
use lib.Dec.{eqb, ltb}
use lib.Bits.{bit_and}
use lib.ListN.{length}
use borrow.Author.Tests.{lt-ltb, le-ltb}
use Rattle.words.specs.Bytes.{Bytes, num, pad, bitmap, part, past_byte}
use Rattle.words.specs.Reads.{Reads}
use Rattle.words.proofs.Powers.{eights}
use Rattle.words.proofs.Numbers.{num-lt}
use Rattle.schema.specs.Marks.{types, element_width}
use Rattle.schema.specs.Types.{Fixed, bo, Text, st, bi, width, fixed_place, fixed_at, text_at, Ty, fix, text, li, place}
use Rattle.schema.proofs.Table.{width-pos, place-fixed}
use Rattle.schema.proofs.Places.{typed-place, fixed_of, text_of}
use Rattle.layout.specs.Layout.{number, string, kid_of, slot_of, front, limit, codec}
use Rattle.layout.proofs.Widths.{element-wide, slot_small, slot-some, limit-free}
use Rattle.table.specs.Words.{place_in}
use Rattle.table.specs.Tables.{EntryAt, schema_of, pos_of, type_of}
use Rattle.checking.specs.Sound.{code, fault_of, zeros_then, fault_from}
use Rattle.checking.specs.Room.{ListRoom, ListEnd, Items, Holding, bools, elements}
use Rattle.checking.proofs.Containers.{list-unfit, list-past, list-good}
use Rattle.checking.proofs.Tests.{passed, failed, MapRoom}
use Rattle.checking.proofs.Leaves.{number-judged, numbers-from}

-- numbers of any width, as they stand
fixed-fine : (f : Fixed) → (fixed_place f ≡ 0 → ⊥) → (u : List ℕ) → Bytes u → length u ≡ width f → code ((number (width f) (limit f)).get u) ≡ 0
fixed-fine f h u hu e =
    number-judged (width f) (limit f) u e
    ∙ rw (lt-ltb (num u) (limit f) (rw (limit-free f h) (subst (λ (k : ℕ). num u < 256 ^ k) e (num-lt hu))))

fixed-end : (f : Fixed) (n : ℕ) (b : List ℕ) (start : ℕ) → (fixed_place f ≡ 0 → ⊥) → Bytes b
    → start ≡ front 8 (slot_of (codec (fix f)).wide) n → start ≤ length b
    → fault_from 8 (slot_of (codec (fix f)).wide) (elements (fix f) n) b 0 []
    ≡ zeros_then b (8 + bitmap n + n * slot_of (codec (fix f)).wide) start (cond (eqb start (length b)) 0 1)
unfolding slot_of kid_of codec number
fixed-end f n b start h hb e room =
    let w = width f in
    let c = number w (limit f) in
    numbers-from w n b start c (width-pos f) hb e room (fixed-fine f h) n 0 (omega arith)

-- ---- a list, as more and more of it is known

module _ {t : List ℕ} {c d : ℕ} {b : List ℕ} (h : Holding t c d b) where
  abbrev own : Ty
  own = type_of t c d

  abbrev slot_width : ℕ
  slot_width = slot_of (codec own).wide

  -- its count is n
  module _ (mask : bit_and (length b) 7 ≡ 0) (head : 8 ≤ length b) {n : ℕ} (reads : Reads b 0 8 n) where
    even : length b % 8 ≡ 0
    even = eights (length b) mask

    -- a count past the end of the list
    pub list-many : length b < n → 2 ≡ fault_of (li own) b
    list-many g =
        let many : n ≤ n * slot_width = rw mul-one at (mul-le-mul_left n (slot-some own)) in
        sym (list-unfit own b even n reads.is head (omega arith))

    module _ (few : n ≤ length b) where
      pub list-asks : n < 2 ^ 32
      list-asks = omega (arith, h.small)

      -- w is the entry of its elements' type, and r the size of its bitmap
      module _ {w : ℕ} (e : EntryAt t c d w) {r : ℕ} (er : r ≡ bitmap n) where
        kind : place_in w ≡ place own
        kind = e.place ∙ typed-place (schema_of t) (pos_of t c) d h.stands.typed

        pub list-slots : Fits w64 (8 + r)
        list-slots = omega (arith, h.small)

        -- each takes v bytes
        module _ {v : ℕ} (ev : v ≡ element_width (place_in w)) where
          wide : v ≡ slot_width
          wide = ev ∙ element-wide own (place_in w) kind

          small : n * v ≤ 131072
          small = rw wide (omega (arith, mul-le-mul_left n (slot_small own), h.small))

          abbrev stop : ℕ
          stop = 8 + r + n * v

          pub list-mul : Fits w64 (n * v)
          list-mul = omega (arith, small)

          pub list-stop : Fits w64 stop
          list-stop = omega (arith, small, h.small)

          pub list-pad : stop < 2 ^ 40
          list-pad = omega (arith, small, h.small)

          stop_is : stop ≡ 8 + bitmap n + n * slot_width
          stop_is = rw (← wide) (omega arith)

          -- the data starts at start
          module _ {start : ℕ} (padded : start ≡ pad stop) where
            begin : start ≡ front 8 slot_width n
            begin = omega (arith, stop_is)

            pub list-out : length b < start → 2 ≡ fault_of (li own) b
            list-out g = sym (list-unfit own b even n reads.is head (omega (arith, begin)))

            module _ (room : start ≤ length b) where
              fits : front 8 slot_width n ≤ length b
              fits = omega (arith, begin)

              pub list-map : MapRoom b n (8 + r)
              list-map = record { small = h.small; low = omega arith; high = omega (arith, begin); few = list-asks }

              from : 8 + r - bitmap n ≡ 8
              from = omega arith

              -- the test that no bit past the count is set
              module _ {p : Bool} (ep : p ≡ ltb (num (part b (8 + r - bitmap n) (bitmap n))) (2 ^ n)) where
                past : p ≡ ltb (num (part b 8 (bitmap n))) (2 ^ n)
                past = ep ∙ ap (λ (j : ℕ). ltb (num (part b j (bitmap n))) (2 ^ n)) from

                pub list-bits : not p ≡ true → {y : ℕ} → y ≡ 8 + r - bitmap n + past_byte n (part b (8 + r - bitmap n) (bitmap n))
                    → y + 2 ≡ fault_of (li own) b
                list-bits set {y} ey =
                    let q : y ≡ 8 + past_byte n (part b 8 (bitmap n)) = rw from at ey in
                    let g : y + 2 ≡ suc (suc (8 + past_byte n (part b 8 (bitmap n)))) = omega arith in
                    g ∙ sym (list-past own b even n reads.is head fits (failed past set))

                good : not p ≡ false → fault_of (li own) b ≡ fault_from 8 slot_width (elements own n) b 0 []
                good clear = list-good own b even n reads.is head fits (passed past clear)

                as-type : not p ≡ false → (u : Ty) → own ≡ u → fault_from 8 (slot_of (codec u).wide) (elements u n) b 0 [] ≡ fault_of (li own) b
                as-type clear u q = sym (good clear ∙ ap (λ (x : Ty). fault_from 8 (slot_of (codec x).wide) (elements x n) b 0 []) q)

              pub numbers-end : ListEnd b stop start
              numbers-end = record { small = h.small; low = omega arith; padded = padded; room = room }

              room_of : (x : ℕ) → slot_width ≡ x → ListRoom b x n (8 + r) start
              room_of x q =
                  let z : start ≡ 8 + r + pad (n * slot_width) = omega (arith, begin) in
                  record { small = h.small; whole = even; map = ap (λ (j : ℕ). 8 + j) er; elements = rw q at z; room = room }

              -- k is its elements' kind
              module _ {k : ℕ} (ek : k ≡ place_in w) where
                is-kind : k ≡ place own
                is-kind = ek ∙ kind

                -- bools
                module _ (zero : k ≡ 0) where
                  is-bool : own ≡ fix bo
                  unfolding fixed_at
                  is-bool = fixed_of own k is-kind (omega arith) ∙ ap (λ (j : ℕ). fix (fixed_at j)) zero

                  pub bools-room : ListRoom b 1 n (8 + r) start
                  unfolding slot_of codec number width types fixed_place
                  bools-room = room_of 1 (ap (λ (x : Ty). slot_of (codec x).wide) is-bool)

                  pub list-bools : {p : Bool} → p ≡ ltb (num (part b (8 + r - bitmap n) (bitmap n))) (2 ^ n) → not p ≡ false
                      → {y : ℕ} → y ≡ fault_from 8 1 (bools n) b 0 [] → y ≡ fault_of (li own) b
                  unfolding slot_of kid_of codec number width types fixed_place limit
                  list-bools ep clear ey = ey ∙ as-type ep clear (fix bo) is-bool

                -- numbers
                pub list-numbers : (k ≡ 0 → ⊥) → k < 7 → {p : Bool} → p ≡ ltb (num (part b (8 + r - bitmap n) (bitmap n))) (2 ^ n) → not p ≡ false → Bytes b
                    → {y : ℕ} → y ≡ zeros_then b stop start (cond (eqb start (length b)) 0 1) → y ≡ fault_of (li own) b
                list-numbers ne lo ep clear hb ey =
                    let q = fixed_of own k is-kind lo in
                    let g = fixed_at k in
                    let o : 8 + bitmap n + n * slot_of (codec (fix g)).wide ≡ stop =
                    ap (λ (x : Ty). 8 + bitmap n + n * slot_of (codec x).wide) (sym q) ∙ sym stop_is in
                    ey ∙ ap (λ (j : ℕ). zeros_then b j start (cond (eqb start (length b)) 0 1)) (sym o)
                    ∙ sym (fixed-end g n b start (λ z. ne (sym (place-fixed k lo) ∙ z)) hb
                    (begin ∙ ap (λ (x : Ty). front 8 (slot_of (codec x).wide) n) q) room)
                    ∙ as-type ep clear (fix g) q

                -- strings and binaries
                module _ (lo : 7 ≤ k) (hi : k < 9) where
                  is-text : own ≡ text (text_at k)
                  is-text = text_of own k is-kind lo hi

                  pub texts-room : ListRoom b 8 n (8 + r) start
                  unfolding slot_of codec string
                  texts-room = room_of 8 (ap (λ (x : Ty). slot_of (codec x).wide) is-text)

                  -- of the type t
                  as-text : (t : Text) → text_at k ≡ t → {p : Bool} → p ≡ ltb (num (part b (8 + r - bitmap n) (bitmap n))) (2 ^ n) → not p ≡ false
                      → {y : ℕ} → y ≡ fault_from 8 8 (elements (text t) n) b 0 [] → y ≡ fault_of (li own) b
                  unfolding slot_of kid_of codec string
                  as-text t q ep clear ey = ey ∙ as-type ep clear (text t) (is-text ∙ ap text q)

                  pub list-binaries : (k ≡ 7 → ⊥) → {p : Bool} → p ≡ ltb (num (part b (8 + r - bitmap n) (bitmap n))) (2 ^ n) → not p ≡ false
                      → {y : ℕ} → y ≡ fault_from 8 8 (elements (text bi) n) b 0 [] → y ≡ fault_of (li own) b
                  unfolding text_at
                  list-binaries ne = let e : k ≡ 8 = omega arith in as-text bi (rw e)

                -- strings
                module _ (seven : k ≡ 7) where
                  pub strings-room : ListRoom b 8 n (8 + r) start
                  strings-room = texts-room (omega arith) (omega arith)

                  pub list-strings : {p : Bool} → p ≡ ltb (num (part b (8 + r - bitmap n) (bitmap n))) (2 ^ n) → not p ≡ false
                      → {y : ℕ} → y ≡ fault_from 8 8 (elements (text st) n) b 0 [] → y ≡ fault_of (li own) b
                  unfolding text_at
                  list-strings = as-text (omega arith) (omega arith) st (rw seven)

                -- containers
                module _ (lo : 9 ≤ k) where
                  eight-wide : slot_width ≡ 8
                  unfolding element_width
                  eight-wide = sym (element-wide own k is-kind) ∙ rw (le-ltb k 7 (omega arith))

                  pub list-items : {p : Bool} → p ≡ ltb (num (part b (8 + r - bitmap n) (bitmap n))) (2 ^ n) → not p ≡ false
                      → {y : ℕ} → y ≡ fault_from 8 8 (elements own n) b 0 [] → y ≡ fault_of (li own) b
                  list-items ep clear ey = ey ∙ sym (good ep clear ∙ ap (λ (j : ℕ). fault_from 8 j (elements own n) b 0 []) eight-wide)

-- what judging elements that are containers asks for
pub items-room : {n r v start : ℕ} → start ≡ pad (8 + r + n * v) → {t : List ℕ} {c d w : ℕ} {b : List ℕ} → Holding t c d b → EntryAt t c d w
    → r ≡ bitmap n → v ≡ element_width (place_in w) → bit_and (length b) 7 ≡ 0 → start ≤ length b → {k : ℕ} → k ≡ place_in w → 9 ≤ k → Items t c d w b n
unfolding element_width
items-room {n} {r} {v} {start} padded {w = w} {b = b} h e er ev mask room ek lo =
    let eight : v ≡ 8 = ev ∙ rw (le-ltb (place_in w) 7 (omega arith)) in
    let q : start ≡ pad (8 + r + n * 8) = rw eight at padded in
    record { stands = h.stands; entry = e; holds = omega arith; small = h.small; whole = eights (length b) mask; room = omega arith }
