-- A map's two arrays, as the code that judges them meets them. Assumes nothing.
use mathlib.Core.Path.{◌≡◌, refl, sym, ap, ◌∙◌}
use mathlib.Core.Bool.{Bool, true, false, cond}
use mathlib.Core.List.{List}
use Prim.Native.Nat.{ℕ, suc, ◌+◌, ◌-◌, ◌%◌, ◌≤◌, ◌<◌}
use native.Mathlib.Decide.{dec_le, ℕ_discrete}
use native.Mathlib.Omega.{arith}
use mir.Val.{Fits}
use mir.Syntax.{w64}
use lib.Dec.{eqb}
use borrow.Author.Tests.{eq-eqb, ne_eqb}
use lib.Bits.{bit_and}
use lib.ListN.{length, take, drop, length-take, length-drop}
use lib.Seq.{take-take, take-length}
use Rattle.words.specs.Bytes.{num, part}
use Rattle.words.specs.Reads.{Reads}
use Rattle.words.proofs.Powers.{eights, no-eights}
use Rattle.schema.specs.Types.{Ty, li, ma}
use Rattle.table.specs.Tables.{type_of}
use Rattle.checking.specs.Sound.{fault_of, in_child}
use Rattle.checking.specs.Room.{Holding, Pair}
use Rattle.checking.proofs.Tests.{child-fault, child-sound, part_small}
use Rattle.checking.proofs.Containers.{list-odd, list-short, map-uneven, map-unfit, map_is, fault-small}

-- a list of less than 8 bytes is at fault in its slot
list-few : (t : Ty) (b : List ℕ) → length b < 8 → fault_of (li t) b ≡ 1
list-few t b h = go (ℕ_discrete (length b % 8) 0)
  where
    go : Dec (length b % 8 ≡ 0) → fault_of (li t) b ≡ 1
    go (yes e) = list-short t b e h
    go (no e) = list-odd t b e

-- a sound list has its header
list-head : (t : Ty) (b : List ℕ) → fault_of (li t) b ≡ 0 → 8 ≤ length b
list-head t b e = go (dec_le 8 (length b))
  where
    go : Dec (8 ≤ length b) → 8 ≤ length b
    go (yes h) = h
    go (no h) = absurd (omega (arith, list-few t b (omega arith)))

-- ---- a map, as more and more of it is known

module _ {t : List ℕ} {k v d : ℕ} {b : List ℕ} (m : Pair t k v d b) {size : ℕ} (reads : Reads b 0 8 size) where
  abbrev key : Ty
  key = type_of t k d

  abbrev value : Ty
  value = type_of t v d

  abbrev stop : ℕ
  stop = 8 + size

  abbrev keys : List ℕ
  keys = part b 8 (stop - 8)

  abbrev values : List ℕ
  values = part b stop (length b - stop)

  -- sound keys have their header
  module _ (room : size ≤ length b - 8) {r : ℕ} (er : r ≡ fault_of (li key) keys) (sound : r ≡ 0) where
    long-keys : 8 ≤ stop - 8
    long-keys = omega (arith, list-head key keys (sym er ∙ sound), length-take (stop - 8) (drop 8 b))

    pub keys-head : 8 + 8 ≤ length b
    keys-head = omega (arith, long-keys)

  module _ (mask : bit_and (length b) 7 ≡ 0) (head : 8 ≤ length b) where
    even : length b % 8 ≡ 0
    even = eights (length b) mask

    -- the size of its keys array does not fit
    pub map-bad : (bit_and size 7 ≡ 0 → ⊥) → 2 ≡ fault_of (ma key value) b
    map-bad h = sym (map-uneven key value b even size reads.is head (no-eights size h))

    module _ (rest : bit_and size 7 ≡ 0) where
      whole : size % 8 ≡ 0
      whole = eights size rest

      pub map-over : length b - 8 < size → 2 ≡ fault_of (ma key value) b
      map-over h = sym (map-unfit key value b even size reads.is head whole (omega arith))

      -- it does
      module _ (room : size ≤ length b - 8) where
        pub map-end : stop ≤ length b
        map-end = omega arith

        pub map-fits : Fits w64 stop
        map-fits = omega (arith, m.small)

        pub map-low : stop ≤ 65536
        map-low = omega (arith, m.small)

        pub map-told : Fits w64 (stop + 2)
        map-told = omega (arith, m.small)

        keys-short : length keys ≤ 16384
        keys-short = part_small b 8 (stop - 8) m.small

        values-short : length values ≤ 16384
        values-short = part_small b stop (length b - stop) m.small

        pub keys-hold : Holding t k d keys
        keys-hold = record { stands = m.keys; small = keys-short }

        pub values-hold : Holding t v d values
        values-hold = record { stands = m.values; small = values-short }

        pub values-head : 8 ≤ length b - stop → stop + 8 ≤ length b
        values-head h = omega arith

        keys-is : keys ≡ part b 8 size
        keys-is = let q : stop - 8 ≡ size = omega arith in ap (part b 8) q

        values-is : values ≡ drop stop b
        values-is =
            let q : length b - stop ≡ length (drop stop b) = rw length-drop in
            ap (λ (n : ℕ). take n (drop stop b)) q ∙ take-length (drop stop b)

        is : fault_of (ma key value) b
            ≡ in_child 8 8 (fault_of (li key) keys)
            (cond (eqb (num (take 8 values)) (num (take 8 keys))) (in_child stop stop (fault_of (li value) values) 0) (suc (suc stop)))
        is = map_is key value b even size reads.is head whole map-end ∙ rw (keys-is, values-is)

        -- r is the fault of the keys
        module _ {r : ℕ} (er : r ≡ fault_of (li key) keys) where
          pub keys-few : r ≤ 65536
          keys-few = omega (arith, fault-small (li key) keys r er keys-short)

          pub keys-bad : (r ≡ 0 → ⊥) → {y : ℕ} → y ≡ in_child 8 8 r 0 → y ≡ fault_of (ma key value) b
          keys-bad ne ey = ey ∙ sym (is ∙ rw (← er) (child-fault 8 8 r _ ne))

          module _ (sound : r ≡ 0) where
            on : fault_of (ma key value) b
                ≡ cond (eqb (num (take 8 values)) (num (take 8 keys))) (in_child stop stop (fault_of (li value) values) 0) (suc (suc stop))
            on = is ∙ child-sound 8 8 (fault_of (li key) keys) _ (sym er ∙ sound)

            at-stop : stop + 2 ≡ suc (suc stop)
            at-stop = omega arith

            -- no room for the values' header: the counts differ, or the values are at fault in their slot, which is the same place
            pub values-headless : length b - stop < 8 → stop + 2 ≡ fault_of (ma key value) b
            unfolding in_child
            values-headless h =
                let f : fault_of (li value) values ≡ 1 = list-few value values (rw (length-take, length-drop) (omega arith)) in
                at-stop ∙ sym (on ∙ rw f (go (eqb (num (take 8 values)) (num (take 8 keys)))))
              where
                go : (x : Bool) → cond x (suc (suc stop)) (suc (suc stop)) ≡ suc (suc stop)
                go true = refl
                go false = refl

            -- the two counts
            module _ (behind : 8 ≤ length b - stop) {x y : ℕ} (rx : Reads b 8 8 x) (ry : Reads b stop 8 y) where
              keys-count : num (take 8 keys) ≡ x
              keys-count = ap num (take-take 8 (stop - 8) (drop 8 b) (long-keys room er sound)) ∙ sym rx.is

              values-count : num (take 8 values) ≡ y
              values-count = ap num (take-take 8 (length b - stop) (drop stop b) behind) ∙ sym ry.is

              pub counts-differ : (x ≡ y → ⊥) → stop + 2 ≡ fault_of (ma key value) b
              counts-differ ne = at-stop ∙ sym (on ∙ rw (keys-count, values-count, ne_eqb y x (λ e. ne (sym e))))

              -- q is the fault of the values
              module _ (same : x ≡ y) {q : ℕ} (eq : q ≡ fault_of (li value) values) where
                last : fault_of (ma key value) b ≡ in_child stop stop q 0
                last = on ∙ rw (keys-count, values-count, eq-eqb y x (sym same), ← eq)

                pub values-few : q ≤ 65536
                values-few = omega (arith, fault-small (li value) values q eq values-short)

                pub values-bad : {w : ℕ} → w ≡ in_child stop stop q 0 → w ≡ fault_of (ma key value) b
                values-bad ew = ew ∙ sym last

                pub map-done : q ≡ 0 → 0 ≡ fault_of (ma key value) b
                map-done e = sym (last ∙ child-sound stop stop q 0 e)
