-- A map's two arrays, as the bytes hold them, and that their records together are the map's. Assumes nothing.
use mathlib.Core.Path.{◌≡◌, refl, sym, ap, ◌∙◌}
use mathlib.Core.List.{List, ◌++◌, append_assoc}
use Prim.Native.Nat.{ℕ, ◌+◌, ◌-◌, ◌^◌, ◌≤◌, ◌<◌}
use native.Mathlib.Omega.{arith}
use lib.ListN.{length, take, drop, length-append, length-take}
use lib.Seq.{take-take, take-length}
use mir.Syntax.{w64}
use mir.Val.{Fits}
use Rattle.words.specs.Bytes.{le, num, part}
use Rattle.words.specs.Reads.{Reads}
use Rattle.words.proofs.Parts.{bytes-part}
use Rattle.schema.specs.Marks.{mark_at}
use Rattle.schema.specs.Types.{Ty, li, ma, place, mark}
use Rattle.layout.specs.Cells.{Cell, parts, part_of}
use Rattle.layout.specs.Layout.{pair, codec, Lays}
use Rattle.layout.specs.Listing.{map_script, script, listing}
use Rattle.layout.proofs.Walked.{ListSays, list-says, map-says}
use Rattle.listing.specs.Lines.{cell_of, lines, item_lines}
use Rattle.listing.specs.Room.{Holds}
use Rattle.listing.proofs.Held.{cell-is, holds-lays}

map-lines : (k v : Ty) (b p q : List ℕ) (n : ℕ) → cell_of (li k) p ≡ part_of 0 (cell_of (ma k v) b) → cell_of (li v) q ≡ part_of 1 (cell_of (ma k v) b)
    → n ≡ length (parts (cell_of (li k) p)) → (mark_at 10 ++ le 4 n) ++ (item_lines k p ++ item_lines v q) ≡ lines (ma k v) b
unfolding lines listing script map_script item_lines mark place
map-lines k v b p q n ep eq e = rw (append_assoc, e, ep, eq)

-- p and q are the arrays that the bytes hold, c the contents
record Halves (k v : Ty) (b : List ℕ) (K : ℕ) (p q : List ℕ) : Type 0 where
  size : length b ≡ 8 + (length p + length q)
  long : K ≡ length p
  keys : Lays (li k) (part_of 0 (cell_of (ma k v) b)) p
  values : Lays (li v) (part_of 1 (cell_of (ma k v) b)) q
  first : take (8 + K - 8) (drop 8 b) ≡ p
  second : take (length b - (8 + K)) (drop (8 + K) b) ≡ q

module _ {tk tv : Ty} {b : List ℕ} (r : Holds (ma tk tv) b) where
  small : length b < 2 ^ 32
  small = omega (arith, r.small)

  abbrev c : Cell
  c = cell_of (ma tk tv) b

  keys_of : List ℕ
  unfolding codec pair
  keys_of = r.lays.keys_array

  values_of : List ℕ
  unfolding codec pair
  values_of = r.lays.values_array

  halves : (K : ℕ) → K ≡ num (part b 0 8) → Halves tk tv b K keys_of values_of
  unfolding codec pair keys_of values_of
  halves K e =
      let y = r.lays in
      let m = map-says c b y.keys_array y.values_array y.whole small in
      let l : K ≡ length y.keys_array = e ∙ m.k in
      let j : 8 + K - 8 ≡ length y.keys_array = omega arith in
      let o : 8 + K ≡ 8 + length y.keys_array = omega arith in
      let z : length b - (8 + length y.keys_array) ≡ length y.values_array = omega (arith, m.size) in
      record {
        size = m.size;
        long = l;
        keys = y.keys;
        values = y.values;
        first = rw j m.keys;
        second = rw (o, m.values, z) (take-length y.values_array);
      }

  -- a map's keys array has its count
  head : 16 ≤ length b
  head =
      let h = halves (num (part b 0 8)) refl in
      omega (arith, h.size, (list-says tk (part_of 0 c) keys_of h.keys (omega (arith, h.size))).room)

  pub size_in : 0 + 8 ≤ length b
  size_in = omega (arith, head)

  pub count-in : 8 + 8 ≤ length b
  count-in = omega (arith, head)

  module _ {K : ℕ} (gK : Reads b 0 8 K) where
    abbrev h : Halves tk tv b K keys_of values_of
    h = halves K gK.is

    pub keys-fit : 8 + K ≤ length b
    keys-fit = omega (arith, h.size, h.long)

    pub keys-end : Fits w64 (8 + K)
    keys-end = omega (arith, keys-fit, r.small)

    abbrev us : List ℕ
    us = take (8 + K - 8) (drop 8 b)

    abbrev vs : List ℕ
    vs = take (length b - (8 + K)) (drop (8 + K) b)

    small-p : length us ≤ 16384
    small-p = rw h.first (omega (arith, h.size, r.small))

    small-q : length vs ≤ 16384
    small-q = rw h.second (omega (arith, h.size, r.small))

    lays-p : Lays (li tk) (part_of 0 c) us
    lays-p = rw h.first h.keys

    lays-q : Lays (li tv) (part_of 1 c) vs
    lays-q = rw h.second h.values

    pub keys-hold : Holds (li tk) us
    keys-hold = holds-lays (li tk) (part_of 0 c) us (bytes-part 8 (8 + K - 8) r.bytes) small-p lays-p

    pub values-hold : Holds (li tv) vs
    values-hold = holds-lays (li tv) (part_of 1 c) vs (bytes-part (8 + K) (length b - (8 + K)) r.bytes) small-q lays-q

    module _ {n : ℕ} (gn : Reads b 8 8 n) where
      keys-says : ListSays tk (part_of 0 c) us
      keys-says = list-says tk (part_of 0 c) us lays-p (omega (arith, small-p))

      count-is : n ≡ length (parts (cell_of (li tk) us))
      count-is =
          let m : 8 ≤ 8 + K - 8 = omega (arith, keys-says.room, length-take (8 + K - 8) (drop 8 b)) in
          let j : take 8 us ≡ part b 8 8 = take-take 8 (8 + K - 8) (drop 8 b) m in
          gn.is ∙ ap num (sym j) ∙ keys-says.count ∙ ap (λ (x : Cell). length (parts x)) (sym (cell-is (li tk) (part_of 0 c) us lays-p small-p))

      pub map_is : (mark_at 10 ++ le 4 n) ++ (item_lines tk us ++ item_lines tv vs) ≡ lines (ma tk tv) b
      map_is =
          map-lines tk tv b us vs n (cell-is (li tk) (part_of 0 c) us lays-p small-p) (cell-is (li tv) (part_of 1 c) vs lays-q small-q) count-is

      pub map-lengths : length (mark_at 10 ++ le 4 n) + (length (item_lines tk us) + length (item_lines tv vs)) ≡ length (lines (ma tk tv) b)
      map-lengths = rw (← map_is, length-append (mark_at 10 ++ le 4 n), length-append (item_lines tk us))
