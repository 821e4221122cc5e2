-- `reading::slots::child` meets its contract. Assumes nothing.
use Rattle.reading.proofs.Pointing.{small, null-child, slot-of, front-is, far-child, near-child}
use Rattle.words.proofs.Numbers.{bytes_of}
use native.Mathlib.Omega.{arith}
use Rattle.reading.proofs.slots.child.Goals as goal

pub overflow_mul-slot : goal.overflow_mul-slot
overflow_mul-slot c = omega (arith, (small c.requires).before)

pub overflow_add-slot : goal.overflow_add-slot
overflow_add-slot c = omega (arith, (small c.requires).end, c.bitmap_size-map.ensures)

pub overflow_add-slot-2 : goal.overflow_add-slot-2
overflow_add-slot-2 c = omega (arith, (small c.requires).end, c.bitmap_size-map.ensures)

pub overflow_add-slot-3 : goal.overflow_add-slot-3
overflow_add-slot-3 c = omega (arith, (small c.requires).end, c.bitmap_size-map.ensures)

pub returns-then-is_null : goal.returns-then-is_null
returns-then-is_null c = let pre = c.requires in
    let bitmap-size = c.bitmap_size-map in
    let shared-slice-known = c.shared_slice_known-1 in
    null-child pre bitmap-size.ensures (bytes_of _ (λ j. (shared-slice-known.given j).fits)) c.is_null.ensures c.if-is_null.true

pub pointed-requires : goal.pointed-requires
pointed-requires c = let pre = c.requires in
    let bitmap-size = c.bitmap_size-map in
    slot-of pre bitmap-size.ensures c.if-v-eq0.true

pub returns-then-v-eq0 : goal.returns-then-v-eq0
returns-then-v-eq0 c = let pre = c.requires in
    let bitmap-size = c.bitmap_size-map in
    let shared-slice-known = c.shared_slice_known-1 in
    let is-null = c.is_null in
    let if1 = c.if-is_null in
    let if2 = c.if-v-eq0 in
    far-child pre bitmap-size.ensures (bytes_of _ (λ j. (shared-slice-known.given j).fits)) is-null.ensures if1.false if2.true
    (front-is pre bitmap-size.ensures c.pad_size.ensures) c.pointed.ensures

pub returns : goal.returns
returns c = let pre = c.requires in
    let bitmap-size = c.bitmap_size-map in
    let shared-slice-known = c.shared_slice_known-1 in
    let is-null = c.is_null in
    near-child pre bitmap-size.ensures (bytes_of _ (λ j. (shared-slice-known.given j).fits)) is-null.ensures c.if-is_null.false
    c.if-v-eq0.false
