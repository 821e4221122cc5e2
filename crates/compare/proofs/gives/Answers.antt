-- `compare::gives` meets its contract: what is left to compare leads to what is said of the whole. Assumes nothing.
use Rattle.std.proofs.Common.{◌≡◌, ◌≤◌, true, false, length, get_or, sym, refl, ◌∙◌, arith}
use Rattle.words.proofs.Powers.{mask_is}
use Rattle.compare.specs.Lent.{Own}
use Rattle.compare.specs.Lines.{leaves_of, is_leaf}
use Rattle.compare.proofs.Root.{own_root}
use Rattle.compare.proofs.Following.{Takes, small, word_in, mark-in, follow-leaf}
use Rattle.compare.proofs.Closing.{Starts, follow-start, own-struct, place_in, follow-pop, own-end, tells, tells-not}
use Rattle.compare.proofs.Refusing.{HolderIs, own-mark, own-holder, own-shallow, own-beyond, own-some, own-few, own-entry, own-left}
use Rattle.compare.proofs.Refusing.{other-some, other-left, follow-struct, follow-other}
use Rattle.compare.proofs.gives.Goals as goal
use Rattle.compare.proofs.gives.Goals.{Else-t-fields, Else-fields-gt128, After-wrapping_sub_u64-w, Then-is_leaf, Else-is_leaf, After-mark_at-m}

-- what is known at a place, said once
starts : (c : Else-t-fields) → Starts c.args.s.now c.args.t.now c.mark_at.result c.wide-fields.result
starts c = record {
  short = c.if-len-gt1024.false;
  five = c.if-len-lt5.false;
  beyond = c.if-len-all.false;
  mark = c.mark_at.ensures;
  struct = c.if-mark_at-ne-STRUCT_MARK.false;
  count = c.wide-fields.ensures.0;
  some = c.if-fields-eq0.false;
  few = c.if-fields-gt128.false;
  enough = c.if-all-fields.false;
  entry = c.if-t-fields.false;
}

-- the root's fields are few, and so are the words
few-fields : (c : Else-fields-gt128) → (c.wide-fields.result ≤ 128) × (length c.args.t.now ≤ 512)
few-fields c = (c.if-fields-gt128.false, omega (arith, c.if-len-all.false, c.if-len-gt1024.false))

takes : (c : After-wrapping_sub_u64-w)
    → let l = c.loop-lines in Takes c.args.s.now c.args.t.now l.frames l.d l.i l.extra l.n l.base l.left c.wrapping_sub_u64-w.result
takes c = record {
  faces = c.loop-lines.invariant;
  entry = c.wrapping_sub_u64-w.ensures.value;
  below = omega (arith, c.wrapping_sub_u64-w.type_inv);
}

is_one : (c : Then-is_leaf) → is_leaf c.wrapping_sub_u64-w.result ≡ true
is_one c = sym c.is_leaf.ensures ∙ c.if-is_leaf.true

is_none : (c : Else-is_leaf) → is_leaf c.wrapping_sub_u64-w.result ≡ false
is_none c = sym c.is_leaf.ensures ∙ c.if-is_leaf.false

-- of a schema's own table the entry is then a container's
holder : (c : After-mark_at-m)
    → let l = c.loop-lines in
    Own c.args.s.now c.args.t.now
    → HolderIs c.args.s.now c.args.t.now l.frames l.d l.i l.extra l.n c.wrapping_sub_u64-w.result c.mark_at-m.result
holder c o =
    own-holder {s = c.args.s.now} (record {
      faces = c.loop-lines.invariant;
      entry = c.wrapping_sub_u64-w.ensures.value;
      below = omega (arith, c.wrapping_sub_u64-w.type_inv);
    }) c.mark_at-m.ensures o (sym c.is_leaf.ensures ∙ c.if-is_leaf.false)

pub returns-then-len-gt1024 : goal.returns-then-len-gt1024
returns-then-len-gt1024 c = λ o. let r = own_root o in omega (arith, r.short, c.if-len-gt1024.true)

pub returns-then-len-lt5 : goal.returns-then-len-lt5
returns-then-len-lt5 c = λ o. let r = own_root o in omega (arith, r.bytes, r.types, r.some, c.if-len-lt5.true)

pub returns-then-len-all : goal.returns-then-len-all
returns-then-len-all c = λ o. let r = own_root o in omega (arith, r.bytes, c.if-len-all.true)

pub overflow_sub-most : goal.overflow_sub-most
overflow_sub-most c = omega (arith, c.if-len-all.false)

pub bounds-s-2 : goal.bounds-s-2
bounds-s-2 c = omega (arith, c.if-len-lt5.false)

pub returns-then-all-fields : goal.returns-then-all-fields
returns-then-all-fields c = λ o. let r = own_root o in omega (arith, r.types, c.wide-fields.ensures.0, c.if-all-fields.true)

pub overflow_sub-left : goal.overflow_sub-left
overflow_sub-left c = omega (arith, c.if-all-fields.false)

pub mark_at-requires : goal.mark_at-requires
mark_at-requires c = omega (arith, c.if-len-lt5.false)

pub returns-then-mark_at-ne-STRUCT_MARK : goal.returns-then-mark_at-ne-STRUCT_MARK
returns-then-mark_at-ne-STRUCT_MARK c = λ o.
    c.if-mark_at-ne-STRUCT_MARK.true (own-struct o c.if-len-gt1024.false (omega (arith, c.if-len-lt5.false)) c.mark_at.ensures)

pub returns-then-fields-eq0 : goal.returns-then-fields-eq0
returns-then-fields-eq0 c = λ o. let r = own_root o in omega (arith, r.some, c.wide-fields.ensures.0, c.if-fields-eq0.true)

pub returns-then-fields-gt128 : goal.returns-then-fields-gt128
returns-then-fields-gt128 c = λ o. let r = own_root o in omega (arith, r.few, c.wide-fields.ensures.0, c.if-fields-gt128.true)

pub bounds-t-0 : goal.bounds-t-0
bounds-t-0 c = omega (arith, c.if-all-fields.false)

pub overflow_mul-fields : goal.overflow_mul-fields
overflow_mul-fields c = let r = few-fields (goal.at.overflow_mul-fields c).Else-fields-gt128 in omega (arith, r.0, r.1)

pub overflow_add-fields : goal.overflow_add-fields
overflow_add-fields c = let r = few-fields (goal.at.overflow_add-fields c).Else-fields-gt128 in omega (arith, r.0, r.1)

pub overflow_mul-all-2 : goal.overflow_mul-all-2
overflow_mul-all-2 c = let r = few-fields (goal.at.overflow_mul-all-2 c).Else-fields-gt128 in omega (arith, r.0, r.1)

pub overflow_add-fields-2 : goal.overflow_add-fields-2
overflow_add-fields-2 c = let r = few-fields (goal.at.overflow_add-fields-2 c).Else-fields-gt128 in omega (arith, r.0, r.1)

pub returns-then-t-fields : goal.returns-then-t-fields
returns-then-t-fields c = λ o. let r = own_root o in c.if-t-fields.true (r.entry ∙ rw (sym c.wide-fields.ensures.0))

pub loop-lines-init : goal.loop-lines-init
loop-lines-init c = follow-start (starts (goal.at.loop-lines-init c).Else-t-fields)

pub offset_bounds-t-i : goal.offset_bounds-t-i
offset_bounds-t-i c = omega (arith, small c.loop-lines.invariant.follows, word_in c.loop-lines.invariant)

pub bounds-t-i : goal.bounds-t-i
bounds-t-i c = word_in c.loop-lines.invariant

pub slice_bounds-is_leaf-end : goal.slice_bounds-is_leaf-end
slice_bounds-is_leaf-end c = refl

pub is_leaf-requires : goal.is_leaf-requires
unfolding leaves_of
is_leaf-requires c = refl

pub overflow_mul-i : goal.overflow_mul-i
overflow_mul-i c = omega (arith, small c.loop-lines.invariant.follows, word_in c.loop-lines.invariant)

pub overflow_add-i : goal.overflow_add-i
overflow_add-i c = omega (arith, small c.loop-lines.invariant.follows, word_in c.loop-lines.invariant)

pub mark_at-requires-then-is_leaf : goal.mark_at-requires-then-is_leaf
mark_at-requires-then-is_leaf c = mark-in c.loop-lines.invariant

pub returns-then-mark_at-w : goal.returns-then-mark_at-w
returns-then-mark_at-w c = λ o.
    c.if-mark_at-w.true (own-mark (takes (goal.at.returns-then-mark_at-w c).After-wrapping_sub_u64-w) c.mark_at-then-is_leaf.ensures o ∙ sym (mask_is c.wrapping_sub_u64-w.result 16))

pub overflow_add-i-then-is_leaf : goal.overflow_add-i-then-is_leaf
overflow_add-i-then-is_leaf c = omega (arith, small c.loop-lines.invariant.follows, word_in c.loop-lines.invariant)

pub overflow_add-base : goal.overflow_add-base
overflow_add-base c = omega (arith, small c.loop-lines.invariant.follows, word_in c.loop-lines.invariant)

pub overflow_sub-n : goal.overflow_sub-n
overflow_sub-n c = c.loop-lines.invariant.some

pub loop-n-init : goal.loop-n-init
loop-n-init c = follow-leaf (takes (goal.at.loop-n-init c).After-wrapping_sub_u64-w) (is_one (goal.at.loop-n-init c).Then-is_leaf) c.mark_at-then-is_leaf.ensures (c.if-mark_at-w.false ∙ mask_is c.wrapping_sub_u64-w.result 16)

pub returns-then-left-eq1 : goal.returns-then-left-eq1
returns-then-left-eq1 c = tells c.loop-n.invariant c.loop-n-test.true c.if-d-eq0.true c.if-left-eq1.true

pub returns-else-left-eq1 : goal.returns-else-left-eq1
returns-else-left-eq1 c = tells-not c.loop-n.invariant c.loop-n-test.true c.if-d-eq0.true c.if-left-eq1.false

pub offset_bounds-frames-d : goal.offset_bounds-frames-d
offset_bounds-frames-d c = omega (arith, small c.loop-n.invariant)

pub bounds-frames-d : goal.bounds-frames-d
bounds-frames-d c = omega (arith, small c.loop-n.invariant)

pub offset_bounds-t-p : goal.offset_bounds-t-p
offset_bounds-t-p c = let f = c.loop-n.invariant in
    let r = place_in f c.loop-n-test.true in
    omega (arith, r, small f, f.asked)

pub bounds-t-p : goal.bounds-t-p
bounds-t-p c = place_in c.loop-n.invariant c.loop-n-test.true

pub returns-then-t-p : goal.returns-then-t-p
returns-then-t-p c = λ o.
    c.if-t-p.true (own-end c.loop-n.invariant c.loop-n-test.true o c.if-d-eq0.false)

pub overflow_sub-d : goal.overflow_sub-d
overflow_sub-d c = omega (arith, c.if-d-eq0.false)

pub overflow_sub-base : goal.overflow_sub-base
overflow_sub-base c = omega (arith, small c.loop-n.invariant)

pub loop-n-smaller : goal.loop-n-smaller
loop-n-smaller c = omega (arith, c.if-d-eq0.false)

pub loop-n-preserved : goal.loop-n-preserved
loop-n-preserved c = let frames = c.loop-lines.frames in
    rw (mask_is (get_or frames c.loop-n.d 0) 8) (follow-pop c.loop-n.invariant c.loop-n-test.true c.if-d-eq0.false c.if-t-p.false)

pub loop-lines-smaller-then-is_leaf : goal.loop-lines-smaller-then-is_leaf
loop-lines-smaller-then-is_leaf c = omega (arith, word_in c.loop-lines.invariant)

pub loop-lines-preserved-then-is_leaf : goal.loop-lines-preserved-then-is_leaf
loop-lines-preserved-then-is_leaf c = record { follows = c.loop-n.invariant; some = omega (arith, c.loop-n-test.false) }

pub returns-then-d-eq6 : goal.returns-then-d-eq6
returns-then-d-eq6 c = λ o.
    let h = own-shallow (takes (goal.at.returns-then-d-eq6 c).After-wrapping_sub_u64-w) (λ j. omega (arith, c.type_inv.s j)) o (is_none (goal.at.returns-then-d-eq6 c).Else-is_leaf) in
    omega (arith, h, c.if-d-eq6.true)

pub overflow_mul-i-in-loop-lines : goal.overflow_mul-i-in-loop-lines
overflow_mul-i-in-loop-lines c = omega (arith, small c.loop-lines.invariant.follows, word_in c.loop-lines.invariant)

pub overflow_add-i-in-loop-lines : goal.overflow_add-i-in-loop-lines
overflow_add-i-in-loop-lines c = omega (arith, small c.loop-lines.invariant.follows, word_in c.loop-lines.invariant)

pub mark_at-m-requires : goal.mark_at-m-requires
mark_at-m-requires c = mark-in c.loop-lines.invariant

pub returns-then-extra-most : goal.returns-then-extra-most
returns-then-extra-most c = λ o. own-beyond (holder (goal.at.returns-then-extra-most c).After-mark_at-m o) c.if-m-eq-STRUCT_MARK.true c.if-extra-most.true

pub overflow_mul-i-then-m-eq-STRUCT_MARK : goal.overflow_mul-i-then-m-eq-STRUCT_MARK
overflow_mul-i-then-m-eq-STRUCT_MARK c = omega (arith, small c.loop-lines.invariant.follows, word_in c.loop-lines.invariant)

pub overflow_add-i-then-m-eq-STRUCT_MARK : goal.overflow_add-i-then-m-eq-STRUCT_MARK
overflow_add-i-then-m-eq-STRUCT_MARK c = omega (arith, small c.loop-lines.invariant.follows, word_in c.loop-lines.invariant)

pub overflow_add-i-then-m-eq-STRUCT_MARK-2 : goal.overflow_add-i-then-m-eq-STRUCT_MARK-2
overflow_add-i-then-m-eq-STRUCT_MARK-2 c = omega (arith, small c.loop-lines.invariant.follows, word_in c.loop-lines.invariant)

pub bounds-s-i : goal.bounds-s-i
bounds-s-i c = let f = c.loop-lines.invariant in
    omega (arith, word_in f, f.follows.beyond, c.if-extra-most.false)

pub returns-then-c-eq0 : goal.returns-then-c-eq0
returns-then-c-eq0 c = λ o. own-some (holder (goal.at.returns-then-c-eq0 c).After-mark_at-m o) c.if-m-eq-STRUCT_MARK.true c.wide-c.ensures.0 c.if-c-eq0.true

pub returns-then-c-gt128 : goal.returns-then-c-gt128
returns-then-c-gt128 c = λ o.
    let r = own-few (holder (goal.at.returns-then-c-gt128 c).After-mark_at-m o) c.if-m-eq-STRUCT_MARK.true c.wide-c.ensures.0 in
    omega (arith, r, c.if-c-gt128.true)

pub overflow_mul-c : goal.overflow_mul-c
overflow_mul-c c = omega (arith, c.if-c-gt128.false)

pub overflow_add-c : goal.overflow_add-c
overflow_add-c c = omega (arith, c.if-c-gt128.false)

pub returns-then-w-c : goal.returns-then-w-c
returns-then-w-c c = λ o.
    c.if-w-c.true (mask_is c.wrapping_sub_u64-w.result 54 ∙ own-entry (holder (goal.at.returns-then-w-c c).After-mark_at-m o) c.if-m-eq-STRUCT_MARK.true c.wide-c.ensures.0)

pub returns-then-left-c : goal.returns-then-left-c
returns-then-left-c c = λ o.
    let r = own-left (holder (goal.at.returns-then-left-c c).After-mark_at-m o) c.if-m-eq-STRUCT_MARK.true c.wide-c.ensures.0 c.loop-lines.invariant.follows.asked in
    omega (arith, r, c.if-left-c.true)

pub overflow_sub-left-then-m-eq-STRUCT_MARK : goal.overflow_sub-left-then-m-eq-STRUCT_MARK
overflow_sub-left-then-m-eq-STRUCT_MARK c = omega (arith, c.if-left-c.false)

pub overflow_add-extra : goal.overflow_add-extra
overflow_add-extra c = omega (arith, small c.loop-lines.invariant.follows, word_in c.loop-lines.invariant)

pub overflow_add-d : goal.overflow_add-d
overflow_add-d c = omega (arith, small c.loop-lines.invariant.follows, word_in c.loop-lines.invariant)

pub overflow_mul-frames : goal.overflow_mul-frames
overflow_mul-frames c = omega (arith, small c.loop-lines.invariant.follows, word_in c.loop-lines.invariant)

pub overflow_sub-frames : goal.overflow_sub-frames
overflow_sub-frames c = c.loop-lines.invariant.some

pub overflow_add-frames : goal.overflow_add-frames
overflow_add-frames c = omega (arith, small c.loop-lines.invariant.follows, word_in c.loop-lines.invariant)

pub offset_bounds-frames-d-then-m-eq-STRUCT_MARK : goal.offset_bounds-frames-d-then-m-eq-STRUCT_MARK
offset_bounds-frames-d-then-m-eq-STRUCT_MARK c = omega (arith, small c.loop-lines.invariant.follows, word_in c.loop-lines.invariant)

pub bounds-frames-d-then-m-eq-STRUCT_MARK : goal.bounds-frames-d-then-m-eq-STRUCT_MARK
bounds-frames-d-then-m-eq-STRUCT_MARK c = omega (arith, small c.loop-lines.invariant.follows, c.if-d-eq6.false)

pub overflow_add-i-then-m-eq-STRUCT_MARK-3 : goal.overflow_add-i-then-m-eq-STRUCT_MARK-3
overflow_add-i-then-m-eq-STRUCT_MARK-3 c = omega (arith, small c.loop-lines.invariant.follows, word_in c.loop-lines.invariant)

pub overflow_add-base-then-m-eq-STRUCT_MARK : goal.overflow_add-base-then-m-eq-STRUCT_MARK
overflow_add-base-then-m-eq-STRUCT_MARK c = omega (arith, small c.loop-lines.invariant.follows, word_in c.loop-lines.invariant)

pub loop-lines-smaller-then-m-eq-STRUCT_MARK : goal.loop-lines-smaller-then-m-eq-STRUCT_MARK
loop-lines-smaller-then-m-eq-STRUCT_MARK c = omega (arith, word_in c.loop-lines.invariant)

pub loop-lines-preserved-then-m-eq-STRUCT_MARK : goal.loop-lines-preserved-then-m-eq-STRUCT_MARK
loop-lines-preserved-then-m-eq-STRUCT_MARK c = follow-struct (takes (goal.at.loop-lines-preserved-then-m-eq-STRUCT_MARK c).After-wrapping_sub_u64-w) c.mark_at-m.ensures c.if-d-eq6.false (omega (arith, c.if-left-c.false))
    c.if-c-eq0.false c.if-m-eq-STRUCT_MARK.true c.if-extra-most.false c.wide-c.ensures.0 c.if-c-gt128.false
    (sym (mask_is c.wrapping_sub_u64-w.result 54) ∙ c.if-w-c.false)

pub returns-then-m-w : goal.returns-then-m-w
returns-then-m-w c = λ o.
    c.if-m-w.true (own-mark (takes (goal.at.returns-then-m-w c).After-wrapping_sub_u64-w) c.mark_at-m.ensures o ∙ sym (mask_is c.wrapping_sub_u64-w.result 16))

pub returns-in_default : goal.returns-in_default
returns-in_default c = λ o.
    other-some (holder (goal.at.returns-in_default c).After-mark_at-m o) c.if-m-eq-STRUCT_MARK.false c.in_default.ensures

pub returns-then-left-c-2 : goal.returns-then-left-c-2
returns-then-left-c-2 c = λ o.
    let f = c.loop-lines.invariant.follows in
    let r = other-left (holder (goal.at.returns-then-left-c-2 c).After-mark_at-m o) c.if-m-eq-STRUCT_MARK.false c.in-Some.ensures.0 f.asked in
    omega (arith, r, c.if-left-c-2.true)

pub overflow_sub-left-in-loop-lines : goal.overflow_sub-left-in-loop-lines
overflow_sub-left-in-loop-lines c = omega (arith, c.if-left-c-2.false)

pub overflow_add-d-in-loop-lines : goal.overflow_add-d-in-loop-lines
overflow_add-d-in-loop-lines c = omega (arith, small c.loop-lines.invariant.follows, word_in c.loop-lines.invariant)

pub overflow_mul-frames-in-loop-lines : goal.overflow_mul-frames-in-loop-lines
overflow_mul-frames-in-loop-lines c = omega (arith, small c.loop-lines.invariant.follows, word_in c.loop-lines.invariant)

pub overflow_sub-frames-in-loop-lines : goal.overflow_sub-frames-in-loop-lines
overflow_sub-frames-in-loop-lines c = c.loop-lines.invariant.some

pub overflow_add-frames-in-loop-lines : goal.overflow_add-frames-in-loop-lines
overflow_add-frames-in-loop-lines c = omega (arith, small c.loop-lines.invariant.follows, word_in c.loop-lines.invariant)

pub offset_bounds-frames-d-in-loop-lines : goal.offset_bounds-frames-d-in-loop-lines
offset_bounds-frames-d-in-loop-lines c = omega (arith, small c.loop-lines.invariant.follows, word_in c.loop-lines.invariant)

pub bounds-frames-d-in-loop-lines : goal.bounds-frames-d-in-loop-lines
bounds-frames-d-in-loop-lines c = omega (arith, small c.loop-lines.invariant.follows, c.if-d-eq6.false)

pub overflow_add-i-in-loop-lines-2 : goal.overflow_add-i-in-loop-lines-2
overflow_add-i-in-loop-lines-2 c = omega (arith, small c.loop-lines.invariant.follows, word_in c.loop-lines.invariant)

pub overflow_add-base-in-loop-lines : goal.overflow_add-base-in-loop-lines
overflow_add-base-in-loop-lines c = omega (arith, small c.loop-lines.invariant.follows, word_in c.loop-lines.invariant)

pub loop-lines-smaller : goal.loop-lines-smaller
loop-lines-smaller c = omega (arith, word_in c.loop-lines.invariant)

pub loop-lines-preserved : goal.loop-lines-preserved
loop-lines-preserved c = follow-other (takes (goal.at.loop-lines-preserved c).After-wrapping_sub_u64-w) c.mark_at-m.ensures c.if-d-eq6.false
    (omega (arith, c.if-left-c-2.false)) (λ z. omega (arith, c.in-Some.ensures.1, z)) (c.if-m-w.false ∙ mask_is c.wrapping_sub_u64-w.result 16) c.in-Some.ensures.0
