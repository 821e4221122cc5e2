-- `table::build` meets its contract: the invariant says what the fields left at each depth lead to. Assumes nothing.
use Rattle.std.proofs.Common.{◌≡◌, ◌+◌, ◌-◌, ◌/◌, length, get_or, set, sym, refl, ◌∙◌, arith}
use Rattle.words.proofs.Powers.{mask_is}
use Rattle.table.specs.Words.{lines_of}
use Rattle.table.proofs.Lines.{mark-small}
use Rattle.table.proofs.Rooting.{Headed, Rooted, refuse-long, refuse-short, start-other, start-shut, start-looking, fields-scaled}
use Rattle.table.proofs.Rooting.{root-fits, root_in, root_kept}
use Rattle.table.proofs.Building.{Scanned, Marked, OpenHolder, Leaving, is-marked, unmarked, is-opened, still, mark-end}
use Rattle.table.proofs.Building.{going-short, going-leaf, going-deep, going-shut, going-pop, going_done, going-over, pop_kept}
use Rattle.table.proofs.Building.{pop-falls, going_less, leaf-kept, leaf-falls, one_less, end_fits, place_in, place-scaled, place-next, leaf-fits}
use Rattle.table.proofs.Building.{base-next, frame-scaled, frame-in, holder_in, holder-scaled, after-scaled, base-less, holding}
use Rattle.table.proofs.Opening.{behind-room, deeper, deeper-scaled, deeper-in, frame-place, frame-fits, held-scaled, held_fits, next-scaled}
use Rattle.table.proofs.Opening.{base_more, open-fits, base-deeper, push_kept, push-falls, going-push}
use Rattle.table.proofs.build.Goals as goal
use Rattle.table.proofs.build.Goals.{After-mark_at, After-held-fields, At-loop-at, After-line_of-w, Else-w-m, Else-c-eq0, After-wrapping_add_u64}

-- what is known at a place, said once
headed : (c : After-mark_at) → Headed c.args.s.now c.args.t.now c.mark_at.result
headed c = record {
  short = c.if-len-gt1024.false;
  three = c.if-len-lt3.false;
  roomy = c.requires;
  mark = c.mark_at.ensures;
}

rooted : (c : After-held-fields) → Rooted c.args.s.now c.args.t.now c.mark_at.result c.held-fields.result
rooted c = record {
  headed = record {
    short = c.if-len-gt1024.false;
    three = c.if-len-lt3.false;
    roomy = c.requires;
    mark = c.mark_at.ensures;
  };
  struct = c.if-mark_at-ne-STRUCT_MARK.false;
  held = c.held-fields.ensures;
}

room-kept : (c : At-loop-at) → length c.loop-at.t ≡ length c.args.t.now
room-kept c =
    root_kept {s = c.args.s.now} (record {
      headed = record {
        short = c.if-len-gt1024.false;
        three = c.if-len-lt3.false;
        roomy = c.requires;
        mark = c.mark_at.ensures;
      };
      struct = c.if-mark_at-ne-STRUCT_MARK.false;
      held = c.held-fields.ensures;
    }) c.loop-at.invariant.1

scanned : (c : After-line_of-w)
    → let l = c.loop-at in Scanned c.args.s.now l.t l.frames l.d l.at l.i l.n l.base c.mark_at-m.result c.line_of-w.result
scanned c = record {
  looking = c.loop-at.invariant.0;
  room = c.if-len-at.false;
  mark = c.mark_at-m.ensures;
  line = c.line_of-w.ensures;
}

marked : (c : Else-w-m)
    → let l = c.loop-at in
    let w = c.line_of-w.result in
    Marked c.args.s.now l.t l.frames l.d l.at l.i l.n l.base w (w / 268435456)
marked c =
    is-marked {s = c.args.s.now} (record {
      looking = c.loop-at.invariant.0;
      room = c.if-len-at.false;
      mark = c.mark_at-m.ensures;
      line = c.line_of-w.ensures;
    }) (sym (mask_is c.line_of-w.result 16) ∙ c.if-w-m.false)

opened : (c : Else-c-eq0)
    → let l = c.loop-at in
    let w = c.line_of-w.result in
    Marked c.args.s.now l.t l.frames l.d l.at l.i l.n l.base w (w / 268435456)
    → OpenHolder c.args.s.now l.t l.frames l.d l.at l.i l.n l.base w (w / 268435456) c.held-c.result
opened c m = is-opened m c.if-w-lt-CONTAINERS.false c.held-c.ensures c.if-d-eq6.false c.if-c-eq0.false

leaving : (c : After-wrapping_add_u64)
    → let a = c.loop-at in
    let p = c.loop-n in
    Leaving c.args.s.now p.t a.frames p.d (a.at + 2) (a.i + 1) p.n p.base c.wrapping_add_u64.result
leaving c = record { going = c.loop-n.invariant.0; none = c.loop-n-test.true; word = c.wrapping_add_u64.ensures.value }

left-kept : (c : After-wrapping_add_u64)
    → let a = c.loop-at in
    let p = c.loop-n in
    let w = c.line_of-w.result in
    Marked c.args.s.now a.t a.frames a.d a.at a.i a.n a.base w (w / 268435456)
    → length a.t ≡ length c.args.t.now
    → length (set p.t (get_or a.frames p.d 0 / 256) c.wrapping_add_u64.result) ≡ length c.args.t.now
left-kept c m k = pop_kept (leaving c) (leaf-kept m c.loop-n.invariant.1 k)

pub returns-then-len-gt1024 : goal.returns-then-len-gt1024
returns-then-len-gt1024 c = refuse-long c.if-len-gt1024.true

pub returns-then-len-lt3 : goal.returns-then-len-lt3
returns-then-len-lt3 c = refuse-short c.if-len-lt3.true

pub returns-then-mark_at-ne-STRUCT_MARK : goal.returns-then-mark_at-ne-STRUCT_MARK
returns-then-mark_at-ne-STRUCT_MARK c = start-other (headed (goal.at.returns-then-mark_at-ne-STRUCT_MARK c).After-mark_at) c.if-mark_at-ne-STRUCT_MARK.true

pub held-fields-requires : goal.held-fields-requires
held-fields-requires c = (omega arith, omega arith)

pub returns-then-fields-eq0 : goal.returns-then-fields-eq0
returns-then-fields-eq0 c = start-shut (rooted (goal.at.returns-then-fields-eq0 c).After-held-fields) c.if-fields-eq0.true

pub overflow_mul-t : goal.overflow_mul-t
overflow_mul-t c = fields-scaled (rooted (goal.at.overflow_mul-t c).After-held-fields)

pub overflow_add-t : goal.overflow_add-t
overflow_add-t c = root-fits (rooted (goal.at.overflow_add-t c).After-held-fields)

pub bounds-t-0 : goal.bounds-t-0
bounds-t-0 c = root_in (rooted (goal.at.bounds-t-0 c).After-held-fields)

pub loop-at-init : goal.loop-at-init
loop-at-init c = (start-looking (rooted (goal.at.loop-at-init c).After-held-fields) c.if-fields-eq0.false, refl)

pub overflow_add-at : goal.overflow_add-at
overflow_add-at c = mark-end c.loop-at.invariant.0

pub shape_of-t-then-len-at : goal.shape_of-t-then-len-at
shape_of-t-then-len-at c = room-kept (goal.at.shape_of-t-then-len-at c).At-loop-at

pub returns-then-len-at : goal.returns-then-len-at
returns-then-len-at c = going-short c.loop-at.invariant.0 c.if-len-at.true

pub mark_at-m-requires : goal.mark_at-m-requires
mark_at-m-requires c = c.if-len-at.false

pub slice_bounds-line_of-end : goal.slice_bounds-line_of-end
slice_bounds-line_of-end c = refl

pub line_of-w-requires : goal.line_of-w-requires
unfolding lines_of
line_of-w-requires c = (refl, search mark-small)

pub shape_of-t-then-w-m : goal.shape_of-t-then-w-m
shape_of-t-then-w-m c = room-kept (goal.at.shape_of-t-then-w-m c).At-loop-at

pub returns-then-w-m : goal.returns-then-w-m
returns-then-w-m c = unmarked (scanned (goal.at.returns-then-w-m c).After-line_of-w) (λ e. c.if-w-m.true (mask_is c.line_of-w.result 16 ∙ e))

pub overflow_sub-n : goal.overflow_sub-n
overflow_sub-n c = one_less (marked (goal.at.overflow_sub-n c).Else-w-m)

pub overflow_add-t-then-w-lt-CONTAINERS : goal.overflow_add-t-then-w-lt-CONTAINERS
overflow_add-t-then-w-lt-CONTAINERS c = leaf-fits (marked (goal.at.overflow_add-t-then-w-lt-CONTAINERS c).Else-w-m)

pub offset_bounds-t-i : goal.offset_bounds-t-i
offset_bounds-t-i c = place-scaled (marked (goal.at.offset_bounds-t-i c).Else-w-m)

pub bounds-t-i : goal.bounds-t-i
bounds-t-i c = place_in (marked (goal.at.bounds-t-i c).Else-w-m)

pub overflow_add-at-then-w-lt-CONTAINERS : goal.overflow_add-at-then-w-lt-CONTAINERS
overflow_add-at-then-w-lt-CONTAINERS c = end_fits (marked (goal.at.overflow_add-at-then-w-lt-CONTAINERS c).Else-w-m)

pub overflow_add-i : goal.overflow_add-i
overflow_add-i c = place-next (marked (goal.at.overflow_add-i c).Else-w-m)

pub overflow_add-base : goal.overflow_add-base
overflow_add-base c = base-next (marked (goal.at.overflow_add-base c).Else-w-m)

pub loop-n-init : goal.loop-n-init
loop-n-init c = (going-leaf (marked (goal.at.loop-n-init c).Else-w-m) c.if-w-lt-CONTAINERS.true, refl)

pub offset_bounds-frames-d : goal.offset_bounds-frames-d
offset_bounds-frames-d c = frame-scaled c.loop-n.invariant.0

pub bounds-frames-d : goal.bounds-frames-d
bounds-frames-d c = frame-in c.loop-n.invariant.0

pub offset_bounds-t-p : goal.offset_bounds-t-p
offset_bounds-t-p c = holder-scaled c.loop-n.invariant.0

pub bounds-t-p : goal.bounds-t-p
bounds-t-p c = holder_in c.loop-n.invariant.0

pub overflow_mul-i : goal.overflow_mul-i
overflow_mul-i c = after-scaled c.loop-n.invariant.0

pub offset_bounds-t-p-in-loop-n : goal.offset_bounds-t-p-in-loop-n
offset_bounds-t-p-in-loop-n c = holder-scaled c.loop-n.invariant.0

pub bounds-t-p-in-loop-n : goal.bounds-t-p-in-loop-n
bounds-t-p-in-loop-n c = holder_in c.loop-n.invariant.0

pub shape_of-t-then-at-len : goal.shape_of-t-then-at-len
shape_of-t-then-at-len c = left-kept (goal.at.shape_of-t-then-at-len c).After-wrapping_add_u64 (marked (goal.at.shape_of-t-then-at-len c).Else-w-m) (room-kept (goal.at.shape_of-t-then-at-len c).At-loop-at)

pub returns-then-at-len : goal.returns-then-at-len
returns-then-at-len c = going_done (leaving (goal.at.returns-then-at-len c).After-wrapping_add_u64) c.if-d-eq0.true c.if-at-len.true

pub shape_of-t-then-d-eq0 : goal.shape_of-t-then-d-eq0
shape_of-t-then-d-eq0 c = left-kept (goal.at.shape_of-t-then-d-eq0 c).After-wrapping_add_u64 (marked (goal.at.shape_of-t-then-d-eq0 c).Else-w-m) (room-kept (goal.at.shape_of-t-then-d-eq0 c).At-loop-at)

pub returns-then-d-eq0 : goal.returns-then-d-eq0
returns-then-d-eq0 c = going-over (leaving (goal.at.returns-then-d-eq0 c).After-wrapping_add_u64) c.if-d-eq0.true c.if-at-len.false

pub overflow_sub-d : goal.overflow_sub-d
overflow_sub-d c = going_less (leaving (goal.at.overflow_sub-d c).After-wrapping_add_u64) c.if-d-eq0.false

pub overflow_sub-base : goal.overflow_sub-base
overflow_sub-base c = base-less c.loop-n.invariant.0

pub loop-n-smaller : goal.loop-n-smaller
loop-n-smaller c = pop-falls (leaving (goal.at.loop-n-smaller c).After-wrapping_add_u64) c.if-d-eq0.false

pub loop-n-preserved : goal.loop-n-preserved
loop-n-preserved c = let frames = c.loop-at.frames in
    let p = c.loop-n in
    (rw (mask_is (get_or frames p.d 0) 8) (going-pop (leaving (goal.at.loop-n-preserved c).After-wrapping_add_u64) c.if-d-eq0.false), pop_kept (leaving (goal.at.loop-n-preserved c).After-wrapping_add_u64) p.invariant.1)

pub loop-at-smaller-then-w-lt-CONTAINERS : goal.loop-at-smaller-then-w-lt-CONTAINERS
loop-at-smaller-then-w-lt-CONTAINERS c = leaf-falls (marked (goal.at.loop-at-smaller-then-w-lt-CONTAINERS c).Else-w-m)

pub loop-at-preserved-then-w-lt-CONTAINERS : goal.loop-at-preserved-then-w-lt-CONTAINERS
loop-at-preserved-then-w-lt-CONTAINERS c = (
  still c.loop-n.invariant.0 c.loop-n-test.false,
  leaf-kept (marked (goal.at.loop-at-preserved-then-w-lt-CONTAINERS c).Else-w-m) c.loop-n.invariant.1 c.loop-at.invariant.1,
)

pub shape_of-t-then-d-eq6 : goal.shape_of-t-then-d-eq6
shape_of-t-then-d-eq6 c = room-kept (goal.at.shape_of-t-then-d-eq6 c).At-loop-at

pub returns-then-d-eq6 : goal.returns-then-d-eq6
returns-then-d-eq6 c = going-deep (marked (goal.at.returns-then-d-eq6 c).Else-w-m) c.if-w-lt-CONTAINERS.false c.if-d-eq6.true

pub overflow_add-at-in-loop-at : goal.overflow_add-at-in-loop-at
overflow_add-at-in-loop-at c = end_fits (marked (goal.at.overflow_add-at-in-loop-at c).Else-w-m)

pub held-c-requires : goal.held-c-requires
held-c-requires c = holding (marked (goal.at.held-c-requires c).Else-w-m) c.if-w-lt-CONTAINERS.false

pub shape_of-t-then-c-eq0 : goal.shape_of-t-then-c-eq0
shape_of-t-then-c-eq0 c = room-kept (goal.at.shape_of-t-then-c-eq0 c).At-loop-at

pub returns-then-c-eq0 : goal.returns-then-c-eq0
returns-then-c-eq0 c = going-shut (marked (goal.at.returns-then-c-eq0 c).Else-w-m) c.if-w-lt-CONTAINERS.false c.held-c.ensures c.if-c-eq0.true

pub overflow_add-at-in-loop-at-2 : goal.overflow_add-at-in-loop-at-2
overflow_add-at-in-loop-at-2 c = end_fits (marked (goal.at.overflow_add-at-in-loop-at-2 c).Else-w-m)

pub behind-at-requires : goal.behind-at-requires
behind-at-requires c = behind-room (opened (goal.at.behind-at-requires c).Else-c-eq0 (marked (goal.at.behind-at-requires c).Else-w-m))

pub overflow_add-d : goal.overflow_add-d
overflow_add-d c = deeper (opened (goal.at.overflow_add-d c).Else-c-eq0 (marked (goal.at.overflow_add-d c).Else-w-m))

pub overflow_mul-frames : goal.overflow_mul-frames
overflow_mul-frames c = frame-place (opened (goal.at.overflow_mul-frames c).Else-c-eq0 (marked (goal.at.overflow_mul-frames c).Else-w-m))

pub overflow_add-frames : goal.overflow_add-frames
overflow_add-frames c = frame-fits (opened (goal.at.overflow_add-frames c).Else-c-eq0 (marked (goal.at.overflow_add-frames c).Else-w-m))

pub offset_bounds-frames-d-in-loop-at : goal.offset_bounds-frames-d-in-loop-at
offset_bounds-frames-d-in-loop-at c = deeper-scaled (opened (goal.at.offset_bounds-frames-d-in-loop-at c).Else-c-eq0 (marked (goal.at.offset_bounds-frames-d-in-loop-at c).Else-w-m))

pub bounds-frames-d-in-loop-at : goal.bounds-frames-d-in-loop-at
bounds-frames-d-in-loop-at c = deeper-in (opened (goal.at.bounds-frames-d-in-loop-at c).Else-c-eq0 (marked (goal.at.bounds-frames-d-in-loop-at c).Else-w-m))

pub overflow_mul-t-in-loop-at : goal.overflow_mul-t-in-loop-at
overflow_mul-t-in-loop-at c = held-scaled (opened (goal.at.overflow_mul-t-in-loop-at c).Else-c-eq0 (marked (goal.at.overflow_mul-t-in-loop-at c).Else-w-m))

pub overflow_add-t-in-loop-at : goal.overflow_add-t-in-loop-at
overflow_add-t-in-loop-at c = held_fits (opened (goal.at.overflow_add-t-in-loop-at c).Else-c-eq0 (marked (goal.at.overflow_add-t-in-loop-at c).Else-w-m))

pub overflow_add-t-in-loop-at-2 : goal.overflow_add-t-in-loop-at-2
overflow_add-t-in-loop-at-2 c = place-next (marked (goal.at.overflow_add-t-in-loop-at-2 c).Else-w-m)

pub overflow_mul-t-in-loop-at-2 : goal.overflow_mul-t-in-loop-at-2
overflow_mul-t-in-loop-at-2 c = next-scaled (opened (goal.at.overflow_mul-t-in-loop-at-2 c).Else-c-eq0 (marked (goal.at.overflow_mul-t-in-loop-at-2 c).Else-w-m))

pub overflow_sub-t : goal.overflow_sub-t
overflow_sub-t c = base_more (opened (goal.at.overflow_sub-t c).Else-c-eq0 (marked (goal.at.overflow_sub-t c).Else-w-m))

pub overflow_add-t-in-loop-at-3 : goal.overflow_add-t-in-loop-at-3
overflow_add-t-in-loop-at-3 c = open-fits (opened (goal.at.overflow_add-t-in-loop-at-3 c).Else-c-eq0 (marked (goal.at.overflow_add-t-in-loop-at-3 c).Else-w-m))

pub offset_bounds-t-i-in-loop-at : goal.offset_bounds-t-i-in-loop-at
offset_bounds-t-i-in-loop-at c = place-scaled (marked (goal.at.offset_bounds-t-i-in-loop-at c).Else-w-m)

pub bounds-t-i-in-loop-at : goal.bounds-t-i-in-loop-at
bounds-t-i-in-loop-at c = place_in (marked (goal.at.bounds-t-i-in-loop-at c).Else-w-m)

pub overflow_add-i-in-loop-at : goal.overflow_add-i-in-loop-at
overflow_add-i-in-loop-at c = place-next (marked (goal.at.overflow_add-i-in-loop-at c).Else-w-m)

pub overflow_add-base-in-loop-at : goal.overflow_add-base-in-loop-at
overflow_add-base-in-loop-at c = base-deeper (opened (goal.at.overflow_add-base-in-loop-at c).Else-c-eq0 (marked (goal.at.overflow_add-base-in-loop-at c).Else-w-m))

pub loop-at-smaller : goal.loop-at-smaller
loop-at-smaller c = push-falls (opened (goal.at.loop-at-smaller c).Else-c-eq0 (marked (goal.at.loop-at-smaller c).Else-w-m)) c.behind-at.ensures

pub loop-at-preserved : goal.loop-at-preserved
loop-at-preserved c = (going-push (opened (goal.at.loop-at-preserved c).Else-c-eq0 (marked (goal.at.loop-at-preserved c).Else-w-m)) c.behind-at.ensures, push_kept (opened (goal.at.loop-at-preserved c).Else-c-eq0 (marked (goal.at.loop-at-preserved c).Else-w-m)) c.loop-at.invariant.1)
