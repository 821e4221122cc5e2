-- `card::batches::rows_text` meets its contract: the frames passed so far are the first of the batch, and the text of their rows stands.
-- Assumes nothing.
use mathlib.Core.Path.{refl, sym, ◌∙◌}
use mathlib.Core.Bool.{true≢false}
use native.Mathlib.Omega.{arith}
use Rattle.words.proofs.Numbers.{bytes_of}
use Rattle.table.specs.Tables.{schema_of}
use Rattle.batch.proofs.Passing.{passed_start, passed-fits, passed-next}
use Rattle.card.proofs.Lengths.{heading-most}
use Rattle.card.proofs.Turns.{next_row, at_end, written_start, written_next, written-few, written-fits, written-end}
use Rattle.card.proofs.batches.rows_text.Goals as goal

pub loop-end-init : goal.loop-end-init
loop-end-init g c = (passed_start _, written_start _ _ c.requires.2)

pub spill-requires : goal.spill-requires
spill-requires g c = let w = c.loop-end.invariant.1 in omega (arith, w.within, w.long)

pub heading-next-requires : goal.heading-next-requires
heading-next-requires g c = let w = c.loop-end.invariant.1 in omega (arith, w.room, w.long, c.in_ok-line.ensures.spilt.few)

pub whole-requires : goal.whole-requires
whole-requires g c =
    let bytes = bytes_of c.args.b.now (λ i. (c.type_inv.b i).fits) in
    let x = next_row (schema_of c.args.t.now) c.args.b.now bytes c.requires.1 c.loop-end.invariant.0 c.in-Some.ensures in
    let w = c.loop-end.invariant.1 in
    let h = c.heading-next in (
      record { table = c.requires.0; short = x.ready.short },
      h.auto.out ∙ w.long ∙ w.room,
      omega (arith, h.ensures.next, heading-most c.loop-end.n, c.in_ok-line.ensures.spilt.few),
    )

pub overflow_add-n : goal.overflow_add-n
overflow_add-n g c = omega (arith, passed-fits c.loop-end.invariant.0 c.in-Some.ensures)

pub loop-end-preserved : goal.loop-end-preserved
loop-end-preserved g c =
    let bytes = bytes_of c.args.b.now (λ i. (c.type_inv.b i).fits) in
    let x = next_row (schema_of c.args.t.now) c.args.b.now bytes c.requires.1 c.loop-end.invariant.0 c.in-Some.ensures in
    let l = c.loop-end in
    let h = c.heading-next in
    let written = written_next l.invariant.1 x c.in_ok-line.ensures.spilt h.ensures h.auto.out c.in_ok-used.ensures.walked c.whole.auto.out in
    (passed-next l.invariant.0 x.stands, written)

pub returns : goal.returns
returns g c =
    let over = at_end _ _ c.requires.1 c.loop-end.invariant.0 _ c.frame_end.ensures c.in_default.not-Some in
    record { walked = written-end c.loop-end.invariant.1 c.loop-end.invariant.0 over; held = λ l. refl }

pub returns-in_err-line-clause-held : goal.returns-in_err-line-clause-held
returns-in_err-line-clause-held g c l =
    let bytes = bytes_of c.args.b.now (λ i. (c.type_inv.b i).fits) in
    let x = next_row (schema_of c.args.t.now) c.args.b.now bytes c.requires.1 c.loop-end.invariant.0 c.in-Some.ensures in
    let ok = c.in_err-line.ensures.held (written-few c.loop-end.invariant.1 x l) in
    absurd (cc ok)

pub returns-in_err-used-clause-held : goal.returns-in_err-used-clause-held
returns-in_err-used-clause-held g c l =
    let bytes = bytes_of c.args.b.now (λ i. (c.type_inv.b i).fits) in
    let x = next_row (schema_of c.args.t.now) c.args.b.now bytes c.requires.1 c.loop-end.invariant.0 c.in-Some.ensures in
    let ok = c.in_err-used.ensures.held (written-fits c.loop-end.invariant.1 x c.in_ok-line.ensures.spilt c.heading-next.ensures l) in
    absurd (true≢false (sym ok))
