use Rattle.std.proofs.Common.{arith}
use Rattle.chords.proofs.Readings.{keeps-first}
use Rattle.strokes.proofs.Adding.{last_of, adds-joined, adds-started, adds-first}
use Rattle.strokes.proofs.add_to.Goals as goal

pub returns-then-used-last : goal.returns-then-used-last
returns-then-used-last c = adds-first c.requires.0 c.requires.1
    c.if-used-last.true c.put_one.ensures

pub slice_bounds-joins-count : goal.slice_bounds-joins-count
slice_bounds-joins-count c = let t = last_of _ _ _ c.requires.0 c.requires.1 (omega arith) in t.low

pub slice_bounds-joins-start : goal.slice_bounds-joins-start
slice_bounds-joins-start c = let t = last_of _ _ _ c.requires.0 c.requires.1 (omega arith) in
    omega (arith, t.low)

pub joins-requires : goal.joins-requires
joins-requires c = (last_of _ _ _ c.requires.0 c.requires.1 (omega arith)).keeps

pub returns-then-not-joins : goal.returns-then-not-joins
returns-then-not-joins c = adds-started (last_of _ _ _ c.requires.0
    c.requires.1 (omega arith))
    c.requires.0 c.if-not-joins.true-raw
    c.joins.ensures c.put_one-then-not-joins.ensures

pub slice_bounds-chord_at-count : goal.slice_bounds-chord_at-count
slice_bounds-chord_at-count c = let t = last_of _ _ _ c.requires.0 c.requires.1
    (omega arith) in
    t.low

pub slice_bounds-chord_at-start : goal.slice_bounds-chord_at-start
slice_bounds-chord_at-start c = let t = last_of _ _ _ c.requires.0
    c.requires.1 (omega arith) in
    omega (arith, t.low)

pub chord_at-first-requires : goal.chord_at-first-requires
chord_at-first-requires c = let t = last_of _ _ _ c.requires.0
    c.requires.1 (omega arith) in
    (t.keeps, omega arith, keeps-first t.keeps)

pub returns : goal.returns
returns c = adds-joined (last_of _ _ _ c.requires.0
    c.requires.1 (omega arith))
    c.requires.0
    c.if-not-joins.false-raw
    c.joins.ensures c.chord_at-first.ensures
    c.put_two.ensures
