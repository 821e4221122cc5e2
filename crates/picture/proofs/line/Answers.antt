-- `picture::line` meets its contract: five texts one behind the other. Assumes nothing.
use native.Mathlib.Omega.{arith}
use Prim.Native.Nat.{◌*◌}
use lib.ListN.{length}
use Rattle.chart.specs.Claims.{what_at, steps_at}
use Rattle.lettering.proofs.Putting.{run-long}
use Rattle.picture.proofs.Drawing.{right-length, on-line-fits, spaced-run, spaced-most, labelled-most, steps-most, line-puts}
use Rattle.picture.proofs.line.Goals as goal

pub byte-b-requires : goal.byte-b-requires
byte-b-requires c = let pre = c.requires in
    let right = c.right-s in
    let args = c.args in
    omega (arith, pre.0, right.ensures.next, right.auto.out, right-length 5 (8 * args.u))

pub spaced-l-requires : goal.spaced-l-requires
spaced-l-requires c = let args = c.args in
    let pre = c.requires in
    let on_line = c.on_line-k in
    let right = c.right-s in
    let byte = c.byte-b in
    let f = on-line-fits (length args.row.now) args.u pre.2 in
    let e = on_line.ensures in
    let k = run-long args.row.now (8 * args.u) on_line.result (rw e f.1) in
    omega (arith, pre.0, right.ensures.next, right.auto.out, right-length 5 (8 * args.u), byte.ensures.next, byte.auto.out, e, f.0, k)

pub labelled-end-requires : goal.labelled-end-requires
labelled-end-requires c = let args = c.args in
    let pre = c.requires in
    let on_line = c.on_line-k in
    let right = c.right-s in
    let byte = c.byte-b in
    let spaced = spaced-run args.row.now (8 * args.u) on_line.result c.spaced-l.ensures in
    let f = on-line-fits (length args.row.now) args.u pre.2 in
    let e = on_line.ensures in (
      omega (
        arith,
        pre.0,
        right.ensures.next,
        right.auto.out,
        right-length 5 (8 * args.u),
        byte.ensures.next,
        byte.auto.out,
        spaced.next,
        c.spaced-l.auto.out,
        spaced-most args.row.now args.u _ e pre.2,
      ),
      pre.1,
      omega (arith, pre.2, pre.3),
      rw e f.0,
    )

pub byte-requires : goal.byte-requires
byte-requires c = let args = c.args in
    let pre = c.requires in
    let right = c.right-s in
    let byte = c.byte-b in
    let on_line = c.on_line-k in
    let spaced = spaced-run args.row.now (8 * args.u) on_line.result c.spaced-l.ensures in
    let labelled = c.labelled-end in
    let m = args.chart.now in
    omega (
      arith,
      pre.0,
      right.ensures.next,
      right.auto.out,
      right-length 5 (8 * args.u),
      byte.ensures.next,
      byte.auto.out,
      spaced.next,
      c.spaced-l.auto.out,
      spaced-most args.row.now args.u _ on_line.ensures pre.2,
      labelled.ensures.next,
      labelled.auto.out,
      labelled-most on_line.result (what_at m args.u) (steps_at m args.u) (steps-most m args.u),
    )

pub returns : goal.returns
returns c = let args = c.args in
    let on_line = c.on_line-k in
    let right = c.right-s in
    let byte = c.byte-b in
    let spaced = spaced-run args.row.now (8 * args.u) on_line.result c.spaced-l.ensures in
    let labelled = c.labelled-end in
    let byte2 = c.byte in
    line-puts args.row.now args.chart.now args.u _ on_line.ensures right.ensures byte.ensures spaced
    labelled.ensures byte2.ensures
