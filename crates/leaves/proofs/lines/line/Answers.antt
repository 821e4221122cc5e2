-- `leaves::lines::line` meets its contract: six texts one behind the other, and the room that is left behind each. Assumes nothing.
use native.Mathlib.Omega.{arith}
use Rattle.lettering.proofs.Putting.{puts_then}
use Rattle.leaves.specs.Lines.{line}
use Rattle.leaves.proofs.Lengths.{path-left, byte_left, mark-left, contents-left}
use Rattle.leaves.proofs.lines.line.Goals as goal

pub byte-m-requires : goal.byte-m-requires
byte-m-requires c = let path = c.path-p in
    omega (arith, path-left c.requires path.ensures path.auto.out)

pub mark-s-requires : goal.mark-s-requires
mark-s-requires c = let pre = c.requires in
    let path = c.path-p in
    let byte = c.byte-m in
    let behind-path = path-left pre path.ensures path.auto.out in
    (pre.lined, omega (arith, byte_left 32773 behind-path byte.ensures byte.auto.out))

pub byte-c-requires : goal.byte-c-requires
byte-c-requires c = let pre = c.requires in
    let path = c.path-p in
    let byte = c.byte-m in
    let mark = c.mark-s in
    let behind-path = path-left pre path.ensures path.auto.out in
    let behind-byte = byte_left 32773 behind-path byte.ensures byte.auto.out in
    omega (arith, mark-left _ 32771 behind-byte mark.ensures mark.auto.out)

pub contents-end-requires : goal.contents-end-requires
contents-end-requires c = let pre = c.requires in
    let path = c.path-p in
    let byte = c.byte-m in
    let mark = c.mark-s in
    let byte2 = c.byte-c in
    let behind-path = path-left pre path.ensures path.auto.out in
    let behind-byte = byte_left 32773 behind-path byte.ensures byte.auto.out in
    let behind-mark = mark-left _ 32771 behind-byte mark.ensures mark.auto.out in
    let behind = byte_left 32770 behind-mark byte2.ensures byte2.auto.out in
    record { room = omega (arith, behind); short = pre.short; gives = pre.gives; within = pre.within }

pub byte-requires : goal.byte-requires
byte-requires c = let pre = c.requires in
    let path = c.path-p in
    let byte = c.byte-m in
    let mark = c.mark-s in
    let byte2 = c.byte-c in
    let contents = c.contents-end in
    let behind-path = path-left pre path.ensures path.auto.out in
    let behind-byte = byte_left 32773 behind-path byte.ensures byte.auto.out in
    let behind-mark = mark-left _ 32771 behind-byte mark.ensures mark.auto.out in
    let behind = byte_left 32770 behind-mark byte2.ensures byte2.auto.out in
    contents-left pre behind contents.ensures contents.auto.out

pub returns : goal.returns
unfolding line
returns c = let path = c.path-p in
    let byte = c.byte-m in
    let mark = c.mark-s in
    let byte2 = c.byte-c in
    let contents = c.contents-end in
    let byte3 = c.byte in
    let end = puts_then byte2.ensures (puts_then contents.ensures byte3.ensures) in
    puts_then path.ensures (puts_then byte.ensures (puts_then mark.ensures end))
