-- `reading::steps::step` meets its contract. Assumes nothing.
use Rattle.reading.proofs.Opening.{struct_left}
use Rattle.reading.proofs.Moving.{leaf-stop}
use Rattle.reading.proofs.steps.step.Goals as goal

pub returns-then-k-lt-LIST : goal.returns-then-k-lt-LIST
returns-then-k-lt-LIST c = let pre = c.requires in
    let a = c.args in
    leaf-stop pre a.i c.if-k-lt-LIST.true

pub in_list-requires : goal.in_list-requires
in_list-requires c = record { stands = c.requires; kind = c.if-k-eq-LIST.true }

pub in_map-requires : goal.in_map-requires
in_map-requires c = record { stands = c.requires; kind = c.if-k-eq-MAP.true }

pub in_struct-requires : goal.in_struct-requires
in_struct-requires c = let pre = c.requires in
    let if1 = c.if-k-lt-LIST in
    record { stands = pre; kind = struct_left pre.rests.is.kinded if1.false c.if-k-eq-LIST.false c.if-k-eq-MAP.false }
