-- `reading::own::broken_at` meets its contract. Assumes nothing.
use Rattle.reading.proofs.Rules.{leaf-breaks, text-breaks, struct-breaks, header-breaks}
use Rattle.reading.proofs.own.broken_at.Goals as goal

pub returns-then-kind-lt-STRING : goal.returns-then-kind-lt-STRING
returns-then-kind-lt-STRING c = leaf-breaks c.args.p c.if-kind-lt-STRING.true

pub returns-then-kind-lt-LIST : goal.returns-then-kind-lt-LIST
returns-then-kind-lt-LIST c = text-breaks c.args.p c.if-kind-lt-STRING.false c.if-kind-lt-LIST.true

pub returns-then-kind-eq-STRUCT : goal.returns-then-kind-eq-STRUCT
returns-then-kind-eq-STRUCT c = struct-breaks c.args.p c.if-kind-eq-STRUCT.true

pub returns : goal.returns
returns c = let a = c.args in
    header-breaks a.p c.if-kind-lt-LIST.false c.if-kind-eq-STRUCT.false c.by_size.ensures
