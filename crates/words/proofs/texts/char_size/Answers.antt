-- `words::texts::char_size` meets its contract: one byte more at a time, by the lines of the table. Assumes nothing.
use mathlib.Core.Path.{refl}
use Prim.Native.Nat.{◌-◌}
use native.Mathlib.Omega.{arith}
use lib.Dec.{lit<}
use lib.ListN.{get_or}
use Rattle.words.specs.Bytes.{part}
use Rattle.words.proofs.CharLaws.{Starts, Goes, first-is, size_none, size-two, size-no-third, size-three, size-no-fourth, size-four}
use Rattle.words.proofs.texts.char_size.Goals as goal
use Rattle.words.proofs.texts.char_size.Goals.{Else-not-begins, Else-not-within}

starts : (c : Else-not-begins) →
    let a = c.args in
    Starts (part a.b.now a.i (a.end - a.i)) (get_or a.b.now a.i 0) c.behind.result
starts c =
    let a = c.args in
    record {
      first = first-is a.b.now a.i a.end (omega arith);
      second = c.behind.ensures;
      begins = c.if-not-begins.ensures.0 refl;
    }

goes : (c : Else-not-within) →
    let a = c.args in
    Starts (part a.b.now a.i (a.end - a.i)) (get_or a.b.now a.i 0) c.behind.result →
    Goes (part a.b.now a.i (a.end - a.i)) (get_or a.b.now a.i 0) c.behind.result
    c.behind-2.result
goes c begun =
    record {
      starts = begun;
      third = c.behind-2.ensures;
      long = c.if-a-lt224.false;
      tail = c.if-not-within.ensures.0 refl;
    }

pub returns-then-not-begins : goal.returns-then-not-begins
returns-then-not-begins c = let a = c.args in
    size_none (part a.b.now a.i (a.end - a.i)) (first-is a.b.now a.i a.end (omega arith)) c.behind.ensures
    c.requires.2 (λ s. cc (c.if-not-begins.ensures.1 s))

pub returns-then-a-lt224 : goal.returns-then-a-lt224
returns-then-a-lt224 c = (size-two (starts (goal.at.returns-then-a-lt224 c).Else-not-begins) c.if-a-lt224.true, lit< tt)

pub returns-then-not-within : goal.returns-then-not-within
returns-then-not-within c = size-no-third (starts (goal.at.returns-then-not-within c).Else-not-begins) c.behind-2.ensures c.if-a-lt224.false
    (λ t. cc (c.if-not-within.ensures.1 t))

pub returns-then-a-lt240 : goal.returns-then-a-lt240
returns-then-a-lt240 c = let at = goal.at.returns-then-a-lt240 c in
    (size-three (goes at.Else-not-within (starts at.Else-not-begins)) c.if-a-lt240.true, lit< tt)

pub returns-then-not-within-2 : goal.returns-then-not-within-2
returns-then-not-within-2 c = size-no-fourth (goes (goal.at.returns-then-not-within-2 c).Else-not-within (starts (goal.at.returns-then-not-within-2 c).Else-not-begins)) c.behind-3.ensures c.if-a-lt240.false
    (λ t. cc (c.if-not-within-2.ensures.1 t))

pub returns : goal.returns
returns c = (
  size-four (goes (goal.at.returns c).Else-not-within (starts (goal.at.returns c).Else-not-begins)) c.behind-3.ensures c.if-a-lt240.false
      (c.if-not-within-2.ensures.0 refl),
  lit< tt,
)
