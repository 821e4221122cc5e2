-- `reading::own::leaf_holds` meets its contract. Assumes nothing.
use mathlib.Core.Path.{refl}
use Rattle.words.proofs.Numbers.{bytes_of}
use Rattle.reading.proofs.Rules.{leaf-some, bool-holds, leaf-holds}
use Rattle.reading.proofs.own.leaf_holds.Goals as goal

pub bounds-row-base : goal.bounds-row-base
bounds-row-base c = leaf-some c.requires

pub returns-then-k-eq-BOOL : goal.returns-then-k-eq-BOOL
returns-then-k-eq-BOOL c = bool-holds _ c.requires c.if-k-eq-BOOL.true refl

pub returns : goal.returns
returns c = leaf-holds _ c.requires c.if-k-eq-BOOL.false (bytes_of _ (λ j. (c.shared_slice_known-1.given j).fits))
