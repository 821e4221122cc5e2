-- `picture::label` meets its contract: three texts one behind the other. Assumes nothing.
use native.Mathlib.Omega.{arith}
use borrow.Author.Rules.{rules}
use lib.Bits.{bit_and}
use Rattle.words.proofs.Powers.{mask_is}
use Rattle.picture.proofs.Drawing.{word-most, padding-most, label-puts}
use Rattle.picture.proofs.label.Goals as goal

pub word-p-requires : goal.word-p-requires
word-p-requires c = search (rules, mask_is c.args.w 3)

pub padding-l-requires : goal.padding-l-requires
padding-l-requires c = let pre = c.requires in
    let word = c.word-p in
    let args = c.args in
    let few = word-most (bit_and args.w 7) (omega (arith, mask_is args.w 3)) in
    omega (arith, pre.0, word.ensures.next, word.auto.out, few)

pub linked-requires : goal.linked-requires
linked-requires c = let word = c.word-p in
    let padding = c.padding-l in
    let pre = c.requires in
    let args = c.args in
    let few = word-most (bit_and args.w 7) (omega (arith, mask_is args.w 3)) in
    (omega (arith, pre.0, word.ensures.next, word.auto.out, padding.ensures.next, padding.auto.out, few, padding-most args.w), pre.1)

pub returns : goal.returns
returns c = let word = c.word-p in
    let padding = c.padding-l in
    let linked = c.linked in
    label-puts _ _ word.ensures padding.ensures linked.ensures
