-- `picture::word` meets its contract. Assumes nothing.
use native.Mathlib.Omega.{arith}
use Rattle.picture.specs.Picture.{word}
use Rattle.picture.proofs.Drawing.{word_none, word-is}
use Rattle.picture.proofs.word.Goals as goal

pub returns-in-0 : goal.returns-in-0
returns-in-0 c = word_none _ _ _ c.in-0.is

pub returns-in-1 : goal.returns-in-1
unfolding word
returns-in-1 c = word-is 1 _ c.in-1.is c.put.ensures

pub returns-in-2 : goal.returns-in-2
unfolding word
returns-in-2 c = word-is 2 _ c.in-2.is c.put-in-2.ensures

pub returns-in-3 : goal.returns-in-3
unfolding word
returns-in-3 c = word-is 3 _ c.in-3.is c.put-in-3.ensures

pub returns-in-4 : goal.returns-in-4
unfolding word
returns-in-4 c = word-is 4 _ c.in-4.is c.put-in-4.ensures

pub returns-in-5 : goal.returns-in-5
unfolding word
returns-in-5 c = word-is 5 _ c.in-5.is c.put-in-5.ensures

pub returns-in-6 : goal.returns-in-6
unfolding word
returns-in-6 c = word-is 6 _ c.in-6.is c.put-in-6.ensures

pub returns-in_default : goal.returns-in_default
unfolding word
returns-in_default c = word-is 7 _ (omega (arith, c.requires.0)) c.put-in_default.ensures
