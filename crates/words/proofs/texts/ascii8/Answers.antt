-- `words::texts::ascii8` meets its contract, by the high bits of the word. Assumes nothing.
use borrow.Author.Tests.{eqb-true}
use Rattle.words.proofs.Numbers.{slice-bytes}
use Rattle.words.proofs.CharLaws.{word-ascii}
use Rattle.words.proofs.texts.ascii8.Goals as goal

pub returns : goal.returns
returns c e =
    let a = c.args in
    word-ascii a.at c.get.result (slice-bytes c.type_inv.b) c.requires c.get.ensures.is (eqb-true _ 0 e)
