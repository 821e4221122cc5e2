-- `catalogue::look` meets its contract. Assumes nothing.
use Rattle.words.proofs.Numbers.{slice-bytes}
use Rattle.shelf.proofs.Finding.{judged-some}
use Rattle.catalogue.proofs.Answering.{stands-old, stands-behind}
use Rattle.catalogue.proofs.look.Goals as goal

pub returns-in-Some : goal.returns-in-Some
returns-in-Some c = stands-old (judged-some c.judge.ensures c.in_ok-end.ensures.ok_part) (slice-bytes c.type_inv.catalogue) _ c.in-Some.ensures

pub returns-in-None : goal.returns-in-None
returns-in-None c = stands-behind (judged-some c.judge.ensures c.in_ok-end.ensures.ok_part) (slice-bytes c.type_inv.catalogue) _ c.in-None.ensures
