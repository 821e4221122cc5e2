-- `codes::or_eight` meets its contract. Assumes nothing.
use Rattle.codes.proofs.Asking.{eight_left, eight-told}
use Rattle.codes.proofs.Words.{low-answer}
use Rattle.codes.proofs.or_eight.Goals as goal

pub refusal_code-requires : goal.refusal_code-requires
refusal_code-requires c = low-answer _ c.in-Err.is c.requires.1

pub returns-in-Ok : goal.returns-in-Ok
returns-in-Ok c = eight_left _ c.in-Ok.is c.requires.0

pub returns-in-Err : goal.returns-in-Err
returns-in-Err c = eight-told _ c.in-Err.is c.refusal_code.ensures
