-- `codes::told::put_answer` meets its contract. Assumes nothing.
use Rattle.codes.proofs.Words.{given-numbered, tells-given, low-answer, tells-refused}
use Rattle.codes.proofs.told.put_answer.Goals as goal

pub refusal_code-requires : goal.refusal_code-requires
refusal_code-requires c = low-answer _ c.in-Err.is c.requires.1

pub four-requires : goal.four-requires
four-requires c = given-numbered _ c.in-Ok.is c.requires.0

pub returns-in-Ok : goal.returns-in-Ok
returns-in-Ok c = tells-given _ c.in-Ok.is c.requires.0 c.four.ensures c.put.ensures

pub returns-in-Err : goal.returns-in-Err
returns-in-Err c = tells-refused _ c.in-Err.is c.refusal_code.ensures
