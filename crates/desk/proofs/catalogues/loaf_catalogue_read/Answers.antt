-- `desk::catalogues::loaf_catalogue_read` meets its contract. Assumes nothing.
use Rattle.codes.proofs.ByNumber.{read-at-known, read-at-as}
use Rattle.desk.proofs.catalogues.loaf_catalogue_read.Goals as goal

pub put_answer-requires : goal.put_answer-requires
put_answer-requires c = read-at-known _ _ _ _ c.read.ensures

pub returns : goal.returns
returns c = read-at-as _ _ c.path_of.ensures _ _ _ c.read.ensures c.put_answer.ensures
