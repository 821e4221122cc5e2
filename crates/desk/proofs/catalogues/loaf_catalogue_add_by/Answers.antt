-- `desk::catalogues::loaf_catalogue_add_by` meets its contract. Assumes nothing.
use Rattle.codes.proofs.ByNumber.{add-number-known, adds-as}
use Rattle.desk.proofs.catalogues.loaf_catalogue_add_by.Goals as goal

pub number_code-requires : goal.number_code-requires
number_code-requires c = add-number-known _ _ c.add_by.ensures.answers

pub returns : goal.returns
returns c = adds-as c.add_by.ensures c.number_code.ensures
