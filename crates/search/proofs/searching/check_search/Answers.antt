-- `check_search` meets its contract: where there is room, the check of the tables decides, and otherwise what comes before it too.
use Rattle.std.proofs.lemmas.Result.{err_from_is_err_and}
use Rattle.search.proofs.SearchVerdicts.{unfit_refused, foreign_refused, all_fine}
use Rattle.search.proofs.searching.check_search.Goals as goal

pub returns-in_default : goal.returns-in_default
returns-in_default c = unfit_refused _ _ _ _ _ _ _ _ c.in_default.is c.for_room.ensures c.for_search.ensures

pub returns-in_err-check_tables : goal.returns-in_err-check_tables
returns-in_err-check_tables c =
    let why = err_from_is_err_and c.from_residual.result c.from_residual.ensures.1 in
    rw (why.1, why.2) (foreign_refused _ _ _ _ _ _ _ _ c.in-Ok.is c.for_room.ensures c.in_err-check_tables.was c.check_tables.ensures)

pub returns : goal.returns
returns c = all_fine _ _ _ _ _ _ _ _ c.in-Ok.is c.for_room.ensures c.in_ok-check_tables.was c.check_tables.ensures
