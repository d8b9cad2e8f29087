-- `check_tables` meets its contract: the lengths first, then the entries.
use Rattle.std.proofs.lemmas.Result.{err_from_is_err_and}
use Rattle.order.proofs.Answered.{ok_accepted}
use Rattle.sizes.proofs.Verdicts.{prepare_room}
use Rattle.tables.proofs.Promised.{tables-refused, tables_compared}
use Rattle.tables.proofs.own_tables.check_tables.Goals as goal

pub returns-in_err-for_tables : goal.returns-in_err-for_tables
returns-in_err-for_tables c =
    let why = err_from_is_err_and c.from_residual.result c.from_residual.ensures.1 in
    rw (why.1, why.2) (tables-refused _ _ _ _ _ _ c.in_err-for_tables.ensures)

pub invariant_of-check_own : goal.invariant_of-check_own
invariant_of-check_own c = record { room = prepare_room _ _ _ _ _ (ok_accepted _ tt c.in_ok-for_tables.ensures).0 }

pub returns : goal.returns
returns c = tables_compared _ _ _ _ _ c.in_ok-for_tables.ensures c.check_own.ensures
