-- `compare_tables` meets its contract: a neighbour table decides before a witness table does.
use Rattle.std.proofs.lemmas.Result.{err_from_is_err_and}
use Rattle.tables.proofs.ForeignEntries.{passed_own, neighbours_decide, witnesses_decide}
use Rattle.tables.proofs.own_tables.compare_tables.Goals as goal

pub returns-in_err-compare_neighbours : goal.returns-in_err-compare_neighbours
returns-in_err-compare_neighbours c =
    let a = c.args.tables in
    let why = err_from_is_err_and c.from_residual.result c.from_residual.ensures.1 in
    rw (why.1, why.2) (neighbours_decide a.pattern.now a.low.now a.high.now a.witness_i.now a.witness_j.now c.in_err-compare_neighbours.ensures)

pub check_witnesses-requires : goal.check_witnesses-requires
check_witnesses-requires c =
    let a = c.args.tables in
    let r = a.room in
    passed_own a.pattern.now a.low.now a.high.now r.limit r.low_room r.high_room c.in_ok-compare_neighbours.ensures

pub returns : goal.returns
returns c =
    let a = c.args.tables in
    witnesses_decide a.pattern.now a.low.now a.high.now a.witness_i.now a.witness_j.now c.in_ok-compare_neighbours.ensures c.check_witnesses.ensures
