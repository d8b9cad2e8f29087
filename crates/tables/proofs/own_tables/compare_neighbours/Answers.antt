-- `compare_neighbours` meets its contract: each table is compared with what preparation writes.
use Rattle.std.proofs.Common.{arith}
use Rattle.std.proofs.lemmas.List.{map-id}
use Rattle.tables.proofs.ForeignEntries.{against-neighbours}
use Rattle.tables.proofs.own_tables.compare_neighbours.Goals as goal

pub returns : goal.returns
returns c =
    let a = c.args.tables in
    let r = a.room in
    against-neighbours a.pattern.now a.low.now a.high.now _ _ (rw map-id at c.write_neighbours.ensures) r.low_room r.high_room (omega arith) (omega arith)
    c.first_foreign.ensures
