-- `check_witnesses` meets its contract: the witness tables are compared with those that the neighbours make.
use Rattle.std.proofs.Common.{arith}
use Rattle.tables.proofs.ForeignEntries.{against-witnesses}
use Rattle.tables.proofs.own_tables.check_witnesses.Goals as goal

pub returns : goal.returns
returns c =
    let a = c.args.tables in
    let r = a.room in
    against-witnesses a.pattern.now a.witness_i.now a.witness_j.now _ _ c.write_witnesses.ensures (omega arith) (omega arith) (omega arith) (omega arith)
    c.first_foreign.ensures
