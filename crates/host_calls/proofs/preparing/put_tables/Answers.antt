-- `put_tables` meets its contract: four tables are made, and put one after the other.
use Rattle.host_calls.proofs.PrepareLaws.{tables-put}
use Rattle.host_calls.proofs.preparing.put_tables.Goals as goal

pub returns-clause-put : goal.returns-clause-put
returns-clause-put c =
    let l = c.requires.1.limit in
    tables-put _ _ _ _ _ _ _ _ _ c.prepare.ensures c.requires.0 c.requires.1
    (record { some = c.requires.1.some; limit = l; low_room = l; high_room = l; witness_i_room = l; witness_j_room = l })
    c.put_entries.ensures c.put_entries-2.ensures c.put_entries-3.ensures c.put_entries-4.ensures
