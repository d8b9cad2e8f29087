-- `write_tables` meets its contract: the neighbours that the first call writes are those that the second asks for.
use native.Mathlib.Omega.{arith}
use Rattle.std.proofs.lemmas.List.{map-id}
use Rattle.tables.proofs.OwnTables.{own-neighbours}
use Rattle.tables.proofs.preparation.write_tables.Goals as goal

pub write_witnesses-requires-clause-neighbours : goal.write_witnesses-requires-clause-neighbours
write_witnesses-requires-clause-neighbours c =
    let w = c.write_neighbours in
    own-neighbours _ _ _ c.requires.limit (omega (arith, w.auto.low)) (omega (arith, w.auto.high)) (rw map-id at w.ensures.0) (rw map-id at w.ensures.1)
