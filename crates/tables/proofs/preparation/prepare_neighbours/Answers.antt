-- `prepare_neighbours` meets its contract: the sizes' verdict, and then the two tables.
use native.Mathlib.Omega.{arith}
use Rattle.order.proofs.Answered.{ok_accepted}
use Rattle.sizes.proofs.Verdicts.{pattern_passed, tables_passed}
use Rattle.tables.proofs.preparation.prepare_neighbours.Goals as goal

pub write_neighbours-requires : goal.write_neighbours-requires
write_neighbours-requires g c =
    let m = pattern_passed _ _ (ok_accepted _ tt c.in_ok-check_two.ensures).0 in
    let room = tables_passed _ _ _ _ _ _ m.2 in
    (omega (arith, room.0), omega (arith, room.1), omega (arith, m.1))
