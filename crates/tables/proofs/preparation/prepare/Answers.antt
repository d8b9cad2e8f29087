-- `prepare` meets its contract: the sizes' verdict, and then the tables.
use Rattle.order.proofs.Answered.{ok_accepted}
use Rattle.sizes.proofs.Verdicts.{prepare_room}
use Rattle.tables.proofs.preparation.prepare.Goals as goal

pub write_tables-requires : goal.write_tables-requires
write_tables-requires c = prepare_room _ _ _ _ _ (ok_accepted _ tt c.in_ok-for_tables.ensures).0
