-- `fight` meets its contract: an offset that tells no witness is told before anything is stored; otherwise it is what the arrivals leave.
use Rattle.duels.proofs.CodeLaws.{coded_all_clear}
use Rattle.duels.proofs.Promised.{fought}
use Rattle.duels.proofs.field.Field.fight.Goals as goal

pub returns : goal.returns
returns c = fought (coded_all_clear (rw c.in_ok-write_codes.was at c.write_codes.ensures)) c.keep.ensures
