-- `level_neighbours` meets its contract: no level is a lost stitch.
use Rattle.levels.proofs.Promised.{levels_made}
use Rattle.levels.proofs.level_neighbours.Goals as goal

pub returns : goal.returns
returns c = levels_made _ _ _ c.prepare_neighbours.ensures
