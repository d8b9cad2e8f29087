-- `sweep` meets its contract: refused before anything is stored, or what the loop leaves.
use Rattle.sweep.proofs.Promised.{sweep_refused, sweep_done}
use Rattle.sweep.proofs.sweeping.sweep.Goals as goal

pub returns-then-positions-count : goal.returns-then-positions-count
returns-then-positions-count c = sweep_refused _ _ _ _ _ c.if-positions-count.true

pub returns : goal.returns
returns c = sweep_done _ _ _ _ _ c.if-positions-count.false c.sweep_all.ensures
