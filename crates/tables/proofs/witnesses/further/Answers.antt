-- `further` meets its contract: an offset that was tested gives a stretch up to its first failing place, and the stretch that
-- was known stays one.
use Rattle.tables.proofs.Stretches.{stretch_to_end, stretch_to_failing}
use Rattle.tables.proofs.witnesses.further.Goals as goal

pub returns-then-failing-eq-NONE : goal.returns-then-failing-eq-NONE
returns-then-failing-eq-NONE c =
    let p = c.requires.inside in
    stretch_to_end c.requires.stretch _ p.0 p.1 p.2 c.if-failing-eq-NONE.true

pub returns-then-end-reach : goal.returns-then-end-reach
returns-then-end-reach c = rw c.from.ensures (stretch_to_failing c.requires.stretch _ c.requires.inside.2 c.if-failing-eq-NONE.false)
