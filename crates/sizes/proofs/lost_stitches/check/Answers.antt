-- `check` meets its contract: the first look tells whether there is a lost stitch, the second where.
use mathlib.Core.Path.{sym, ◌∙◌}
use Rattle.sizes.proofs.VerdictRows.{some-lost, none_lost}
use Rattle.sizes.proofs.lost_stitches.check.Goals as goal

pub returns-then-holds_lost : goal.returns-then-holds_lost
returns-then-holds_lost c = some-lost _ (sym c.if-holds_lost.true ∙ c.holds_lost.ensures) c.first_lost.ensures

pub returns : goal.returns
returns c = none_lost _ (sym c.if-holds_lost.false ∙ c.holds_lost.ensures)
