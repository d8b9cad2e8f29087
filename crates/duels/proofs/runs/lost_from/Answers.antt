-- `lost_from` meets its contract: the look at the rest of the trace tells the next lost stitch, where there are any.
use mathlib.Core.Path.{sym, ◌∙◌}
use native.Mathlib.Omega.{arith}
use Rattle.duels.proofs.LostRuns.{none_from, some-from}
use Rattle.duels.proofs.runs.lost_from.Goals as goal

pub overflow_add-result : goal.overflow_add-result
overflow_add-result c =
    let w = (some-from c.args.trace.now c.args.from c.requires.1 c.first_lost.ensures).within in
    let t = c.requires.2 in
    omega arith

pub returns-then-lost : goal.returns-then-lost
returns-then-lost c =
    some-from c.args.trace.now c.args.from c.requires.1 c.first_lost.ensures

pub returns : goal.returns
returns c =
    none_from c.args.trace.now c.args.from c.requires.1 (sym c.if-lost.false ∙ c.requires.0)
