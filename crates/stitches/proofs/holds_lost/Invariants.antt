-- `holds_lost` meets its contract. The loop's invariant: the flag tells whether one of the samples passed is lost. The measure is the samples left.
use Rattle.stitches.proofs.holds_lost.Given as goal
use mathlib.Core.Path.{◌≡◌}
use Rattle.stitches.proofs.Looks.{lost_below}

abbrev pub invariant-loop-sample : goal.invariant-loop-sample
invariant-loop-sample l = l.some ≡ lost_below l.samples l.sample-index
