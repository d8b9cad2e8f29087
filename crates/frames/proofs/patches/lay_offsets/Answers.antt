-- The goals of `lay_offsets` that the check leaves.
use mathlib.Core.Path.{ap}
use native.Mathlib.Omega.{arith}
use Rattle.order.proofs.Filling.{filled_none, filled_more}
use Rattle.frames.specs.Inside.{lone, offsets_of}
use Rattle.frames.proofs.OffsetLaws.{first_corner, corner_turned, offset_there, next_corner, laid_whole}
use Rattle.frames.proofs.patches.lay_offsets.Goals as goal

pub loop-step-init : goal.loop-step-init
loop-step-init c = (omega arith, filled_none _ _, first_corner _ _)

pub loop-step-preserved : goal.loop-step-preserved
loop-step-preserved c =
    let l = c.loop-step.invariant in
    let h = c.loop-step-test.true in
    let t = corner_turned c.requires.some l.2 c.turned-corner.ensures in
    (omega arith, filled_more _ l.1 h (ap lone (offset_there t)), next_corner t)

pub returns : goal.returns
unfolding offsets_of
returns c = let l = c.loop-step.invariant in laid_whole l.1 c.loop-step-test.false l.0
