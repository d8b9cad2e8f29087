-- The goals of `lay_near` that the check leaves.
use mathlib.Core.Path.{refl}
use native.Mathlib.Omega.{arith}
use Rattle.frames.proofs.OffsetLaws.{near_to_none, near_there_still, near_to_more, near_to_all}
use Rattle.frames.proofs.patches.lay_near.Goals as goal

pub loop-j-init : goal.loop-j-init
loop-j-init c = (omega arith, near_to_none _ _ _)

pub loop-j-preserved : goal.loop-j-preserved
loop-j-preserved c =
    let w = c.loop-j.invariant in
    let h = c.loop-j-test.true in
    (omega arith, near_to_more w.1 (omega arith) (near_there_still w.1 c.near_offset-below.ensures c.near_offset-above.ensures _ refl))

pub returns : goal.returns
returns c = let w = c.loop-j.invariant in near_to_all w.1 c.loop-j-test.false w.0
