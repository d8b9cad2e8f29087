-- The goals of `look` that the check leaves.
use native.Mathlib.Omega.{arith}
use Rattle.frames.specs.Inside.{step_passes_lem}
use Rattle.frames.proofs.MaskLaws.{looked_more}
use Rattle.frames.proofs.blocks.look.Goals as goal

pub returns-then-standing-limit_after : goal.returns-then-standing-limit_after
unfolding step_passes_lem
returns-then-standing-limit_after c = looked_more _ _ c.loop-j-test.true c.narrow-standing.ensures (omega (arith, c.narrow-standing.auto)) c.loop-j.invariant.2

pub loop-j-preserved : goal.loop-j-preserved
unfolding step_passes_lem
loop-j-preserved c = (let l = c.loop-j.invariant in (l.0, (let e = l.1 in omega (arith, c.narrow-standing.auto)), looked_more _ _ c.loop-j-test.true c.narrow-standing.ensures (omega (arith, c.narrow-standing.auto)) l.2))
