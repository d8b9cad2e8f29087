-- The goals of `look_late` that the check leaves.
use Prim.Native.Nat.{◌+◌}
use mathlib.Core.Path.{subst}
use native.Mathlib.Omega.{arith}
use Rattle.frames.specs.Inside.{step_test, step_passes_lem, Narrowed, Looked}
use Rattle.frames.specs.declared.places.Step.{Step}
use Rattle.frames.proofs.MaskLaws.{last_inside, last_is, last_off, looked_late}
use Rattle.frames.proofs.blocks.look_late.Goals as goal
use Rattle.frames.proofs.blocks.look_late.Goals.{After-narrow-standing}

-- the last of the places left is done
done : (c : After-narrow-standing) → Looked c.args.frame.now c.args.steps.now c.args.at 0 c.narrow-standing.result c.narrow-standing.new.mask
unfolding step_passes_lem
done c =
    let l = c.loop-step.invariant in
    let e = c.in-Some.ensures.steps in
    looked_late _ _ (last_inside _ _ l.2 e) (subst (λ (p : Step). Narrowed (λ i. step_test c.args.frame.now (c.args.at + i) p) c.loop-step.mask c.narrow-standing.result c.narrow-standing.new.mask) (last_is _ _ l.2 e) c.narrow-standing.ensures) (omega (arith, c.narrow-standing.auto)) l.1

pub returns-then-standing-eq0 : goal.returns-then-standing-eq0
returns-then-standing-eq0 c = done (goal.at.returns-then-standing-eq0 c).After-narrow-standing

pub loop-step-preserved : goal.loop-step-preserved
loop-step-preserved c = (omega (arith, c.narrow-standing.auto), done (goal.at.loop-step-preserved c).After-narrow-standing, last_off _ _ c.loop-step.invariant.2 c.in-Some.ensures.steps)
