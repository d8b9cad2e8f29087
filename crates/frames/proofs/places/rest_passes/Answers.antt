-- The goals of `rest_passes` that the check leaves.
use mathlib.Core.Path.{sym}
use native.Mathlib.Omega.{arith}
use Rattle.frames.proofs.MaskLaws.{step-told, none_tested, fails_at, one_passed}
use Rattle.frames.proofs.places.rest_passes.Goals as goal

pub loop-step-init : goal.loop-step-init
loop-step-init c = (omega arith, none_tested _ _ _)

pub returns-then-not-step_passes : goal.returns-then-not-step_passes
returns-then-not-step_passes c = sym (fails_at _ _ _ _ c.loop-step-test.true (step-told _ _ _ _ c.step_passes.ensures c.if-not-step_passes.true))

pub loop-step-preserved : goal.loop-step-preserved
loop-step-preserved c =
    let h = c.loop-step-test.true in
    (omega arith, one_passed _ _ _ _ c.loop-step.invariant.1 (step-told _ _ _ _ c.step_passes.ensures c.if-not-step_passes.false))
