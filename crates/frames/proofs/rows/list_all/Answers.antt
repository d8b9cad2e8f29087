-- The goals of `list_all` that the check leaves.
use mathlib.Core.Path.{refl}
use native.Mathlib.Omega.{arith}
use Rattle.order.proofs.Filling.{filled_none, filled_more}
use Rattle.frames.proofs.rows.list_all.Goals as goal

pub loop-i-init : goal.loop-i-init
loop-i-init c = filled_none _ _

pub loop-i-preserved : goal.loop-i-preserved
loop-i-preserved c = let t = c.loop-i-test.true in filled_more _ c.loop-i.invariant (omega (arith, c.loop-i.auto)) refl
