-- `near_offset` meets its contract.
use Rattle.frames.proofs.StepLaws.{near_read, near_past, near_own}
use Rattle.frames.proofs.patches.near_offset.Goals as goal

pub returns-then-i-steps : goal.returns-then-i-steps
returns-then-i-steps c = near_read _ _ _ _ c.from-i.ensures c.if-i-steps.true

pub returns-then-from-steps : goal.returns-then-from-steps
returns-then-from-steps c = near_past _ _ _ _ c.from-i.ensures c.from.ensures c.if-i-steps.false c.if-from-steps.true

pub returns : goal.returns
returns c = near_own _ _ _ _ c.from-i.ensures c.from.ensures c.if-i-steps.false c.if-from-steps.false
