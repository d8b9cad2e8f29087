-- `is_short_frame` meets its contract.
use Rattle.frame_sizes.proofs.FrameRows.{too_narrow, one_row_enough, rows-enough}
use Rattle.frame_sizes.proofs.is_short_frame.Goals as goal

pub returns-then-samples-width : goal.returns-then-samples-width
returns-then-samples-width c = too_narrow _ _ _ _ c.if-samples-width.true

pub returns-then-height-eq1 : goal.returns-then-height-eq1
returns-then-height-eq1 c = one_row_enough _ _ _ _ c.if-samples-width.false c.if-height-eq1.true

pub returns : goal.returns
returns c = rows-enough _ _ _ _ c.requires c.if-samples-width.false c.if-height-eq1.false
