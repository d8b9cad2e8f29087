-- `step_passes` meets its contract: the four ways in which a place's neighbours can stand.
use mathlib.Core.Path.{sym, ◌∙◌, ap₂}
use mathlib.Core.Bool.{◌&&◌}
use lib.Dec.{ltb, eqb}
use Rattle.frames.proofs.StepLaws.{one_near, high_near, low_near, both_near}
use Rattle.frames.proofs.places.step_passes.Goals as goal

pub returns-then-below-above : goal.returns-then-below-above
returns-then-below-above c = ap₂ eqb c.level_under-level.ensures c.level_under.ensures ∙ sym (one_near _ _ _ c.if-below-above.true)

pub returns-then-below : goal.returns-then-below
returns-then-below c = ap₂ ltb c.level_under-level.ensures c.level_under-then-below.ensures ∙ sym (high_near _ _ _ c.if-below-above.false c.if-below.true)

pub returns-then-above : goal.returns-then-above
returns-then-above c = ap₂ ltb c.level_under-then-above.ensures c.level_under-level.ensures ∙ sym (low_near _ _ _ c.if-below-above.false c.if-below.false c.if-above.true)

pub returns : goal.returns
returns c = ap₂ ◌&&◌ (ap₂ ltb c.level_under-2.ensures c.level_under-level.ensures) (ap₂ ltb c.level_under-level.ensures c.level_under-3.ensures) ∙ sym (both_near _ _ _ c.if-below-above.false c.if-below.false c.if-above.false)
