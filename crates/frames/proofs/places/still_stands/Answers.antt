-- `still_stands` meets its contract: what is told of the frame from the start on is told of the frame there.
use mathlib.Core.Path.{◌∙◌}
use Rattle.frames.proofs.MaskLaws.{all_there}
use Rattle.frames.proofs.places.still_stands.Goals as goal

pub returns-then-stands : goal.returns-then-stands
returns-then-stands c = rw c.if-stands.true (c.rest_passes.ensures ∙ all_there _ _ _ c.requires)
