-- `look_late` meets its contract. The loop's invariant: what is known of the mask before the places in turn, and which places are left.
use mathlib.Core.Path.{◌≡◌}
use lib.ListN.{length}
use Rattle.frames.specs.Inside.{Looked}
use Rattle.frames.proofs.MaskLaws.{SomeLeft}
use Rattle.frames.proofs.blocks.look_late.Given as goal

abbrev pub invariant-loop-step : goal.invariant-loop-step
invariant-loop-step l = (length l.mask ≡ length l.initial.mask) × Looked l.frame l.steps l.at 0 l.standing l.mask × SomeLeft l.steps l.step-iterator.iter.rest.now
