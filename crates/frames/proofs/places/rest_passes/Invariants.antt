-- `rest_passes` meets its contract. The loop's invariant: the places looked at pass.
use Prim.Native.Nat.{◌≤◌}
use mathlib.Core.Path.{◌≡◌}
use mathlib.Core.Bool.{true}
use lib.ListN.{length}
use Rattle.frames.specs.Inside.{pass_below}
use Rattle.frames.proofs.places.rest_passes.Given as goal

abbrev pub invariant-loop-step : goal.invariant-loop-step
invariant-loop-step l = (l.step-index ≤ length l.rest) × (pass_below l.step-index l.under l.rest 0 ≡ true)
