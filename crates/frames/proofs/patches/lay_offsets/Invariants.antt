-- `lay_offsets` meets its contract. The loop's invariant: the places passed have their offsets, and where the next one lies is known.
use Prim.Native.Nat.{◌≤◌}
use lib.ListN.{length}
use Rattle.order.proofs.Filling.{Filled}
use Rattle.frames.specs.Inside.{offset_of, lone}
use Rattle.frames.proofs.OffsetLaws.{Corner}
use Rattle.frames.proofs.patches.lay_offsets.Given as goal

abbrev pub invariant-loop-step : goal.invariant-loop-step
invariant-loop-step l =
    (l.step-index ≤ length l.initial.steps) × Filled (λ j. lone (offset_of l.pitch l.k j)) l.step-index l.initial.steps l.steps × Corner l.pitch l.k l.step-index l.start l.column
