-- `lay_near` meets its contract. The loop's invariant: the places passed have their neighbours. The measure is the places left.
use Prim.Native.Nat.{◌-◌, ◌≤◌}
use lib.ListN.{length}
use Rattle.frames.proofs.OffsetLaws.{NearTo}
use Rattle.frames.proofs.patches.lay_near.Given as goal

abbrev pub invariant-loop-j : goal.invariant-loop-j
invariant-loop-j l = (l.j ≤ length l.initial.steps) × NearTo l.low l.high l.j l.initial.steps l.steps

abbrev pub decreases-loop-j : goal.decreases-loop-j
decreases-loop-j l = length l.initial.steps - l.j
