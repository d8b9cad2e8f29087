-- `list_standing` meets its contract. The loop's invariant: the columns passed are listed. The measure is the columns left.
use Prim.Native.Nat.{◌-◌, ◌≤◌}
use mathlib.Core.Path.{◌≡◌}
use mathlib.Core.Bool.{false}
use lib.ListN.{length, get_or}
use Rattle.frames.specs.Inside.{Listed}
use Rattle.frames.proofs.rows.list_standing.Given as goal

abbrev pub invariant-loop-i : goal.invariant-loop-i
invariant-loop-i l = (l.i ≤ length l.mask) × (length l.free ≡ length l.initial.free) × Listed (λ i. get_or l.mask i false) l.base l.i 0 l.initial.free l.n l.free

abbrev pub decreases-loop-i : goal.decreases-loop-i
decreases-loop-i l = length l.mask - l.i
