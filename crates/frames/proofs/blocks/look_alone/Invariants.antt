-- `look_alone` meets its contract. The loop's invariant: the columns passed are through, with their number.
use Prim.Native.Nat.{◌≤◌}
use mathlib.Core.Path.{◌≡◌}
use lib.ListN.{length}
use Rattle.frames.proofs.MaskLaws.{Alone}
use Rattle.frames.proofs.blocks.look_alone.Given as goal

abbrev pub invariant-loop-i : goal.invariant-loop-i
invariant-loop-i l = (l.i ≤ length l.initial.mask) × (length l.mask ≡ length l.initial.mask) × Alone l.frame l.steps l.at l.from l.i l.standing l.mask
