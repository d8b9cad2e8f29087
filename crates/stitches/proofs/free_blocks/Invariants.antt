-- `free_blocks` meets its contract. The loop's invariant: none of the samples passed is lost, and they are whole blocks. The measure is the
-- samples left.
use Prim.Native.Nat.{◌-◌, ◌%◌, ◌≤◌}
use mathlib.Core.Path.{◌≡◌}
use Rattle.stitches.specs.Inside.{FreeWithin}
use Rattle.stitches.proofs.free_blocks.Given as goal

abbrev pub invariant-loop-i : goal.invariant-loop-i
invariant-loop-i l = FreeWithin l.samples 0 l.i × (l.i ≤ l.whole) × (l.i % 64 ≡ 0)

abbrev pub decreases-loop-i : goal.decreases-loop-i
decreases-loop-i l = l.whole - l.i
