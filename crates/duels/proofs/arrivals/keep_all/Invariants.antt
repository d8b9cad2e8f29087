-- `keep_all` meets its contract. The loop's invariant: the windows passed are written, and if the flag is still down no sample looked at is
-- lost.
use Prim.Native.Nat.{◌+◌}
use mathlib.Core.Path.{◌≡◌}
use mathlib.Core.Bool.{false}
use Rattle.stitches.specs.Inside.{FreeWithin}
use Rattle.duels.specs.Inside.Stacks.{pushed_run}
use Rattle.duels.proofs.arrivals.keep_all.Given as goal

abbrev pub invariant-loop-y : goal.invariant-loop-y
invariant-loop-y l = (l.survivors ≡ pushed_run l.initial.survivors 0 0 l.y) × (l.lost ≡ false → FreeWithin l.trace l.reach (l.reach + l.y))
