-- `neighbours_fit` meets its contract. The loop's invariant: the entries of the places passed are the pattern's own. The measure is the
-- places left.
use Prim.Native.Nat.{ℕ, ◌≤◌, ◌<◌, ◌-◌}
use mathlib.Core.Path.{◌≡◌}
use lib.ListN.{length, get_or}
use Rattle.tables.specs.Inside.Claims.{OwnEntries}
use Rattle.tables.proofs.handed.Handed.neighbours_fit.Given as goal

abbrev pub invariant-loop-j : goal.invariant-loop-j
invariant-loop-j l = (l.j ≤ l.j-end) × (l.j-end ≡ length l.pattern) × ((k : ℕ) → k < l.j → OwnEntries l.pattern k (get_or l.low k 0) (get_or l.high k 0))

abbrev pub decreases-loop-j : goal.decreases-loop-j
decreases-loop-j l = l.j-end - l.j
