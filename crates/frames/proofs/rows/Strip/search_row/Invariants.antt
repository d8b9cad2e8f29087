-- `search_row` meets its contract. The loop's invariant: the columns passed are listed. The measure is the columns left.
use Prim.Native.Nat.{◌+◌, ◌-◌, ◌≤◌}
use mathlib.Core.Path.{◌≡◌}
use lib.ListN.{length}
use Rattle.frames.specs.Inside.{all_places_pass, Listed}
use Rattle.frames.proofs.rows.Strip.search_row.Given as goal

abbrev pub invariant-loop-c : goal.invariant-loop-c
invariant-loop-c l = (l.c ≤ l.self.columns) × (length l.free ≡ length l.initial.free) × Listed (λ i. all_places_pass l.self.frame.now l.self.steps.now (l.self.at + i)) l.self.base l.c 0 l.initial.free l.n l.free

abbrev pub decreases-loop-c : goal.decreases-loop-c
decreases-loop-c l = l.self.columns - l.c
