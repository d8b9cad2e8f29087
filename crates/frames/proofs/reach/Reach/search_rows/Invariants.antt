-- `search_rows` meets its contract. The loop's invariant: the places of the rows passed are listed. The measure is the rows left.
use Prim.Native.Nat.{◌+◌, ◌-◌, ◌*◌, ◌≤◌}
use mathlib.Core.Path.{◌≡◌}
use lib.ListN.{length}
use Rattle.frames.specs.Inside.{all_places_pass, RowsListed}
use Rattle.frames.proofs.reach.Reach.search_rows.Given as goal

abbrev pub invariant-loop-row : goal.invariant-loop-row
invariant-loop-row l = (l.row ≤ l.self.rows) × (length l.positions ≡ length l.initial.positions) × RowsListed (λ row column. all_places_pass l.self.frame.now l.steps (row * l.self.pitch + column)) l.self.width l.self.columns l.row l.initial.positions l.found l.positions

abbrev pub decreases-loop-row : goal.decreases-loop-row
decreases-loop-row l = l.self.rows - l.row
