-- `steady_some` meets its contract: each turn sweeps one survivor as the rules do, at one comparison for each
-- sample passed and one more if it fails.
use Prim.Native.Nat.{◌+◌, ◌≤◌}
use lib.ListN.{length}
use Rattle.search.specs.Inside.Sweeps.{SweptTo}
use Rattle.search.proofs.steady.Survivors.steady_some.Given as goal

abbrev pub invariant-loop-x : goal.invariant-loop-x
invariant-loop-x l =
    SweptTo l.self.pattern.now l.self.trace.now (length l.self.windows.now) l.initial.positions l.positions (l.first + l.x-index) l.reach l.spent l.found ×
    (l.spent + (l.initial.reach + l.first) ≤ l.initial.spent + (l.reach + (l.first + l.x-index)))
