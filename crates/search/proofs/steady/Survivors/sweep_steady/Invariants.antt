-- `sweep_steady` meets its contract. The loop's invariant has the comparisons made so far, those of looks that failed among them: at most
-- one for each sample passed and two for each survivor done. The measure is the survivors left.
use Prim.Native.Nat.{◌+◌, ◌-◌, ◌*◌, ◌≤◌}
use lib.ListN.{length}
use Rattle.search.specs.Inside.Sweeps.{SweptTo, Turned}
use Rattle.search.proofs.steady.Survivors.sweep_steady.Given as goal

abbrev pub invariant-loop-k : goal.invariant-loop-k
invariant-loop-k l =
    SweptTo l.self.pattern.now l.self.trace.now (length l.self.windows.now) l.initial.positions l.positions l.k l.so_far.reach l.so_far.spent l.so_far.found × (l.so_far.spent + l.wasted ≤ l.so_far.reach + 2 * l.k) × Turned l.self.pattern.now l.self.trace.now l.self.windows.now (length l.self.windows.now) l.k l.so_far.reach l.so_far.spent l.wasted

abbrev pub decreases-loop-k : goal.decreases-loop-k
decreases-loop-k l = (length l.self.windows.now) - l.k
