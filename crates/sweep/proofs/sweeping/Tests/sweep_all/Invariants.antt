-- `sweep_all` meets its contract: each turn sweeps one window as the rules do, or passes over one that is not in the trace. The loop's
-- invariant: the windows passed are swept.
use mathlib.Core.Path.{◌≡◌}
use lib.ListN.{length, drop}
use Rattle.sweep.specs.Sweeps.{places_of, entry_tests, inside_part}
use Rattle.sweep.specs.Inside.{SweptTo}
use Rattle.sweep.proofs.sweeping.Tests.sweep_all.Given as goal

abbrev pub invariant-loop-x : goal.invariant-loop-x
invariant-loop-x l =
    (drop l.found l.positions ≡ drop l.found l.initial.positions) ×
    SweptTo (entry_tests l.self.low.now l.self.high.now l.self.trace.now) (places_of l.self.low.now l.self.high.now) (length l.self.trace.now)
    (inside_part (places_of l.self.low.now l.self.high.now) (length l.self.trace.now) l.windows)
    (inside_part (places_of l.self.low.now l.self.high.now) (length l.self.trace.now) (drop l.x-index l.windows))
    (length l.windows) l.initial.positions l.positions l.x-index l.reach l.spent l.found
