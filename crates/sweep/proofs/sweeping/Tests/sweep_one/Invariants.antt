-- `sweep_one` meets its contract: each turn is one test of the rules' sweep, by the entries.
use Prim.Native.Nat.{◌+◌, ◌-◌}
use Rattle.sweep.specs.Sweeps.{entry_tests}
use Rattle.sweep.proofs.Testing.{Sweeping}
use Rattle.sweep.proofs.sweeping.Tests.sweep_one.Given as goal

abbrev pub invariant-loop-j : goal.invariant-loop-j
invariant-loop-j l = Sweeping (entry_tests l.self.low.now l.self.high.now l.self.trace.now) l.self.m l.start l.from l.before (l.start + l.j) l.spent

abbrev pub decreases-loop-j : goal.decreases-loop-j
decreases-loop-j l = l.self.m - l.j
