-- `keep_run` meets its contract. The loop's invariant: the windows passed are written, each behind the one before.
use mathlib.Core.Path.{◌≡◌}
use Rattle.duels.specs.Inside.Stacks.{pushed_run}
use Rattle.duels.proofs.arrivals.keep_run.Given as goal

abbrev pub invariant-loop-k : goal.invariant-loop-k
invariant-loop-k l = l.entries ≡ pushed_run l.initial.entries 0 l.from l.k
