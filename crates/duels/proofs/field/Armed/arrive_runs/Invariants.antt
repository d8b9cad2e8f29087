-- `arrive_runs` meets its contract. The loop's invariant: of the windows before the next run those that take part have arrived. The measure
-- is the windows left.
use Prim.Native.Nat.{◌-◌, min}
use lib.ListN.{length}
use Rattle.order.specs.Sizes.{windows_of}
use Rattle.duels.specs.Inside.Stacks.{ArrivedOf, SameBehind}
use Rattle.duels.proofs.field.Armed.arrive_runs.Given as goal

abbrev pub invariant-loop-from : goal.invariant-loop-from
invariant-loop-from l =
    ArrivedOf l.self.field.pattern.now l.self.field.witness_i.now l.self.field.witness_j.now l.self.field.trace.now l.survivors (min l.from (windows_of (length l.self.field.pattern.now) (length l.self.field.trace.now))) l.so_far × SameBehind l.self.field.windows l.initial.survivors l.survivors

abbrev pub decreases-loop-from : goal.decreases-loop-from
decreases-loop-from l = l.self.field.windows - l.from
