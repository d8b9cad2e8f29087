-- `duel_run` meets its contract: the survivors buffer is the rules' stack, window by window and look by look. The measures are the windows
-- left, and the entries of the stack.
use Prim.Native.Nat.{◌+◌, ◌-◌}
use mathlib.Core.Path.{◌≡◌}
use Rattle.duels.specs.DuelPromise.{meets_by}
use Rattle.duels.specs.Inside.Stacks.{enters}
use Rattle.duels.proofs.StackLaws.{Looking, Running}
use Rattle.duels.proofs.field.Field.duel_run.Given as goal

abbrev pub invariant-loop-kept : goal.invariant-loop-kept
invariant-loop-kept l =
    Looking (meets_by l.self.pattern.now l.self.witness_i.now l.self.witness_j.now l.self.trace.now) l.survivors l.y (l.before.windows + (l.y - l.from)) l.initial.kept l.initial.both l.kept × (l.both ≡ l.initial.both)

abbrev pub decreases-loop-kept : goal.decreases-loop-kept
decreases-loop-kept l = l.kept

abbrev pub invariant-windows : goal.invariant-windows
invariant-windows l =
    Running (meets_by l.self.pattern.now l.self.witness_i.now l.self.witness_j.now l.self.trace.now) (enters l.self.pattern.now l.self.trace.now) l.self.windows l.from l.past l.initial.survivors l.survivors l.before.windows l.kept l.both l.y
