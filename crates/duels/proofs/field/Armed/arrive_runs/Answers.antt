-- The goals of `arrive_runs` that the check leaves.
use mathlib.Core.Path.{refl}
use native.Mathlib.Omega.{arith}
use Rattle.duels.specs.Inside.Stacks.{ArrivedOf}
use Rattle.duels.proofs.StackLaws.{at_first, standing_as, same_first, same_then}
use Rattle.duels.proofs.LostRuns.{run_over}
use Rattle.duels.proofs.field.Armed.arrive_runs.Goals as goal
use Rattle.duels.proofs.field.Armed.arrive_runs.Goals.{In-loop-from}

pub loop-from-init : goal.loop-from-init
loop-from-init c = (standing_as (at_first _ _ _) (omega arith) refl refl refl, same_first _ _)

-- where a run begins
begins : (c : In-loop-from) →
    ArrivedOf c.args.self.field.pattern.now c.args.self.field.witness_i.now c.args.self.field.witness_j.now c.args.self.field.trace.now c.loop-from.survivors c.loop-from.from c.loop-from.so_far
begins c =
    let h = c.loop-from-test.true in
    let n = c.args.self.field.all in
    standing_as c.loop-from.invariant.0 (omega arith) refl refl refl

pub loop-from-preserved : goal.loop-from-preserved
loop-from-preserved c =
    let r = c.run_from-run.ensures in
    let t = c.arrive_run-so_far.ensures in
    (run_over r t.0, same_then c.loop-from.invariant.1 t.1)
