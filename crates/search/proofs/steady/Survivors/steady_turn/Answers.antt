-- `steady_turn` meets its contract: a block or some survivors one by one, each as the rules sweep them. A look that fails makes no more
-- comparisons than survivors are swept after it.
use Prim.Native.Nat.{◌+◌}
use mathlib.Core.Logic.{inl}
use native.Mathlib.Omega.{arith}
use lib.ListN.{length}
use Rattle.search.specs.Inside.Runs.{block, listed_run}
use Rattle.search.specs.Inside.Sweeps.{SweptTo}
use Rattle.search.proofs.RunLaws.{run_swept}
use Rattle.search.proofs.steady.Survivors.steady_turn.Goals as goal
use Rattle.search.proofs.steady.Survivors.steady_turn.Goals.{Then-look}

-- the block, where there is one, listed and swept
block-swept : (c : Then-look) →
    SweptTo c.args.self.pattern.now c.args.self.trace.now (length c.args.self.windows.now) c.args.positions.now
    (listed_run c.args.self.windows.now c.args.k c.args.before.found block c.args.positions.now)
    (c.args.k + block) (c.args.before.reach + block) (c.args.before.spent + c.look_ahead-look.result.made) (c.args.before.found + block)
block-swept c =
    let p = c.requires in
    run_swept (c.look_ahead-look.ensures.passing c.if-look.true) c.args.self.rows c.args.self.steady.some p.1

pub returns-then-look : goal.returns-then-look
returns-then-look c =
    let a = c.look_ahead-look.ensures in
    let q = a.few in
    let b = block-swept (goal.at.returns-then-look c).Then-look in
    let w = b.so_far.within in
    let f = b.so_far.few in
    let r = b.room in
    record {
      swept_on = rw c.list_block.ensures b;
      onward = omega arith;
      cheap = omega arith;
      looked = λ b many. let e = a.looked b many in inl (omega arith, omega arith);
    }
