-- The goals of `sweep_steady` that the check leaves.
use Prim.Native.Nat.{◌+◌, ◌*◌, ◌≤◌}
use native.Mathlib.Omega.{arith}
use lib.ListN.{length}
use Rattle.search.specs.Inside.Sweeps.{first, turn}
use Rattle.search.proofs.SweepSteps.{from_here, from_there, all_swept, rows-number, rows_few}
use Rattle.search.proofs.steady.Survivors.sweep_steady.Goals as goal
use Rattle.search.proofs.steady.Survivors.sweep_steady.Goals.{At-loop-k}

pub loop-k-init : goal.loop-k-init
loop-k-init c =
    let e = c.steady_some-so_far.ensures in
    let g = e.1 in
    let l = e.0.so_far.long in
    let r = c.requires in
    (from_here e.0, omega arith, first e.0 (omega arith))

-- what is made by the time of a turn is within the bound, and the bound is a small number
few-made : (c : At-loop-k) →
    (c.loop-k.so_far.spent + c.loop-k.wasted ≤ length c.args.self.trace.now + 2 * length c.args.self.windows.now) × (length c.args.self.trace.now + 2 * length c.args.self.windows.now ≤ 196610)
few-made c =
    let i = c.loop-k.invariant.1 in
    let r = c.loop-k.invariant.0.so_far.reached in
    let w = c.loop-k.invariant.0.so_far.within in
    let n = c.args.self.rows.trace in
    let m = rows_few c.args.self.rows in
    (omega arith, omega arith)

pub loop-k-preserved : goal.loop-k-preserved
loop-k-preserved c =
    let i = c.loop-k.invariant.1 in
    let f = few-made (goal.at.loop-k-preserved c).At-loop-k in
    let t = c.steady_turn-turn.ensures in
    let g = t.cheap in
    (from_there c.loop-k.invariant.0 t.swept_on, omega (arith, f.0, f.1), turn c.loop-k.invariant.2 t)

pub returns : goal.returns
returns c =
    let f = few-made (goal.at.returns c).At-loop-k in (
      all_swept (from_there c.steady_some-so_far.ensures.0 c.loop-k.invariant.0) c.loop-k-test.false (rows-number c.args.self.rows) (omega (arith, f.0, f.1)),
      record { k = _; reach = _; done = c.loop-k-test.false; turned = c.loop-k.invariant.2 },
    )
