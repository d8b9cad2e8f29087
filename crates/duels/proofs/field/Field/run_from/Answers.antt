-- `run_from` meets its contract: where the next lost stitch stands tells where the run ends.
use Prim.Native.Nat.{◌<◌}
use native.Mathlib.Omega.{arith}
use lib.ListN.{length}
use Rattle.order.specs.Sizes.{windows_of}
use Rattle.order.proofs.Lists.{windows_of_as}
use Rattle.duels.proofs.LostRuns.{no_run, some_run}
use Rattle.duels.proofs.field.Field.run_from.Goals as goal
use Rattle.duels.proofs.field.Field.run_from.Goals.{Start}

-- the run begins with one of the trace's windows
begun : (c : Start) → c.args.from < windows_of (length c.args.self.pattern.now) (length c.args.self.trace.now)
begun c =
    let h = c.requires.1 in
    let e = c.args.self.all in
    omega arith

pub lost_from-end-requires : goal.lost_from-end-requires
lost_from-end-requires c =
    let w = windows_of_as (length c.args.self.pattern.now) (length c.args.self.trace.now) in
    let h = begun (goal.at.lost_from-end-requires c).Start in
    (c.requires.0, omega arith, c.args.self.short)

pub returns-then-end-from : goal.returns-then-end-from
returns-then-end-from c =
    no_run c.args.self.pattern.now c.args.self.trace.now c.lost_from-end.ensures (begun (goal.at.returns-then-end-from c).Start) c.if-end-from.true

pub returns : goal.returns
returns c = some_run c.args.self.pattern.now c.args.self.trace.now c.lost_from-end.ensures (begun (goal.at.returns c).Start) c.if-end-from.false
