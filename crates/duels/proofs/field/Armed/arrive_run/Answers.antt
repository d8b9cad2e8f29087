-- `arrive_run` meets its contract: either way the run's windows arrive on the stack.
use Prim.Native.Nat.{◌+◌, ◌-◌, ◌≤◌}
use mathlib.Core.Path.{ap}
use mathlib.Core.Bool.{not}
use native.Mathlib.Omega.{arith}
use lib.ListN.{length}
use borrow.Rule.Slice.PartMut.{mid_len}
use Rattle.order.proofs.Lists.{windows_few}
use Rattle.duels.proofs.StackLaws.{few_arrived, run_written, run_put, same_run}
use Rattle.duels.proofs.field.Armed.arrive_run.Goals as goal
use Rattle.duels.proofs.field.Armed.arrive_run.Goals.{Start}

-- the windows of the trace are few, and so are those that have arrived
few : (c : Start) → (c.args.past ≤ 65537) × (c.args.before.windows ≤ c.args.from) × (c.args.before.kept + (c.args.past - c.args.from) ≤ c.args.self.field.windows) × (c.args.from ≤ c.args.past)
few c =
    let w = windows_few (length c.args.self.field.pattern.now) (length c.args.self.field.trace.now) _ c.args.self.field.all c.args.self.field.short in
    let e = c.args.self.field.all in
    let i = c.requires.1.inside in
    let h = c.requires.1.within in
    let n = c.requires.2.count in
    let a = few_arrived c.requires.2 in
    ((omega arith), a, (omega arith), h)

pub overflow_add-kept : goal.overflow_add-kept
overflow_add-kept c =
    let f = few (goal.at.overflow_add-kept c).Start in
    let n = c.requires.2.count in
    omega (arith, f.0, f.1, f.3)

pub offset_bounds-survivors-before : goal.offset_bounds-survivors-before
offset_bounds-survivors-before c =
    let f = few (goal.at.offset_bounds-survivors-before c).Start in
    let n = c.requires.2.count in
    omega (arith, f.0, f.1, f.3)

pub slice_bounds-keep_run-end : goal.slice_bounds-keep_run-end
slice_bounds-keep_run-end c =
    let r = c.requires.0 in
    omega (arith, (few (goal.at.slice_bounds-keep_run-end c).Start).2)

-- the run's entries are there
room : (c : Start) → c.args.before.kept + (c.args.past - c.args.from) ≤ length c.args.survivors.now
room c =
    let r = c.requires.0 in
    let k = (few c).2 in
    omega arith

pub keep_run-requires : goal.keep_run-requires
keep_run-requires c =
    let s = (goal.at.keep_run-requires c).Start in
    let f = few s in
    let long = mid_len c.args.before.kept (c.args.before.kept + (c.args.past - c.args.from)) c.args.survivors.now (room s) in
    omega (arith, f.0, f.3)

pub overflow_add-result : goal.overflow_add-result
overflow_add-result c =
    let f = few (goal.at.overflow_add-result c).Start in
    omega (arith, f.0, f.1, f.3)

pub returns-in_default : goal.returns-in_default
returns-in_default c =
    let s = (goal.at.returns-in_default c).Start in
    let f = few s in
    let k = f.2 in
    let run = c.requires.1 in
    let e = run_put c.args.survivors.now c.args.before.kept c.args.from (c.args.past - c.args.from) (room s) c.keep_run.ensures in (
      run_written (c.args.self.way.agreeing c.in_default.is) c.requires.2 f.3 (λ x h g. ap not (run.entering x h g)) (room s) e,
      rw e (same_run _ _ _ _ k),
    )
