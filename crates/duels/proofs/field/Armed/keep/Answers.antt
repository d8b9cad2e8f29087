-- `keep` meets its contract: what the arrivals leave on the stack, and "unused" behind it; what did not arrive was struck.
use Prim.Native.Nat.{◌+◌, ◌≤◌}
use native.Mathlib.Omega.{arith}
use lib.ListN.{length}
use Rattle.order.proofs.Lists.{windows_few}
use Rattle.lists.proofs.FilledUp.{part_filled}
use Rattle.duels.proofs.StackLaws.{few_arrived}
use Rattle.duels.proofs.Promised.{filled_up}
use Rattle.duels.proofs.field.Armed.keep.Goals as goal
use Rattle.duels.proofs.field.Armed.keep.Goals.{After-arrive_runs-after}

-- the numbers that the arrivals leave
few : (c : After-arrive_runs-after) →
    let r = c.arrive_runs-after.result in
    (r.kept + r.both ≤ r.windows) × (r.windows ≤ c.args.self.field.windows) × (c.args.self.field.windows ≤ 65537)
few c =
    let t = c.arrive_runs-after.ensures.0 in
    let n = c.args.self.field.all in
    let w = windows_few (length c.args.self.field.pattern.now) (length c.args.self.field.trace.now) c.args.self.field.windows n c.args.self.field.short in
    (t.count, few_arrived t, w)

pub offset_bounds-survivors-kept : goal.offset_bounds-survivors-kept
offset_bounds-survivors-kept c =
    let f = few (goal.at.offset_bounds-survivors-kept c).After-arrive_runs-after in
    omega (arith, f.0, f.1, f.2)

pub slice_bounds-fill_unused-count : goal.slice_bounds-fill_unused-count
slice_bounds-fill_unused-count c =
    let f = few (goal.at.slice_bounds-fill_unused-count c).After-arrive_runs-after in
    omega (arith, f.0, f.1, f.2)

pub slice_bounds-fill_unused-start : goal.slice_bounds-fill_unused-start
slice_bounds-fill_unused-start c =
    let f = few (goal.at.slice_bounds-fill_unused-start c).After-arrive_runs-after in
    omega (arith, f.0, f.1, f.2)

pub overflow_sub-struck : goal.overflow_sub-struck
overflow_sub-struck c =
    let f = few (goal.at.overflow_sub-struck c).After-arrive_runs-after in
    omega (arith, f.0, f.1, f.2)

pub overflow_cast-result : goal.overflow_cast-result
overflow_cast-result c =
    let f = few (goal.at.overflow_cast-result c).After-arrive_runs-after in
    omega (arith, f.0, f.1, f.2)

pub overflow_cast-result-2 : goal.overflow_cast-result-2
overflow_cast-result-2 c =
    let f = few (goal.at.overflow_cast-result-2 c).After-arrive_runs-after in
    omega (arith, f.0, f.1, f.2)

pub returns : goal.returns
returns c =
    let t = c.arrive_runs-after.ensures in
    let f = few (goal.at.returns c).After-arrive_runs-after in
    let room = c.requires in
    let n = c.args.self.field.all in
    let l = t.1.same_length in
    let k = f.0 in
    let w = f.1 in
    filled_up c.args.self.field.pattern.now c.args.self.field.witness_i.now c.args.self.field.witness_j.now c.args.self.field.trace.now n t.0 t.1 (omega arith)
    (part_filled _ c.arrive_runs-after.result.kept c.args.self.field.windows (omega arith) (omega arith) c.fill_unused.ensures)
