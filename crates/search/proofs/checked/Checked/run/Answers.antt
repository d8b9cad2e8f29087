-- `run` meets its contract: the duels' and the sweep's parts together, and the list of positions filled up behind.
use Prim.Native.Nat.{ℕ, ◌≤◌}
use mathlib.Core.Path.{◌≡◌}
use mathlib.Core.List.{List}
use native.Mathlib.Omega.{arith}
use lib.IntN.{ℤ}
use lib.ListN.{length, take}
use lib.Seq.{length-take-le}
use Rattle.order.specs.Sizes.{windows_of}
use Rattle.order.proofs.Lists.{windows_few}
use Rattle.duels.specs.declared.answers.Duelled.{Duelled}
use Rattle.lists.proofs.FilledUp.{part_filled}
use Rattle.search.specs.Inside.Asked.{SurvivorsOf}
use Rattle.search.specs.Inside.Sweeps.{SweepOf}
use Rattle.search.proofs.WrittenOut.{positions_out, survivors-held, kept_rows, searched}
use Rattle.search.proofs.checked.Checked.run.Goals as goal
use Rattle.search.proofs.checked.Checked.run.Goals.{After-sweep_windows, Start}

-- the windows of the trace are few
few-windows : (c : Start) → c.args.self.windows ≤ 65537
few-windows c = windows_few (length c.args.self.pattern.now) (length c.args.self.trace.now) c.args.self.windows c.args.self.own.number c.args.self.own.trace

-- the survivors are at most as many as the windows, and their list has them all
few-kept : {P T : List ℤ} {before after : List ℕ} {d : Duelled} {windows : ℕ} → windows ≡ windows_of (length P) (length T) → windows ≤ length before
    → SurvivorsOf P T before after d → (d.kept ≤ windows) × (d.kept ≤ length after) × (length (take d.kept after) ≡ d.kept)
few-kept n room s =
    let h = survivors-held s (omega arith) in
    let e = h.2 in
    (omega arith, h.1, length-take-le _ _ h.1)

pub sweep_windows-requires : goal.sweep_windows-requires
sweep_windows-requires c =
    let p = c.requires.1 in
    let n = c.args.self.own.number in
    let k = few-kept c.args.self.own.number c.requires.0 c.keep_windows-duelled.ensures in
    let f = k.0 in
    let l = k.2 in
    let h = survivors-held c.keep_windows-duelled.ensures (let r = c.requires.0 in omega arith) in
    (kept_rows _ _ c.args.self.own.trace h.0, omega arith, c.course-course.ensures)

-- what the sweep leaves, with the number of the survivors as the duels told it
left : (c : After-sweep_windows) →
    let d = c.keep_windows-duelled in
    let w = c.sweep_windows in
    SweepOf c.args.self.pattern.now c.args.self.trace.now d.result.kept c.args.positions.now w.new.positions w.result.swept.spent w.result.wasted w.result.swept.found
left c = let k = few-kept c.args.self.own.number c.requires.0 c.keep_windows-duelled.ensures in rw k.2 at c.sweep_windows.ensures

-- no more windows are listed than there are
found_few : (c : After-sweep_windows) → c.sweep_windows.result.swept.found ≤ c.args.self.windows
found_few c =
    let k = few-kept c.args.self.own.number c.requires.0 c.keep_windows-duelled.ensures in
    let e = k.0 in
    let f = (left c).few in
    omega arith

pub slice_bounds-fill_unused-count : goal.slice_bounds-fill_unused-count
slice_bounds-fill_unused-count c = omega (arith, found_few (goal.at.slice_bounds-fill_unused-count c).After-sweep_windows)

pub slice_bounds-fill_unused-start : goal.slice_bounds-fill_unused-start
slice_bounds-fill_unused-start c = found_few (goal.at.slice_bounds-fill_unused-start c).After-sweep_windows

pub overflow_cast-result : goal.overflow_cast-result
overflow_cast-result c = omega (arith, few-windows (goal.at.overflow_cast-result c).Start)

pub overflow_cast-result-2 : goal.overflow_cast-result-2
overflow_cast-result-2 c = omega (arith, few-windows (goal.at.overflow_cast-result-2 c).Start, (few-kept c.args.self.own.number c.requires.0 c.keep_windows-duelled.ensures).0)

pub overflow_cast-result-3 : goal.overflow_cast-result-3
overflow_cast-result-3 c =
    let b = (left (goal.at.overflow_cast-result-3 c).After-sweep_windows).bound in
    let t = c.args.self.own.trace in
    omega (arith, few-windows (goal.at.overflow_cast-result-3 c).Start, (few-kept c.args.self.own.number c.requires.0 c.keep_windows-duelled.ensures).0)

pub overflow_cast-result-4 : goal.overflow_cast-result-4
overflow_cast-result-4 c = omega (arith, few-windows (goal.at.overflow_cast-result-4 c).Start, found_few (goal.at.overflow_cast-result-4 c).After-sweep_windows)

pub returns : goal.returns
returns c =
    let n = c.args.self.own.number in
    let p = c.requires.1 in
    let w = left (goal.at.returns c).After-sweep_windows in
    let l = w.same_length in
    let f = found_few (goal.at.returns c).After-sweep_windows in
    let k = (few-kept c.args.self.own.number c.requires.0 c.keep_windows-duelled.ensures).0 in
    searched n c.keep_windows-duelled.ensures
    (positions_out w n (omega arith) k (part_filled c.sweep_windows.new.positions c.sweep_windows.result.swept.found c.args.self.windows (omega arith) (omega arith) c.fill_unused.ensures))
