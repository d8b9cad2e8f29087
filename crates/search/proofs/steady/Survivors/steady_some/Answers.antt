-- The goals of `steady_some` that the check leaves.
use Prim.Native.Nat.{◌+◌, ◌-◌, ◌<◌}
use mathlib.Core.Path.{◌≡◌, refl, ◌∙◌}
use native.Mathlib.Omega.{arith}
use lib.ListN.{length, drop}
use lib.Seq.{get_or-take, get_or-drop}
use borrow.Rule.Slice.PartMut.{mid_len}
use Rattle.lists.proofs.OneMore.{count-within}
use Rattle.search.proofs.SweepSteps.{next_swept, entry_of, rows-number, rows_few, rows_inside, swept_as}
use Rattle.search.proofs.steady.Survivors.steady_some.Goals as goal

pub climb-end-requires : goal.climb-end-requires
climb-end-requires c =
    let l = c.loop-x in
    let n = mid_len c.args.first c.args.to c.args.self.windows.now c.requires.1 in
    let h = c.loop-x-test.true in
    let b = l.invariant.0.so_far.bound in
    let r = l.invariant.0.so_far.reached in
    let w = l.invariant.0.so_far.within in
    let rows = c.args.self.rows in
    let to = c.requires.1 in
    let here = get_or-take (c.args.to - c.args.first) (drop c.args.first c.args.self.windows.now) l.x-index 0 (omega arith) ∙ get_or-drop c.args.first c.args.self.windows.now l.x-index 0 in
    let e = rows_inside rows (c.args.first + l.x-index) (omega arith) in
    let g = c.max.ensures in
    let t = rows.trace in
    let p = entry_of c.args.self.pattern.now c.args.self.trace.now (length c.args.self.windows.now) c.args.self.windows.now (c.args.first + l.x-index) rows.held (omega arith) in
    let q = l.invariant.0.ahead (omega arith) in
    (record { inside = omega arith; begun = omega arith; reached = omega arith; small = omega (arith, rows_few rows) }, omega arith)

pub loop-x-preserved : goal.loop-x-preserved
loop-x-preserved c =
    let l = c.loop-x in
    let n = mid_len c.args.first c.args.to c.args.self.windows.now c.requires.1 in
    let t = c.loop-x-test.true in
    let to = c.requires.1 in
    let k = c.args.first + l.x-index in
    let h : k < (length c.args.self.windows.now) = omega arith in
    let rows = c.args.self.rows in
    let here = get_or-take (c.args.to - c.args.first) (drop c.args.first c.args.self.windows.now) l.x-index 0 (omega arith) ∙ get_or-drop c.args.first c.args.self.windows.now l.x-index 0 in
    let f = l.invariant.0.so_far.few in
    let long = l.invariant.0.so_far.long in
    let r = c.requires.2.room in
    let e = entry_of c.args.self.pattern.now c.args.self.trace.now (length c.args.self.windows.now) c.args.self.windows.now k rows.held h in
    let count = c.list_one-found.ensures.1 ∙ count-within l.positions l.found c.climb-end.result.whole (omega arith) in
    let same : c.args.first + (l.x-index + 1) ≡ k + 1 = omega arith in
    rw same (
      rw (c.list_one-found.ensures.0, count)
          (next_swept l.invariant.0 h (rows-number rows) (here ∙ e)
          (swept_as l.reach refl c.max.ensures c.climb-end.ensures.swept_one) (rw here (rows_inside rows k h))),
      (let g = c.climb-end.ensures.cheap in let m = c.max.ensures in let i = l.invariant.1 in omega arith),
    )
