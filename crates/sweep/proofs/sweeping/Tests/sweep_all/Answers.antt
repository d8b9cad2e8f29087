-- The goals of `sweep_all` that the check leaves.
use Prim.Native.Nat.{◌+◌, ◌≤◌, ◌<◌}
use mathlib.Core.Path.{refl, ◌∙◌}
use native.Mathlib.Omega.{arith}
use lib.ListN.{length, get_or}
use Rattle.lists.proofs.OneMore.{count-within}
use Rattle.sweep.specs.Sweeps.{places_of}
use Rattle.sweep.proofs.Listing.{rest_as, passed_over, store_behind, next_swept, swept_as}
use Rattle.sweep.proofs.Promised.{one_inside, one_outside, all_swept}
use Rattle.sweep.proofs.sweeping.Tests.sweep_all.Goals as goal

pub loop-x-preserved-then-self-start : goal.loop-x-preserved-then-self-start
loop-x-preserved-then-self-start c =
    let l = c.loop-x in
    let h = c.loop-x-test.true in
    let e = c.args.self.places in
    let t = c.if-self-start.true in (
      l.invariant.0,
      rest_as (one_outside _ (length c.args.self.trace.now) c.args.windows.now l.x-index h (omega arith)) (passed_over h l.invariant.1),
    )

pub loop-x-preserved : goal.loop-x-preserved
loop-x-preserved c =
    let l = c.loop-x in
    let h = c.loop-x-test.true in
    let s = c.args.self in
    let e = s.places in
    let t = c.if-self-start.false in
    let r = c.requires in
    let whole = c.sweep_one-end.result.whole in
    -- there is room for one more
    let few = l.invariant.1.few in
    let long = l.invariant.1.long in
    let room : l.found < length l.positions = omega arith in
    let count = c.list_one-found.ensures.1 ∙ count-within l.positions l.found whole room in
    let i : get_or c.args.windows.now l.x-index 0 + places_of s.low.now s.high.now ≤ length s.trace.now = omega arith in (
      rw (c.list_one-found.ensures.0, count) (store_behind l.positions c.args.positions.now l.found (get_or c.args.windows.now l.x-index 0) whole l.invariant.0),
      rw (c.list_one-found.ensures.0, count)
          (next_swept
          (rest_as (one_inside _ (length s.trace.now) c.args.windows.now l.x-index h i) l.invariant.1)
          h c.requires (swept_as l.reach e refl c.max.ensures c.sweep_one-end.ensures) i),
    )

pub returns : goal.returns
returns c = all_swept c.loop-x.invariant.1 c.loop-x.invariant.0 c.loop-x-test.false c.requires
