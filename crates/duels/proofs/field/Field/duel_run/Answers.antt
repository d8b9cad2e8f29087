-- The goals of `duel_run` that the check leaves.
use Prim.Native.Nat.{ℕ, ◌+◌, ◌<◌, ◌≤◌, ◌-◌}
use mathlib.Core.Path.{◌≡◌, refl, sym, ◌∙◌, ap}
use mathlib.Core.Bool.{true, not}
use native.Mathlib.Omega.{arith}
use lib.ListN.{length}
use Rattle.order.proofs.Lists.{windows_few, window-inside}
use Rattle.duels.specs.DuelPromise.{meets_by}
use Rattle.duels.specs.Inside.Stacks.{enters}
use Rattle.duels.proofs.StackLaws.{Settled, run_dropped, run_pushed, kept-below, few_arrived, settle_empty, settle_agree, settle_newer, settle_both, look_again, settled_as}
use Rattle.duels.proofs.field.Field.duel_run.Goals as goal
use Rattle.duels.proofs.field.Field.duel_run.Goals.{then-kept-eq0, else-kept-eq0+in-Agree, else-kept-eq0+in-NewerFalls, else-kept-eq0+in-BothFall, At-windows, In-windows, Joined-kept-eq0, Start}

-- the windows of the trace are few
few-windows : (c : Start) → c.args.past ≤ 65537
few-windows c =
    let w = windows_few (length c.args.self.pattern.now) (length c.args.self.trace.now) _ refl c.args.self.short in
    let i = c.requires.2.inside in
    omega arith

-- and the run's are among them
among : (c : Start) → c.args.past ≤ c.args.self.windows
among c =
    let i = c.requires.2.inside in
    let e = c.args.self.all in
    omega arith

-- of those that have arrived, some are kept
few-kept : (c : At-windows) → (c.windows.kept ≤ c.windows.y) × (c.windows.kept + c.windows.both ≤ c.windows.y) × (c.windows.y ≤ 65537)
few-kept c =
    let i = c.windows.invariant in
    let n = i.standing.count in
    let a = few_arrived i.standing in
    let w = i.within in
    let f = windows_few (length c.args.self.pattern.now) (length c.args.self.trace.now) _ refl c.args.self.short in
    let h = c.requires.2.inside in
    ((omega arith), (omega arith), (omega arith))

pub offset_bounds-survivors-kept : goal.offset_bounds-survivors-kept
offset_bounds-survivors-kept c =
    let f = c.loop-kept.invariant.0.fewer in
    let k = few-kept (goal.at.offset_bounds-survivors-kept c).At-windows in
    omega (arith, k.0, k.2)

pub bounds-survivors-kept : goal.bounds-survivors-kept
bounds-survivors-kept c =
    let f = c.loop-kept.invariant.0.fewer in
    let k = few-kept (goal.at.bounds-survivors-kept c).At-windows in
    let t = c.windows-test.true in
    let i = among (goal.at.bounds-survivors-kept c).Start in
    let r = c.requires.0 in
    let g = c.windows.invariant.behind.same_length in
    omega (arith, k.0)

pub meet-requires : goal.meet-requires
meet-requires c =
    let f = c.loop-kept.invariant.0.fewer in
    let t = c.windows-test.true in
    let i = c.requires.2.inside in
    let below = kept-below c.windows.invariant.standing (c.loop-kept.kept - 1) (omega arith) in
    record {
      coded = c.requires.1;
      later = omega arith;
      inside = window-inside (length c.args.self.pattern.now) (length c.args.self.trace.now) _ c.windows.y refl (omega arith);
    }

pub loop-kept-preserved : goal.loop-kept-preserved
loop-kept-preserved c = (
  look_again c.loop-kept.invariant.0 c.if-kept-eq0.false refl (sym c.meet.ensures ∙ c.in-OlderFalls.is),
  c.loop-kept.invariant.1,
)

pub overflow_add-both : goal.overflow_add-both
overflow_add-both c =
    let e = c.loop-kept.invariant.1 in
    let k = few-kept (goal.at.overflow_add-both c).At-windows in
    omega (arith, k.1, k.2)

-- where the breaks meet, the arrival has settled
settled : (c : Joined-kept-eq0) →
    Settled (meets_by c.args.self.pattern.now c.args.self.witness_i.now c.args.self.witness_j.now c.args.self.trace.now) c.windows.survivors c.windows.y (c.args.before.windows + (c.windows.y - c.args.from)) c.windows.kept c.windows.both
    c.if-kept-eq0.kept c.if-kept-eq0.both c.if-kept-eq0.end
settled c =
    let i = c.loop-kept.invariant.0 in
    let e = c.loop-kept.invariant.1 in
    elim c.if-kept-eq0.branch [
      | then-kept-eq0 w ↦ settled_as w.kept-is (w.both-is ∙ e) w.end-is (settle_empty i w.if-kept-eq0.true)
      | else-kept-eq0+in-Agree w ↦
          settled_as w.kept-is (w.both-is ∙ e) w.end-is
          (settle_agree i w.if-kept-eq0.false refl (sym w.meet.ensures ∙ w.in-Agree.is))
      | else-kept-eq0+in-NewerFalls w ↦
          settled_as w.kept-is (w.both-is ∙ e) w.end-is
          (settle_newer i w.if-kept-eq0.false refl (sym w.meet.ensures ∙ w.in-NewerFalls.is))
      | else-kept-eq0+in-BothFall w ↦
          settled_as w.kept-is (w.both-is ∙ ap (λ n. n + 1) e) w.end-is
          (settle_both i w.if-kept-eq0.false refl (sym w.meet.ensures ∙ w.in-BothFall.is))
    ]

-- every window of the run takes part
entering : (c : In-windows) →
    enters c.args.self.pattern.now c.args.self.trace.now c.windows.y ≡ true
entering c =
    ap not (c.requires.2.entering c.windows.y c.windows.invariant.begun c.windows-test.true)

pub windows-preserved-in_default : goal.windows-preserved-in_default
windows-preserved-in_default c =
    run_dropped c.windows.invariant c.windows-test.true (entering (goal.at.windows-preserved-in_default c).In-windows) (rw c.in_default.is at (settled (goal.at.windows-preserved-in_default c).Joined-kept-eq0))

-- the entry that a window goes to is there: as many are kept at most as have arrived
room : {kept before y past windows long survivors : ℕ} → kept ≤ before → before ≤ y → y ≤ 65537 → y < past → past ≤ windows → windows ≤ long → survivors ≡ long →
    (kept < survivors) × (kept ≤ 65537)
room f k few h inside enough same = (omega arith, omega arith)

pub overflow_cast-survivors : goal.overflow_cast-survivors
overflow_cast-survivors c = let k = few-kept (goal.at.overflow_cast-survivors c).At-windows in omega (arith, k.2)

pub offset_bounds-survivors-kept-in-windows : goal.offset_bounds-survivors-kept-in-windows
offset_bounds-survivors-kept-in-windows c =
    let k = few-kept (goal.at.offset_bounds-survivors-kept-in-windows c).At-windows in
    let r = room (settled (goal.at.offset_bounds-survivors-kept-in-windows c).Joined-kept-eq0).fewer k.0 k.2 c.windows-test.true (among (goal.at.offset_bounds-survivors-kept-in-windows c).Start) c.requires.0 c.windows.invariant.behind.same_length in
    omega (arith, r.1)

pub bounds-survivors-kept-in-windows : goal.bounds-survivors-kept-in-windows
bounds-survivors-kept-in-windows c =
    let k = few-kept (goal.at.bounds-survivors-kept-in-windows c).At-windows in
    let r = room (settled (goal.at.bounds-survivors-kept-in-windows c).Joined-kept-eq0).fewer k.0 k.2 c.windows-test.true (among (goal.at.bounds-survivors-kept-in-windows c).Start) c.requires.0 c.windows.invariant.behind.same_length in
    r.0

pub overflow_add-kept : goal.overflow_add-kept
overflow_add-kept c =
    let k = few-kept (goal.at.overflow_add-kept c).At-windows in
    let r = room (settled (goal.at.overflow_add-kept c).Joined-kept-eq0).fewer k.0 k.2 c.windows-test.true (among (goal.at.overflow_add-kept c).Start) c.requires.0 c.windows.invariant.behind.same_length in
    omega (arith, r.1)

pub windows-preserved : goal.windows-preserved
windows-preserved c =
    run_pushed c.windows.invariant c.windows-test.true (entering (goal.at.windows-preserved c).In-windows) (among (goal.at.windows-preserved c).Start) c.requires.0 (rw c.in-Pushed.is at (settled (goal.at.windows-preserved c).Joined-kept-eq0))

pub overflow_add-result : goal.overflow_add-result
overflow_add-result c =
    let a = few_arrived c.requires.3 in
    let h = c.requires.2.within in
    let f = few-windows (goal.at.overflow_add-result c).Start in
    omega arith
