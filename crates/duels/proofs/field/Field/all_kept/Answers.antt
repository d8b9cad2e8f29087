-- `all_kept` meets its contract: the samples before the first window's last one are looked at by themselves, all others with the windows.
use Prim.Native.Nat.{◌+◌, ◌-◌, ◌≤◌}
use mathlib.Core.Path.{◌≡◌, refl, sym, ◌∙◌, subst}
use native.Mathlib.Omega.{arith}
use lib.ListN.{length}
use Rattle.order.proofs.Tests.{clash}
use Rattle.order.proofs.Lists.{windows_of_as}
use Rattle.stitches.specs.Inside.{FreeWithin}
use Rattle.stitches.proofs.Looks.{free_then, free_part}
use Rattle.duels.proofs.StackLaws.{same_run}
use Rattle.duels.proofs.field.Field.all_kept.Goals as goal
use Rattle.duels.proofs.field.Field.all_kept.Goals.{Else-windows-eq0}

-- where there are windows, the last one ends with the trace
ends : (c : Else-windows-eq0) →
    (length c.args.self.pattern.now - 1 + c.args.self.windows ≡ length c.args.self.trace.now) × (length c.args.self.pattern.now - 1 ≤ length c.args.self.trace.now)
ends c =
    let w = windows_of_as (length c.args.self.pattern.now) (length c.args.self.trace.now) in
    let p = c.args.self.some in
    let n = c.args.self.all in
    let some = c.if-windows-eq0.false in
    ((omega arith), (omega arith))

pub keep_all-requires : goal.keep_all-requires
keep_all-requires c =
    let e = (ends (goal.at.keep_all-requires c).Else-windows-eq0).0 in
    (omega arith, c.requires, c.args.self.short)

pub returns-then-keep_all : goal.returns-then-keep_all
returns-then-keep_all c = ((λ e. clash e refl), rw c.keep_all.ensures.0 (same_run _ 0 0 _ (omega arith)))

pub slice_bounds-holds_lost-end : goal.slice_bounds-holds_lost-end
slice_bounds-holds_lost-end c =
    let e = (ends (goal.at.slice_bounds-holds_lost-end c).Else-windows-eq0).1 in
    omega arith

pub returns-then-holds_lost : goal.returns-then-holds_lost
returns-then-holds_lost c = ((λ e. clash e refl), rw c.keep_all.ensures.0 (same_run _ 0 0 _ (omega arith)))

pub returns : goal.returns
returns c =
    let t = c.args.self.trace.now in
    let e = ends (goal.at.returns c).Else-windows-eq0 in (
      (λ z.
          record {
            free = free_then (free_part t 0 (length c.args.self.pattern.now - 1) (omega arith) e.1 (sym c.if-holds_lost.false ∙ c.holds_lost.ensures))
                (subst (FreeWithin t (length c.args.self.pattern.now - 1)) e.0 (c.keep_all.ensures.1 c.if-keep_all.false));
            pushed = c.keep_all.ensures.0;
          }),
      rw c.keep_all.ensures.0 (same_run _ 0 0 _ (omega arith)),
    )
