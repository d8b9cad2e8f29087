-- The goals of `keep_all` that the check leaves.
use Prim.Native.Nat.{◌+◌, ◌-◌}
use mathlib.Core.Path.{sym, ◌∙◌, ap, subst}
use native.Mathlib.Omega.{arith}
use lib.ListN.{set}
use borrow.Rule.Slice.PartMut.{mid_len}
use Rattle.order.specs.Lost.{is_lost}
use Rattle.order.proofs.Isomorphisms.{at_part}
use Rattle.stitches.specs.Inside.{FreeWithin}
use Rattle.stitches.proofs.Looks.{lost-told, free_none, free_more}
use Rattle.duels.proofs.StackLaws.{run_none, all_more}
use Rattle.duels.proofs.LostRuns.{or_none}
use borrow.Author.Rules.{rules}
use Rattle.duels.proofs.arrivals.keep_all.Goals as goal

pub loop-y-init : goal.loop-y-init
loop-y-init c = (sym (run_none _ _ _), λ e. subst (FreeWithin _ _) (omega arith) (free_none _ _))

pub loop-y-preserved : goal.loop-y-preserved
loop-y-preserved c =
    let l = c.loop-y in
    let n = mid_len c.args.reach (c.args.reach + c.args.windows) c.args.trace.now c.requires.0 in
    let h = c.loop-y-test.true in
    let here = at_part (c.args.reach + c.args.windows - c.args.reach) c.args.reach c.args.trace.now l.y (omega arith) in (
      ap (λ t. set t l.y l.y) l.invariant.0 ∙ sym (all_more _ l.y),
      (λ e. let o = or_none l.lost _ e in subst (FreeWithin _ _) (omega arith) (free_more (l.invariant.1 o.0) (ap is_lost (sym here) ∙ sym (lost-told _ (search rules)) ∙ o.1))),
    )
