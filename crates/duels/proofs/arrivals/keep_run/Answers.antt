-- The goals of `keep_run` that the check leaves.
use Prim.Native.Nat.{◌+◌}
use mathlib.Core.Path.{sym, ◌∙◌, ap}
use lib.ListN.{set}
use Rattle.duels.proofs.StackLaws.{run_none, part_more}
use Rattle.duels.proofs.arrivals.keep_run.Goals as goal

pub loop-k-init : goal.loop-k-init
loop-k-init c = sym (run_none _ _ _)

pub loop-k-preserved : goal.loop-k-preserved
loop-k-preserved c =
    let l = c.loop-k in
    ap (λ t. set t l.k (c.args.from + l.k)) l.invariant ∙ sym (part_more c.args.entries.now c.args.from l.k)
