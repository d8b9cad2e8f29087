-- The goals of `goes_on` that the check leaves.
use Prim.Native.Nat.{◌+◌}
use mir.Syntax.{w32}
use mir.Val.{SFits}
use mathlib.Core.Path.{sym, ◌∙◌, ap₂}
use mir.Facts.{to_z-of_z}
use Rattle.order.specs.Sizes.{at}
use Rattle.order.specs.Relations.{rel, alike}
use Rattle.order.proofs.Tests.{and_first, and_second}
use Rattle.search.proofs.RunLaws.{goes_further}
use borrow.Author.Rules.{rules}
use Rattle.search.proofs.steady.goes_on.Goals as goal

pub loop-k-preserved : goal.loop-k-preserved
loop-k-preserved c =
    λ h.
    let l = c.loop-k in
    let next : SFits w32 (at c.args.trace.now (c.args.e + 1 + l.k)) = search rules in
    let here : SFits w32 (at c.args.trace.now (c.args.e + l.k)) = search rules in
    goes_further (l.invariant (and_first l.all c.goes-all.result h))
    (sym
    (c.goes-all.ensures ∙
    ap₂ (λ a b. alike (rel a b) c.args.way) (to_z-of_z next) (to_z-of_z here)) ∙
    and_second l.all c.goes-all.result h)
