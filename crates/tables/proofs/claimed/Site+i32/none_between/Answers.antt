-- `none_between` meets its contract: up to the first neighbour, from one to the other, and after both.
use mathlib.Core.Bool.{◌&&◌}
use native.Mathlib.Omega.{arith}
use mir.Syntax.{w32}
use mir.Val.{SFits}
use mir.Facts.{to_z-of_z}
use Rattle.order.proofs.Tests.{and_first, and_second}
use Rattle.tables.proofs.ClaimLaws.{stretches}
use Rattle.tables.proofs.Values.{own_none}
use borrow.Author.Rules.{rules}
use Rattle.tables.proofs.claimed.Site+i32.none_between.Goals as goal

pub returns : goal.returns
returns c = λ e.
    let ps = c.none_within.result in
    let qs = c.none_within-2.result in
    let rs = c.none_within-3.result in
    let abc = and_first ((ps && qs) && rs) c.none_within-4.result e in
    let ab = and_first (ps && qs) rs abc in
    let fb : SFits w32 c.args.below.before = search rules in
    let fa : SFits w32 c.args.below.after = search rules in
    let gb : SFits w32 c.args.above.before = search rules in
    let ga : SFits w32 c.args.above.after = search rules in
    stretches c.args.self.now.pattern.now c.args.self.now.j c.args.below.start c.args.above.start c.args.below.before c.args.below.after
    c.args.above.before c.args.above.after (omega arith) (omega arith)
    (simp (to_z-of_z fb, to_z-of_z gb) at (own_none (c.none_within.ensures (and_first ps qs ab))))
    (simp (to_z-of_z fa, to_z-of_z gb) at (own_none (c.none_within-2.ensures (and_second ps qs ab))))
    (simp (to_z-of_z fb, to_z-of_z ga) at (own_none (c.none_within-3.ensures (and_second (ps && qs) rs abc))))
    (simp (to_z-of_z fa, to_z-of_z ga) at (own_none (c.none_within-4.ensures (and_second ((ps && qs) && rs) c.none_within-4.result e))))
