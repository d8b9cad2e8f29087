-- The goals of `holds_lost` that the check leaves.
use mathlib.Core.Path.{◌≡◌, sym, ◌∙◌, ap, ap₂}
use mathlib.Core.Bool.{◌||◌}
use native.Mathlib.Omega.{arith}
use lib.ListN.{length}
use Rattle.stitches.proofs.Looks.{lost-told, lost_below, none_below, one_below, all_below_lem}
use borrow.Author.Rules.{rules}
use Rattle.stitches.proofs.holds_lost.Goals as goal

pub loop-sample-init : goal.loop-sample-init
loop-sample-init c = sym (none_below _)

pub loop-sample-preserved : goal.loop-sample-preserved
loop-sample-preserved c =
    let l = c.loop-sample in
    ap₂ ◌||◌ l.invariant (lost-told _ (search rules)) ∙ sym (one_below _ l.sample-index)

pub returns : goal.returns
returns c =
    let l = c.loop-sample in
    let end = c.loop-sample-test.false in
    let all : l.sample-index ≡ length c.args.samples.now = omega arith in
    l.invariant ∙ ap (lost_below _) all ∙ all_below_lem _
