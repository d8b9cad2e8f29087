-- `narrow_where` meets its contract: each entry by one call of the closure.
use mathlib.Core.Path.{ap}
use mathlib.Core.Bool.{false, ◌&&◌}
use native.Mathlib.Omega.{arith}
use lib.ListN.{get_or}
use Rattle.frames.proofs.MaskLaws.{at_most_one, thinned_more}
use Rattle.frames.proofs.blocks.narrow_where.Goals as goal

pub loop-i-preserved : goal.loop-i-preserved
loop-i-preserved g c =
    let w = c.loop-i.invariant in
    let h = c.loop-i-test.true in
    let o = at_most_one (get_or c.loop-i.mask c.loop-i.i false && c.passes.result) in
    rw c.from-standing.ensures (omega (arith, h), omega (arith, w.1, o), λ t f. thinned_more _ (w.2 t f) h (ap (λ b. get_or c.loop-i.mask c.loop-i.i false && b) (f c.loop-i.i c.passes.result h c.passes.ensures)))
