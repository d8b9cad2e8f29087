-- The goal of `put_positions` that the check leaves.
use native.Mathlib.Omega.{arith}
use Rattle.report.proofs.Printing.{line_put}
use Rattle.report.proofs.lines.put_positions.Goals as goal

pub loop-position-preserved : goal.loop-position-preserved
loop-position-preserved c =
    let l = c.loop-position in (
      line_put c.args.text.now _ l.position-index c.loop-position-test.true l.invariant.0 c.put_line.ensures.after,
      omega (arith, c.put_line.ensures.few, l.invariant.1),
    )
