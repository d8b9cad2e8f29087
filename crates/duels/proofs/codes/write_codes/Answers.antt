-- The goals of `write_codes` that the check leaves.
use native.Mathlib.Omega.{arith}
use Rattle.duels.proofs.CodeLaws.{stopped_there}
use Rattle.duels.proofs.codes.write_codes.Goals as goal

pub returns-in_default : goal.returns-in_default
returns-in_default c =
    let h = c.loop-a-test.true in
    stopped_there c.loop-a.invariant (omega arith) (rw c.in_default.is at c.codes_of.ensures)
