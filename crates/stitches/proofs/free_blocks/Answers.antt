-- The goals of `free_blocks` that the check leaves.
use Prim.Native.Nat.{◌+◌, ◌-◌, ◌%◌}
use mathlib.Core.Path.{◌≡◌, sym, ◌∙◌, subst}
use native.Mathlib.Omega.{arith}
use lib.ListN.{length}
use Rattle.stitches.specs.Inside.{FreeWithin}
use Rattle.stitches.proofs.Looks.{free_part_more}
use Rattle.stitches.proofs.free_blocks.Goals as goal

pub loop-i-preserved : goal.loop-i-preserved
loop-i-preserved c =
    let h = c.loop-i-test.true in
    let v = c.loop-i.invariant in
    let e = v.2 in
    (free_part_more v.0 (omega arith) (omega arith) (sym c.if-holds_lost.false ∙ c.holds_lost.ensures), omega arith, omega arith)

pub returns-else-holds_lost : goal.returns-else-holds_lost
returns-else-holds_lost c =
    let h = c.loop-i-test.true in
    let v = c.loop-i.invariant in
    let e = v.2 in
    let all : c.loop-i.i + 64 ≡ length c.args.samples.now - length c.args.samples.now % 64 = omega arith in
    (subst (FreeWithin _ 0) all (free_part_more v.0 (omega arith) (omega arith) (sym c.if-holds_lost.false ∙ c.holds_lost.ensures)), omega arith)
