-- The goals of `look_alone` that the check leaves.
use mathlib.Core.Path.{refl, ◌∙◌}
use native.Mathlib.Omega.{arith}
use Rattle.frames.proofs.MaskLaws.{alone_none, alone_more}
use borrow.Author.Rules.{rules}
use Rattle.frames.proofs.blocks.look_alone.Goals as goal

pub loop-i-init : goal.loop-i-init
loop-i-init c = (omega arith, refl, alone_none _ _ c.requires.2 c.requires.1)

pub loop-i-preserved : goal.loop-i-preserved
loop-i-preserved c = let l = c.loop-i.invariant in let h = c.loop-i-test.true in rw c.from-standing.ensures (omega arith, search rules, alone_more _ _ _ l.2 (omega arith) (c.still_stands.ensures ∙ l.2.waiting _ (omega arith) (omega arith)))
