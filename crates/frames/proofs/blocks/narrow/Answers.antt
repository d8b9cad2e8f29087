-- `narrow` meets its contract: the five ways in which a place's neighbours can stand.
use Prim.Native.Nat.{◌+◌}
use mathlib.Core.Path.{◌≡◌, sym, ◌∙◌}
use mathlib.Core.Bool.{◌&&◌}
use lib.Dec.{ltb, eqb}
use lib.ListN.{get_or}
use Rattle.frames.proofs.StepLaws.{self_near, one_along, high_along, low_along, both_along}
use Rattle.frames.proofs.MaskLaws.{narrowed_passed}
use borrow.Author.Rules.{rules}
use Rattle.frames.proofs.blocks.narrow.Goals as goal

pub returns-then-below-here : goal.returns-then-below-here
returns-then-below-here c = narrowed_passed c.requires.1 (λ i. self_near _ _ _ c.if-below-above.true c.if-below-here.true)

pub returns-then-below-above : goal.returns-then-below-above
returns-then-below-above c = c.narrow_where.ensures _ (λ i r h p. let e : r ≡ (eqb (get_or c.args.frame.now (c.args.at + c.args.step.here + i) 0) (get_or c.args.frame.now (c.args.at + c.args.step.below + i) 0)) = search rules in e ∙ sym (one_along _ _ _ _ c.if-below-above.true))

pub returns-then-below : goal.returns-then-below
returns-then-below c = c.narrow_where-then-below.ensures _ (λ i r h p. let e : r ≡ (ltb (get_or c.args.frame.now (c.args.at + c.args.step.here + i) 0) (get_or c.args.frame.now (c.args.at + c.args.step.above + i) 0)) = search rules in e ∙ sym (high_along _ _ _ _ c.if-below-above.false c.if-below.true))

pub returns-then-above : goal.returns-then-above
returns-then-above c = c.narrow_where-then-above.ensures _ (λ i r h p. let e : r ≡ (ltb (get_or c.args.frame.now (c.args.at + c.args.step.below + i) 0) (get_or c.args.frame.now (c.args.at + c.args.step.here + i) 0)) = search rules in e ∙ sym (low_along _ _ _ _ c.if-below-above.false c.if-below.false c.if-above.true))

pub returns : goal.returns
returns c = c.narrow_where-2.ensures _ (λ i r h p. let e : r ≡ (ltb (get_or c.args.frame.now (c.args.at + c.args.step.below + i) 0) (get_or c.args.frame.now (c.args.at + c.args.step.here + i) 0) && ltb (get_or c.args.frame.now (c.args.at + c.args.step.here + i) 0) (get_or c.args.frame.now (c.args.at + c.args.step.above + i) 0)) = search rules in e ∙ sym (both_along _ _ _ _ c.if-below-above.false c.if-below.false c.if-above.false))
