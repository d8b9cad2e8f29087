-- The goals of `list_standing` that the check leaves.
use mathlib.Core.Path.{refl}
use native.Mathlib.Omega.{arith}
use Rattle.frames.proofs.ListingLaws.{listed_none, listed_more}
use borrow.Author.Rules.{rules}
use Rattle.frames.proofs.rows.list_standing.Goals as goal

pub loop-i-init : goal.loop-i-init
loop-i-init c = (omega arith, refl, listed_none _ _ _ _)

pub loop-i-preserved : goal.loop-i-preserved
loop-i-preserved c = let w = c.loop-i.invariant in let m = w.2.at_most in rw c.from-n.ensures (omega arith, search rules, listed_more _ w.2 refl (omega arith))
