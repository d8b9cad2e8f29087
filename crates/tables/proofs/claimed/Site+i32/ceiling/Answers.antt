-- `ceiling` meets its contract: what a claimed high neighbour forbids, and that one less than its sample is a sample.
use Rattle.tables.proofs.ClaimLaws.{ceiling_none, ceiling_place}
use borrow.Author.Rules.{rules}
use Rattle.tables.proofs.claimed.Site+i32.ceiling.Goals as goal

pub returns-then-h-eq-NONE : goal.returns-then-h-eq-NONE
returns-then-h-eq-NONE c = ceiling_none c.args.self.now.pattern.now c.args.self.now.j (search rules) c.if-h-eq-NONE.true

pub returns-then-x-y : goal.returns-then-x-y
returns-then-x-y c = ceiling_place c.args.self.now.pattern.now c.args.self.now.j _ (search rules) (search rules) c.if-x-y.true c.from-at.ensures c.if-at-self.true
