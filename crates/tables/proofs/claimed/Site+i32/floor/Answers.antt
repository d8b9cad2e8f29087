-- `floor` meets its contract: what a claimed low neighbour forbids, and that one more than its sample is a sample.
use Rattle.tables.proofs.ClaimLaws.{floor_none, floor_place}
use borrow.Author.Rules.{rules}
use Rattle.tables.proofs.claimed.Site+i32.floor.Goals as goal

pub returns-then-l-eq-NONE : goal.returns-then-l-eq-NONE
returns-then-l-eq-NONE c = floor_none c.args.self.now.pattern.now c.args.self.now.j (search rules) c.if-l-eq-NONE.true

pub returns-then-y-x : goal.returns-then-y-x
returns-then-y-x c = floor_place c.args.self.now.pattern.now c.args.self.now.j _ (search rules) (search rules) c.if-y-x.true c.from-at.ensures c.if-at-self.true
