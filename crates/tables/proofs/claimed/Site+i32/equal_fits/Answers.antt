-- `equal_fits` meets its contract: an earlier equal sample with none after it is both neighbours.
use borrow.Author.Tests.{eqb-true}
use Rattle.tables.proofs.ClaimLaws.{equal_place, first_entries_lem}
use Rattle.tables.proofs.Values.{own_none}
use borrow.Author.Rules.{rules}
use Rattle.tables.proofs.claimed.Site+i32.equal_fits.Goals as goal

pub returns-then-k-eq-NONE : goal.returns-then-k-eq-NONE
returns-then-k-eq-NONE c = λ e. first_entries_lem _ _ _ (eqb-true _ _ e) c.if-k-eq-NONE.true

pub returns-then-at-self : goal.returns-then-at-self
returns-then-at-self c =
    λ e. equal_place c.args.self.now.pattern.now c.args.self.now.j c.from-at.result c.from-at.ensures c.if-at-self.true (search rules) (search rules)
    c.none_within.result (λ t. own_none (c.none_within.ensures t)) e
