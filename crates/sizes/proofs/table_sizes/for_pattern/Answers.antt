-- `for_pattern` meets its contract: each test that the code makes is the verdict's own, in the same order.
use borrow.Author.Tests.{eq-eqb, ne_eqb, lt-ltb, le-ltb}
use Rattle.order.specs.Refusals.{pattern_verdict}
use Rattle.sizes.proofs.table_sizes.for_pattern.Goals as goal

pub returns-then-m-eq0 : goal.returns-then-m-eq0
unfolding pattern_verdict
returns-then-m-eq0 c = simp (eq-eqb _ _ c.if-m-eq0.true)

pub returns-then-m-gt-PATTERN_LIMIT : goal.returns-then-m-gt-PATTERN_LIMIT
unfolding pattern_verdict
returns-then-m-gt-PATTERN_LIMIT c = simp (ne_eqb _ _ c.if-m-eq0.false, lt-ltb _ _ c.if-m-gt-PATTERN_LIMIT.true)

pub returns : goal.returns
unfolding pattern_verdict
returns c = simp (ne_eqb _ _ c.if-m-eq0.false, le-ltb _ _ c.if-m-gt-PATTERN_LIMIT.false)
