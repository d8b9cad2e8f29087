-- `check` meets its contract: each test that the code makes is the verdict's own, in the same order.
use borrow.Author.Tests.{lt-ltb, le-ltb}
use Rattle.order.specs.Refusals.{tables_verdict, witnesses_verdict}
use Rattle.sizes.proofs.short_tables.check.Goals as goal

pub returns-then-low-m : goal.returns-then-low-m
unfolding tables_verdict witnesses_verdict
returns-then-low-m c = simp (lt-ltb _ _ c.if-low-m.true)

pub returns-then-high-m : goal.returns-then-high-m
unfolding tables_verdict witnesses_verdict
returns-then-high-m c = simp (le-ltb _ _ c.if-low-m.false, lt-ltb _ _ c.if-high-m.true)

pub returns-then-witness_i-m : goal.returns-then-witness_i-m
unfolding tables_verdict witnesses_verdict
returns-then-witness_i-m c = simp (le-ltb _ _ c.if-low-m.false, le-ltb _ _ c.if-high-m.false, lt-ltb _ _ c.if-witness_i-m.true)

pub returns-then-witness_j-m : goal.returns-then-witness_j-m
unfolding tables_verdict witnesses_verdict
returns-then-witness_j-m c =
    simp (le-ltb _ _ c.if-low-m.false, le-ltb _ _ c.if-high-m.false, le-ltb _ _ c.if-witness_i-m.false, lt-ltb _ _ c.if-witness_j-m.true)

pub returns : goal.returns
unfolding tables_verdict witnesses_verdict
returns c =
    simp (le-ltb _ _ c.if-low-m.false, le-ltb _ _ c.if-high-m.false, le-ltb _ _ c.if-witness_i-m.false, le-ltb _ _ c.if-witness_j-m.false)
