-- `check_two` meets its contract: the pattern's length, and then each test that the code makes is the verdict's own, in the same order.
use mathlib.Core.Path.{sym, ◌∙◌}
use native.Mathlib.Omega.{arith}
use borrow.Author.Tests.{lt-ltb, le-ltb}
use Rattle.std.proofs.lemmas.Result.{err_from_is_err_and}
use Rattle.order.specs.Refusals.{tables_verdict, witnesses_verdict}
use Rattle.sizes.proofs.VerdictRows.{pattern_through, pattern_stays}
use Rattle.tables.proofs.preparation.check_two.Goals as goal

pub returns-in_err-for_pattern : goal.returns-in_err-for_pattern
returns-in_err-for_pattern c =
    let why = err_from_is_err_and c.from_residual.result c.from_residual.ensures.1 in
    rw (why.1, why.2) (sym c.in_err-for_pattern.was ∙ pattern_stays _ c.for_pattern.ensures c.in_err-for_pattern.was _)

pub returns-then-low-m : goal.returns-then-low-m
unfolding tables_verdict
returns-then-low-m c = rw (pattern_through _ c.in_ok-for_pattern.ensures) (simp (lt-ltb _ _ c.if-low-m.true))

pub returns-then-high-m : goal.returns-then-high-m
unfolding tables_verdict
returns-then-high-m c =
    rw (pattern_through _ c.in_ok-for_pattern.ensures) (simp (le-ltb _ _ c.if-low-m.false, lt-ltb _ _ c.if-high-m.true))

pub returns : goal.returns
unfolding tables_verdict witnesses_verdict
returns c =
    rw (pattern_through _ c.in_ok-for_pattern.ensures)
    (simp (le-ltb _ _ c.if-low-m.false, le-ltb _ _ c.if-high-m.false, le-ltb c.args.m c.args.m (omega arith)))
