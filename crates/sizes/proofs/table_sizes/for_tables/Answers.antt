-- `for_tables` meets its contract: the pattern's length, then its samples, and then the tables.
use mathlib.Core.Path.{sym, ◌∙◌, ap}
use Rattle.std.proofs.lemmas.Result.{err_from_is_err_and}
use Rattle.order.specs.Refusals.{prepare_verdict}
use Rattle.order.specs.Answers.{answer_by}
use Rattle.sizes.proofs.VerdictRows.{pattern_through, pattern_stays, stitches_through, stitches_stay}
use Rattle.sizes.proofs.table_sizes.for_tables.Goals as goal

pub returns-in_err-for_pattern : goal.returns-in_err-for_pattern
unfolding prepare_verdict
returns-in_err-for_pattern c =
    let why = err_from_is_err_and c.from_residual.result c.from_residual.ensures.1 in
    rw (why.1, why.2) (sym c.in_err-for_pattern.was ∙ pattern_stays _ c.for_pattern.ensures c.in_err-for_pattern.was _)

pub returns-in_err-check : goal.returns-in_err-check
unfolding prepare_verdict
returns-in_err-check c =
    let why = err_from_is_err_and c.from_residual-in_err-check.result c.from_residual-in_err-check.ensures.1 in
    rw (why.1, why.2)
    (sym c.in_err-check.was ∙ stitches_stay _ c.check.ensures c.in_err-check.was _ ∙
    ap (λ v. answer_by v tt) (sym (pattern_through _ (sym c.in_ok-for_pattern.was ∙ c.for_pattern.ensures) _)))

pub returns : goal.returns
unfolding prepare_verdict
returns c =
    c.check-2.ensures ∙
    ap (λ v. answer_by v tt)
    (sym
    (pattern_through _ (sym c.in_ok-for_pattern.was ∙ c.for_pattern.ensures) _ ∙
    stitches_through _ (sym c.in_ok-check.was ∙ c.check.ensures) _))
