-- `for_agreement` meets its contract: the pattern's length, and then the witness tables'.
use mathlib.Core.Path.{sym, ◌∙◌, ap}
use Rattle.std.proofs.lemmas.Result.{err_from_is_err_and}
use Rattle.order.specs.Refusals.{accepted, agree_verdict}
use Rattle.order.specs.Answers.{answer_by}
use Rattle.sizes.proofs.Verdicts.{own_room}
use Rattle.sizes.proofs.VerdictRows.{pattern_through, pattern_stays}
use Rattle.sizes.proofs.table_sizes.for_agreement.Goals as goal

pub returns-in_err-for_pattern : goal.returns-in_err-for_pattern
unfolding agree_verdict
returns-in_err-for_pattern c =
    let why = err_from_is_err_and c.from_residual.result c.from_residual.ensures.1 in
    rw (why.1, why.2) (sym c.in_err-for_pattern.was ∙ pattern_stays _ c.for_pattern.ensures c.in_err-for_pattern.was _)

pub returns : goal.returns
unfolding agree_verdict
returns c =
    c.check.ensures ∙
    ap (λ v. answer_by v tt) (own_room _ _ _ accepted ∙ sym (pattern_through _ (sym c.in_ok-for_pattern.was ∙ c.for_pattern.ensures) _))
