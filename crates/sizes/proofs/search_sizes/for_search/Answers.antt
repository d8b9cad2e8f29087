-- `for_search` meets its contract.
use mathlib.Core.Path.{sym, ◌∙◌}
use Rattle.std.proofs.lemmas.Result.{err_from_is_err_and}
use Rattle.sizes.proofs.LengthLaws.{fitting_refused, fitting_fit}
use Rattle.sizes.proofs.search_sizes.for_search.Goals as goal

pub returns-in_err-for_tables : goal.returns-in_err-for_tables
returns-in_err-for_tables c =
    let why = err_from_is_err_and c.from_residual.result c.from_residual.ensures.1 in
    rw (why.1, why.2)
    (fitting_refused _ _ _ _ _ _ _ _
    _ (sym c.in_err-for_tables.was ∙ c.for_tables.ensures))

pub returns : goal.returns
returns c =
    fitting_fit _ _ _ _ _ _ _ _
    (sym c.in_ok-for_tables.was ∙ c.for_tables.ensures) c.for_room.ensures
