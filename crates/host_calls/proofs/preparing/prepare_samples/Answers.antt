-- `prepare_samples` meets its contract: refused before anything is written, or the tables.
use mathlib.Core.Path.{sym, ◌∙◌}
use Rattle.host_calls.proofs.PrepareLaws.{fine_fits}
use Rattle.host_calls.proofs.preparing.prepare_samples.Goals as goal

pub put_tables-requires : goal.put_tables-requires
put_tables-requires c = fine_fits _ _ _ _ _ (sym c.in-Ok.is ∙ c.for_tables.ensures)
