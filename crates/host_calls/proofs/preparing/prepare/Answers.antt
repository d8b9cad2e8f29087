-- `prepare` meets its contract: a length that is refused, or the pattern by its samples.
use Rattle.host_calls.proofs.PrepareLaws.{prepare_unfit}
use Rattle.host_calls.proofs.preparing.prepare.Goals as goal

pub returns-in-Err : goal.returns-in-Err
returns-in-Err c = prepare_unfit _ _ _ _ _ c.for_pattern.ensures c.in-Err.is c.result_of.ensures
