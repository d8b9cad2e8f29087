-- `search_bytes` meets its contract: a length that is refused, or the pattern by its samples.
use Rattle.host_calls.proofs.SearchingLaws.{search_unfit}
use Rattle.host_calls.proofs.tiers.search_bytes.Goals as goal

pub returns-in-Err-clause-promise : goal.returns-in-Err-clause-promise
returns-in-Err-clause-promise g c = search_unfit _ _ _ _ _ _ _ _ _ c.for_pattern.ensures c.in-Err.is c.result_of.ensures
