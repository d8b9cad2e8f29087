-- `search_samples` meets its contract: refused before anything is written, or searched in arrays of one of three sizes.
use Rattle.host_calls.proofs.SearchingLaws.{search_fits, search_refused}
use Rattle.host_calls.proofs.tiers.search_samples.Goals as goal

pub search_within-requires-clause-trace_len_bound : goal.search_within-requires-clause-trace_len_bound
search_within-requires-clause-trace_len_bound g c = (search_fits _ _ _ _ _ _ _ _ _ c.for_search.ensures c.in-Ok.is).trace_bound

pub search_within-requires-clause-fits : goal.search_within-requires-clause-fits
search_within-requires-clause-fits g c = search_fits _ _ _ _ _ _ _ _ _ c.for_search.ensures c.in-Ok.is

pub search_within-requires-then-n-gt-BRIEF-clause-fits : goal.search_within-requires-then-n-gt-BRIEF-clause-fits
search_within-requires-then-n-gt-BRIEF-clause-fits g c = search_fits _ _ _ _ _ _ _ _ _ c.for_search.ensures c.in-Ok.is

pub search_within-requires-in-Ok-clause-fits : goal.search_within-requires-in-Ok-clause-fits
search_within-requires-in-Ok-clause-fits g c = search_fits _ _ _ _ _ _ _ _ _ c.for_search.ensures c.in-Ok.is

pub returns-in-Err-clause-promise : goal.returns-in-Err-clause-promise
returns-in-Err-clause-promise g c = search_refused _ _ _ _ _ _ _ _ _ _ c.for_search.ensures c.in-Err.is c.result_of.ensures
