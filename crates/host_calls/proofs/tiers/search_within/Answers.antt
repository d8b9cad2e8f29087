-- `search_within` meets its contract: the trace's samples are converted and searched, and the answer is handed to the host.
use native.Mathlib.Nat.{sub-zero}
use Rattle.host_calls.proofs.SearchingLaws.{search_put}
use Rattle.host_calls.proofs.tiers.search_within.Goals as goal

pub returns-clause-promise : goal.returns-clause-promise
returns-clause-promise g c =
    search_put _ _ _ _ _ _ _ _ _ c.requires.fits c.requires.trace_len_bound c.search-answer.ensures (rw sub-zero c.all_samples.ensures) c.put_answer.ensures
