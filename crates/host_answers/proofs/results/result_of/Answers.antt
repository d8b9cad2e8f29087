-- `result_of` meets its contract.
use Rattle.host_answers.proofs.Numbers.{result_made}
use Rattle.host_answers.proofs.results.result_of.Goals as goal

pub returns : goal.returns
returns c = result_made _ c.number-number.ensures c.place.ensures c.min-place.ensures
