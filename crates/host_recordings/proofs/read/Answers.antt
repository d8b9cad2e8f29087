-- `read` meets its contract: a refusal stores nothing.
use Rattle.host_recordings.proofs.HandedOver.{read_refused}
use Rattle.host_recordings.proofs.read.Goals as goal

pub returns-in-Err : goal.returns-in-Err
returns-in-Err c = read_refused _ _ _ _ c.in-Err.is c.read.ensures c.result_of.ensures
