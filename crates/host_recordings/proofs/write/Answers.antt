-- `write` meets its contract: a refusal stores nothing, and an answer the new length.
use Rattle.host_recordings.proofs.HandedOver.{write_refused, write_done}
use Rattle.host_recordings.proofs.write.Goals as goal

pub returns-in-Err : goal.returns-in-Err
returns-in-Err c = write_refused _ _ _ _ c.in-Err.is c.write.ensures c.result_of.ensures

pub returns-in-Ok : goal.returns-in-Ok
returns-in-Ok c = write_done _ _ _ _ c.in-Ok.is c.write.ensures
