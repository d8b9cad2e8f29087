-- `search` meets its contract: a refusal stores nothing.
use Rattle.host_frames.proofs.HandedOn.{frame_refused}
use Rattle.host_frames.proofs.search.Goals as goal

pub returns-in-Err : goal.returns-in-Err
returns-in-Err c = frame_refused _ _ _ _ _ _ _ _ _ _ c.in-Err.is c.search_frame.ensures c.result_of.ensures
