-- `front` meets its contract: the table has so many entries.
use Rattle.host_calls.proofs.SearchingLaws.{front_read}
use Rattle.host_calls.proofs.reading.front.Goals as goal

pub returns : goal.returns
returns c =
    front_read c.args.table.now c.args.entries.now _ _ c.requires.0 c.requires.1 c.take_entries.ensures
