-- `search_by_offsets` meets its contract: the neighbours' offsets, laid by the tables, are those that the search asks for.
use Rattle.frames.proofs.OffsetLaws.{grid_laid, rows_laid}
use Rattle.frames.proofs.reach.Reach.search_by_offsets.Goals as goal

pub search_rows-requires : goal.search_rows-requires
search_rows-requires c = (grid_laid _ _ _ _ c.lay_near.ensures c.requires.0, c.requires.1)

pub returns : goal.returns
returns c = rows_laid _ _ _ _ c.lay_near.ensures _ c.search_rows.ensures
