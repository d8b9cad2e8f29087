-- `search_block` meets its contract: a mask of as many columns as the block has.
use mathlib.Core.Path.{refl}
use Rattle.frames.proofs.MaskLaws.{stand_front}
use Rattle.frames.proofs.ListingLaws.{block-part}
use Rattle.frames.proofs.rows.Strip.search_block.Goals as goal

pub search_masked-requires : goal.search_masked-requires
search_masked-requires c = let p = c.requires in (stand_front _ 128 p.0 p.0, block-part _ _ p.0 refl, p.1)
