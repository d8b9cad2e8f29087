-- `search_by_neighbours` meets its contract: the places' offsets, laid row by row, lie inside the frame.
use mathlib.Core.Path.{refl, ◌∙◌, ap}
use native.Mathlib.Omega.{arith}
use Rattle.frames.specs.Inside.{offsets_of}
use Rattle.frames.proofs.OffsetLaws.{last_fits, offsets_inside, offsets_laid, room_long}
use Rattle.frames.proofs.reach.Reach.search_by_neighbours.Goals as goal

pub lay_offsets-requires : goal.lay_offsets-requires
lay_offsets-requires c = let i = c.args.self.inside in rw (room_long _ _ i.few refl) (last_fits i (omega arith))

pub search_by_offsets-requires : goal.search_by_offsets-requires
search_by_offsets-requires c =
    let i = c.args.self.inside in
    let p = c.requires in
    (offsets_laid _ _ _ _ _ _ (c.lay_offsets.ensures ∙ ap (offsets_of _ _) (room_long _ _ i.few refl)) (offsets_inside i (omega arith) p.0 p.1), p.2)
