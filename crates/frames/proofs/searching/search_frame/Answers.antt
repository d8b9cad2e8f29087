-- `search_frame` meets its contract: the sizes' verdict, and then the places.
use mathlib.Core.Path.{sym, ◌∙◌}
use Rattle.frame_sizes.proofs.FrameRows.{ok_tries, sizes_fit, places-are, places_fit}
use Rattle.frames.proofs.FrameLaws.{fit_exactly, frame-done}
use Rattle.frames.proofs.searching.search_frame.Goals as goal

pub invariant_of-sought : goal.invariant_of-sought
invariant_of-sought c =
    let t = ok_tries _ _ _ _ _ (sym c.in_ok-tries.was ∙ c.for_frame.ensures.answer) in
    record { fit = fit_exactly (sizes_fit t.0); all_rows = t.1; all_columns = t.2 }

pub write_places-requires : goal.write_places-requires
write_places-requires c = let t = ok_tries _ _ _ _ _ (sym c.in_ok-tries.was ∙ c.for_frame.ensures.answer) in (places_fit (sizes_fit t.0) t.1 t.2).1

pub returns : goal.returns
returns c =
    let t = ok_tries _ _ _ _ _ (sym c.in_ok-tries.was ∙ c.for_frame.ensures.answer) in
    frame-done _ _ _ _ _ _ _ _ t.0 (c.write_places.ensures.0 ∙ places-are _ _ _ _ t.1 t.2) c.write_places.ensures.1
