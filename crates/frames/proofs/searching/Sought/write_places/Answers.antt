-- `write_places` meets its contract: the list, and what is filled up behind it.
use mathlib.Core.Path.{refl}
use native.Mathlib.Omega.{arith}
use Rattle.lists.proofs.FilledUp.{part_filled}
use Rattle.frames.proofs.FrameLaws.{places-written}
use Rattle.frames.proofs.searching.Sought.write_places.Goals as goal

pub returns : goal.returns
returns c =
    let f = c.args.self in
    let r = c.requires in
    let w = c.list_places-found in (
      refl,
      places-written _ _ _ _ _ _ _ _ r f.all_rows f.all_columns w.ensures (omega (arith, w.auto))
          (part_filled _ _ _ w.ensures.at_most (omega (arith, w.auto)) c.fill_unused.ensures),
    )
