-- The goals of `search_rows` that the check leaves.
use mathlib.Core.Path.{refl, ◌∙◌}
use native.Mathlib.Omega.{arith}
use borrow.Rule.Slice.PartMut.{same_len_mid}
use Rattle.frames.proofs.ListingLaws.{rows_none, rows_more, row_room, listed_behind}
use Rattle.frames.proofs.reach.Reach.search_rows.Goals as goal

pub loop-row-init : goal.loop-row-init
loop-row-init c = (omega arith, refl, rows_none _ _ _ _)

pub loop-row-preserved : goal.loop-row-preserved
loop-row-preserved c =
    let h = c.loop-row-test.true in
    let l = c.loop-row.invariant in
    let m = l.2.at_most in
    let e = l.1 in
    let r = c.requires.1 in
    let g = row_room c.loop-row.row c.args.self.rows c.args.self.columns h in
    (omega arith, same_len_mid _ _ _ _ c.search_row-found.auto.free ∙ e, rows_more l.2 (listed_behind (omega arith) c.search_row-found.ensures))
