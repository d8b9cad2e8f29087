-- `for_frame` meets its contract: the conditions one after the other.
use mathlib.Core.Path.{refl, sym, ◌∙◌}
use native.Mathlib.Omega.{arith}
use Rattle.frame_sizes.proofs.FrameRows.{promised, zero_size, large_size, narrow_pitch, short-frame, short-places, all_fit, places-are}
use Rattle.frame_sizes.proofs.for_frame.Goals as goal

pub returns-then-is_zero : goal.returns-then-is_zero
returns-then-is_zero c = promised _ _ _ _ _ _ _ _ (zero_size _ _ _ _ _ _ _ _ (sym c.is_zero.ensures ∙ c.if-is_zero.true)) refl

pub returns-then-is_large : goal.returns-then-is_large
returns-then-is_large c = promised _ _ _ _ _ _ _ _ (large_size _ _ _ _ _ _ _ _ (sym c.is_zero.ensures ∙ c.if-is_zero.false) (sym c.is_large.ensures ∙ c.if-is_large.true)) refl

pub returns-then-pitch-width : goal.returns-then-pitch-width
returns-then-pitch-width c = promised _ _ _ _ _ _ _ _ (narrow_pitch _ _ _ _ _ _ _ _ (sym c.is_zero.ensures ∙ c.if-is_zero.false) (sym c.is_large.ensures ∙ c.if-is_large.false) c.if-pitch-width.true) refl

pub returns-then-is_short_frame-patch : goal.returns-then-is_short_frame-patch
returns-then-is_short_frame-patch c = promised _ _ _ _ _ _ _ _ (short-frame _ _ _ _ _ _ _ _ (sym c.is_zero.ensures ∙ c.if-is_zero.false) (sym c.is_large.ensures ∙ c.if-is_large.false) c.if-pitch-width.false (rw c.is_short_frame.ensures at c.if-is_short_frame-patch.true)) refl

pub returns-then-positions-rows : goal.returns-then-positions-rows
returns-then-positions-rows c =
    let p = places-are _ _ _ _ c.tried-rows.ensures c.tried-columns.ensures in
    let few = c.if-positions-rows.true in
    promised _ _ _ _ _ _ _ _ (short-places _ _ _ _ _ _ _ _ (sym c.is_zero.ensures ∙ c.if-is_zero.false) (sym c.is_large.ensures ∙ c.if-is_large.false) c.if-pitch-width.false (rw c.is_short_frame.ensures at c.if-is_short_frame-patch.false) (omega arith)) refl

pub returns : goal.returns
returns c =
    let rows = c.tried-rows.ensures in
    let columns = c.tried-columns.ensures in
    let p = places-are _ _ _ _ rows columns in
    let enough = c.if-positions-rows.false in
    promised _ _ _ _ _ _ _ _ (all_fit _ _ _ _ _ _ _ _ (sym c.is_zero.ensures ∙ c.if-is_zero.false) (sym c.is_large.ensures ∙ c.if-is_large.false) c.if-pitch-width.false (rw c.is_short_frame.ensures at c.if-is_short_frame-patch.false) (omega arith)) (rw (rows, columns) refl)
