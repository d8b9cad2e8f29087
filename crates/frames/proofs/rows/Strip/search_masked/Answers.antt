-- `search_masked` meets its contract: nowhere, everywhere, or where the mask tells.
use mathlib.Core.Path.{sym}
use native.Mathlib.Omega.{arith}
use Rattle.frames.proofs.OffsetLaws.{within_same}
use Rattle.frames.proofs.MaskLaws.{looked_at_nothing}
use Rattle.frames.proofs.ListingLaws.{listed_all, listed_each, listed_same, listed-nowhere}
use Rattle.frames.proofs.rows.Strip.search_masked.Goals as goal

pub test_block-standing-requires : goal.test_block-standing-requires
test_block-standing-requires c = let p = c.requires in (within_same p.1 c.args.self.within, looked_at_nothing _ _ p.0 (sym p.1))

pub returns-then-standing-eq0 : goal.returns-then-standing-eq0
returns-then-standing-eq0 c = let p = c.requires in listed-nowhere _ _ _ _ (λ i h. c.test_block-standing.ensures.nowhere_passes c.if-standing-eq0.true i (omega (arith, c.test_block-standing.auto, p.1)))

pub returns-then-standing-all : goal.returns-then-standing-all
returns-then-standing-all c =
    let p = c.requires in
    listed_same (listed_each p.2 c.list_all.ensures)
    (λ i h. sym (c.test_block-standing.ensures.all_pass (omega (arith, c.if-standing-all.true, c.test_block-standing.auto, p.1)) i (omega (arith, c.test_block-standing.auto, p.1))))

pub returns : goal.returns
returns c = listed_all (listed_same c.list_standing.ensures (λ i h. c.test_block-standing.ensures.told c.if-standing-eq0.false i h)) (omega (arith, c.test_block-standing.auto, c.requires.1))
