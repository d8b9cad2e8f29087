-- The goals of `search_row` that the check leaves.
use Prim.Native.Nat.{◌+◌, ◌-◌}
use mathlib.Core.Path.{refl, ◌∙◌}
use native.Mathlib.Omega.{arith}
use lib.ListN.{length}
use borrow.Rule.Slice.PartMut.{put_mid, same_len_mid}
use Rattle.frames.specs.Inside.{all_places_pass, Listed}
use Rattle.frames.proofs.ListingLaws.{listed_none, listed_all, listed_behind, block_then}
use Rattle.frames.proofs.rows.Strip.search_row.Goals as goal
use Rattle.frames.proofs.rows.Strip.search_row.Goals.{After-search_block-n}

pub loop-c-init : goal.loop-c-init
loop-c-init c = (omega arith, refl, listed_none _ _ _ _)

-- the block's columns behind those before it
block : (c : After-search_block-n) → let n = c.loop-c.c + c.min-wide.result in
    Listed (λ i. all_places_pass c.args.self.frame.now c.args.self.steps.now (c.args.self.at + i)) c.args.self.base n 0 c.args.free.now (c.loop-c.n + c.search_block-n.result)
    (put_mid c.loop-c.n (length c.loop-c.free - c.loop-c.n) c.loop-c.free c.search_block-n.new.free)
block c =
    let w = c.min-wide.ensures in
    let h = c.loop-c-test.true in
    let l = c.loop-c.invariant in
    let e = l.1 in
    let m = l.2.at_most in
    let r = c.requires in
    block_then c.args.self.frame.now c.args.self.steps.now c.args.self.at l.2 (listed_behind (omega arith) c.search_block-n.ensures)

pub loop-c-preserved : goal.loop-c-preserved
loop-c-preserved c =
    let w = c.min-wide.ensures in
    let h = c.loop-c-test.true in
    let l = c.loop-c.invariant in
    (omega arith, same_len_mid _ _ _ _ c.search_block-n.auto.free ∙ l.1, block (goal.at.loop-c-preserved c).After-search_block-n)

pub returns : goal.returns
returns c = let l = c.loop-c.invariant in listed_all l.2 (let e = l.0 in let h = c.loop-c-test.false in omega arith)
