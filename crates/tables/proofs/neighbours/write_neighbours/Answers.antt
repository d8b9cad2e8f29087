-- The goals of `write_neighbours` that the check leaves.
use Rattle.std.proofs.Common.{refl, arith, ◌≡◌, length}
use Rattle.std.proofs.lemmas.List.{length-map}
use Rattle.order.specs.Neighbours.{low_table, high_table}
use Rattle.order.proofs.Filling.{filled_none, filled_more, filled_all}
use Rattle.tables.proofs.neighbours.write_neighbours.Goals as goal

pub loop-j-init : goal.loop-j-init
loop-j-init g c = (refl, filled_none _ _, filled_none _ _)

pub loop-j-preserved : goal.loop-j-preserved
loop-j-preserved g c =
    let l = c.loop-j in
    let own = c.own_entries.ensures in
    (refl, filled_more _ l.invariant.1 (omega arith) own.low_own, filled_more _ l.invariant.2 (omega arith) own.high_own)

pub returns : goal.returns
unfolding low_table high_table
returns g c =
    let l = c.loop-j in
    let end : l.j ≡ length c.args.pattern.now = omega arith in
    (rw length-map (filled_all _ (rw end at l.invariant.1)), rw length-map (filled_all _ (rw end at l.invariant.2)))
