-- `write_neighbours` meets its contract. The loop's invariant: the places passed are written in both tables, and the rest is
-- as it was.
use Rattle.std.proofs.Common.{◌≡◌, length, map, List, ℤ}
use Rattle.order.specs.Sizes.{entry}
use Rattle.order.specs.Neighbours.{low_of, high_of}
use Rattle.order.proofs.Filling.{Filled}
use Rattle.tables.proofs.neighbours.write_neighbours.Given as goal

abbrev pub invariant-loop-j : goal.invariant-loop-j
invariant-loop-j g l =
    let P : List ℤ = map g.T.Sample.value l.pattern in
    (l.j-end ≡ length l.pattern) × Filled (λ k. entry (low_of P k)) l.j l.initial.low l.low × Filled (λ k. entry (high_of P k)) l.j l.initial.high l.high
