-- `none_within` meets its contract. The loop's invariant: if the flag still stands, the samples passed lie outside.
use Rattle.std.proofs.Common.{◌≡◌, true, ◌+◌, ◌≤◌, ◌<◌, map, ℕ}
use Rattle.order.specs.Sizes.{at}
use Rattle.tables.specs.Inside.Claims.{Outside}
use Rattle.tables.proofs.neighbours.none_within.Given as goal

abbrev pub invariant-loop-x : goal.invariant-loop-x
invariant-loop-x g l =
    let value = g.T.Sample.value in
    (l.clear ≡ true → (k : ℕ) → k < l.start + l.x-index → l.from ≤ k → Outside (value l.lo) (value l.hi) (at (map value l.pattern) k))
