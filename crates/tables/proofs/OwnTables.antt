-- Shows: what is written as the neighbour tables are the pattern's own neighbours.
-- Assumes nothing.
use mathlib.Core.Path.{◌≡◌, ◌∙◌, ap}
use mathlib.Core.List.{List}
use Prim.Native.Nat.{ℕ, ◌≤◌}
use lib.IntN.{ℤ}
use lib.ListN.{length, get_or}
use Rattle.order.specs.Sizes.{entry, pattern_limit}
use Rattle.order.specs.Neighbours.{low_of, high_of, low_table, high_table}
use Rattle.order.specs.Written.{over}
use Rattle.tables.specs.Inside.Asked.{OwnNeighbours}
use Rattle.order.proofs.Filling.{over_at}

pub own-neighbours : (P : List ℤ) (low high : List ℕ) {low' high' : List ℕ} → length P ≤ pattern_limit →
    length P ≤ length low' → length P ≤ length high' → low' ≡ over (low_table P) low → high' ≡ over (high_table P) high →
    OwnNeighbours P low' high'
unfolding low_table high_table
own-neighbours P low high limit l h e f =
    record {
      limit = limit;
      low_room = l;
      high_room = h;
      low_own = λ j k. ap (λ t. get_or t j 0) e ∙ over_at (λ i. entry (low_of P i)) j 0 low k;
      high_own = λ j k. ap (λ t. get_or t j 0) f ∙ over_at (λ i. entry (high_of P i)) j 0 high k;
    }
