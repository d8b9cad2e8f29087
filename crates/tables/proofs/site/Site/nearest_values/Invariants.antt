-- `nearest_values` meets its contract. The loop's invariant: the two values are the nearest of the samples passed, and none of these lies
-- beyond the limits.
use Rattle.std.proofs.Common.{◌≡◌, ◌<◌, map, ℕ, List, ℤ}
use Rattle.std.specs.Int.Signed.{le_z}
use Rattle.order.specs.Sizes.{at}
use Rattle.tables.specs.Inside.NearValues.{Within, nearest_value}
use Rattle.tables.proofs.site.Site.nearest_values.Given as goal

abbrev pub invariant-loop-y : goal.invariant-loop-y
invariant-loop-y g l =
    let s = g.T.Sample in
    let P : List ℤ = map s.value l.self.pattern.now in
    record {
      low_value : s.value l.below ≡ nearest_value le_z (s.value s.LEAST) P (at P l.self.j) l.y-index;
      high_value : s.value l.above ≡ nearest_value (λ a b. le_z b a) (s.value s.GREATEST) P (at P l.self.j) l.y-index;
      within : (k : ℕ) → k < l.y-index → Within (s.value s.LEAST) (s.value s.GREATEST) (at P k);
    }
