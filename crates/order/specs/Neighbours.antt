-- "Neighbours": for each place of the pattern the earlier place with the nearest value from below, and from above.
use Rattle.std.specs.Prelude.{ℕ, zero, suc, List, Bool, cond, ℤ, length}
use Rattle.std.specs.Int.Signed.{le_z}
use Rattle.order.specs.Sizes.{Spot, none, place, at, each, entry}

-- of the nearest so far and a further place i on that side of j, the one whose value is nearer; the later one where they are equal
unfoldable pub nearer : (ℤ → ℤ → Bool) → List ℤ → ℕ → Spot → Spot
nearer le P i none = place i
nearer le P i (place k) = cond (le (at P k) (at P i)) (place i) (place k)

-- of the places below n whose value is on le's side of place j's, the one with the value nearest to it
unfoldable pub nearest : (ℤ → ℤ → Bool) → List ℤ → ℕ → ℕ → Spot
nearest le P j zero = none
nearest le P j (suc i) = cond (le (at P i) (at P j)) (nearer le P i (nearest le P j i)) (nearest le P j i)

-- of the places before j whose value is at most place j's, the one with the greatest
unfoldable pub low_of : List ℤ → ℕ → Spot
low_of P j = nearest le_z P j j

-- of those whose value is at least place j's, the one with the least
unfoldable pub high_of : List ℤ → ℕ → Spot
high_of P j = nearest (λ a b. le_z b a) P j j

-- the two neighbour tables
unfoldable pub low_table : List ℤ → List ℕ
low_table P = each (λ j. entry (low_of P j)) (length P)

unfoldable pub high_table : List ℤ → List ℕ
high_table P = each (λ j. entry (high_of P j)) (length P)
