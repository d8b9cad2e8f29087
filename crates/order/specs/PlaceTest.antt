-- "Test of a place": whether place j of a list v compares with its neighbours as place j of the pattern does, and what
-- finding that out costs.
use Rattle.std.specs.Prelude.{ℕ, ◌+◌, List, Bool, true, false, cond, eqb, ℤ}
use Rattle.order.specs.declared.steps.Tested.{Tested}
use Rattle.order.specs.declared.steps.Tested.TheVariants.{Passed, Failed}
use Rattle.order.specs.Sizes.{Spot, none, place, as_place, at}
use Rattle.order.specs.Relations.{rel, alike}
use Rattle.order.specs.Neighbours.{low_of, high_of}

-- v[j] against v[i] compares as P[j] against P[i]
unfoldable pub matches : List ℤ → List ℤ → ℕ → ℕ → Bool
matches P v j i = alike (rel (at v j) (at v i)) (rel (at P j) (at P i))

unfoldable pub is_same_spot : Spot → Spot → Bool
is_same_spot none none = true
is_same_spot none (place j) = false
is_same_spot (place i) none = false
is_same_spot (place i) (place j) = eqb i j

-- one neighbour's comparison, after c were spent; where there is no such neighbour there is nothing to compare, and the test goes on
unfoldable pub against : List ℤ → List ℤ → ℕ → ℕ → Spot → Tested
against P v j c none = Passed c
against P v j c (place i) = cond (matches P v j i) (Passed (c + 1)) (Failed (c + 1) (as_place i))

-- the high neighbour's comparison, where the low one's passed and the two differ
unfoldable pub then_high : List ℤ → List ℤ → ℕ → Spot → Spot → Tested → Tested
then_high P v j low high (Failed c i) = Failed c i
then_high P v j low high (Passed c) = cond (is_same_spot low high) (Passed c) (against P v j c high)

-- the test of place j on v: low first, then high
unfoldable pub test_of : List ℤ → List ℤ → ℕ → Tested
test_of P v j = then_high P v j (low_of P j) (high_of P j) (against P v j 0 (low_of P j))

-- what a test's outcome tells: did it pass, what did it cost, where did it fail
unfoldable pub passes : Tested → Bool
passes (Passed c) = true
passes (Failed c i) = false

unfoldable pub cost : Tested → ℕ
cost (Passed c) = c
cost (Failed c i) = c

unfoldable pub failed_at : Tested → Spot
failed_at (Passed c) = none
failed_at (Failed c i) = place i.0
