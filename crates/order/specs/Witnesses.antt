-- "Witness at an offset": the first place at which the pattern, laid over itself a places on, fails its own tests.
use Rattle.std.specs.Prelude.{ℕ, ◌-◌, List, not, ℤ, length, drop}
use Rattle.order.specs.Sizes.{Spot, none, place, each, entry, lowest}
use Rattle.order.specs.PlaceTest.{test_of, passes, failed_at}

-- the first place below n whose test fails on v
unfoldable pub first_fail : List ℤ → List ℤ → ℕ → Spot
first_fail P v n = lowest (λ j. not (passes (test_of P v j))) n

-- the neighbour that failed at a place
unfoldable pub neighbour_at : List ℤ → List ℤ → Spot → Spot
neighbour_at P v none = none
neighbour_at P v (place j) = failed_at (test_of P v j)

-- the witness (i, j) at offset a: the place that fails first is j, and i is its neighbour there; where all pass, both are none
unfoldable pub witness_j_of : List ℤ → ℕ → Spot
witness_j_of P a = first_fail P (drop a P) (length P - a)

unfoldable pub witness_i_of : List ℤ → ℕ → Spot
witness_i_of P a = neighbour_at P (drop a P) (witness_j_of P a)

-- the two witness tables
unfoldable pub witness_i_table : List ℤ → List ℕ
witness_i_table P = each (λ a. entry (witness_i_of P a)) (length P)

unfoldable pub witness_j_table : List ℤ → List ℕ
witness_j_table P = each (λ a. entry (witness_j_of P a)) (length P)
