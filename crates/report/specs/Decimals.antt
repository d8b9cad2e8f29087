-- "The program": numbers in decimal, as ASCII digits.
use Rattle.std.specs.Prelude.{ℕ, zero, suc, ◌+◌, ◌-◌, ◌*◌, ◌/◌, ◌%◌, List, [], ◌∷◌, ◌++◌, cond, ltb}

abbrev pub digit : ℕ → ℕ
digit d = 48 + d

-- at most n digits of v, the lowest last and no zero in front
unfoldable pub digits : ℕ → ℕ → List ℕ
digits zero v = []
digits (suc n) v = cond (ltb v 10) (digit v ∷ []) (digits n (v / 10) ++ (digit (v % 10) ∷ []))

-- all of them: v has at most v + 1
unfoldable pub decimal : ℕ → List ℕ
decimal v = digits (suc v) v

-- the number that digits tell
unfoldable pub value_of : ℕ → List ℕ → ℕ
value_of v [] = v
value_of v (d ∷ ds) = value_of (10 * v + (d - 48)) ds
