-- "The C entry points": the one number that tells a verdict, a number that the host lends, and the counts as a list.
use Rattle.std.specs.Prelude.{ℕ, ◌+◌, ◌*◌, min, List, [], ◌∷◌}
use Rattle.order.specs.declared.refusal.Refusal.{Refusal}
use Rattle.order.specs.declared.steps.Counts.{Counts}
use Rattle.order.specs.Refusals.{Verdict, accepted, refused, number_of, place_of}

-- the refusal's number above 32 bits, and in those its place, or the largest number there is for it
unfoldable pub refusal_result : Refusal → ℕ
refusal_result r = number_of r * 4294967296 + min (place_of r) 4294967295

-- 0 if accepted
abbrev pub result_of : Verdict → ℕ
result_of accepted = 0
result_of (refused r) = refusal_result r

-- what a lent number is after a call: a refused one leaves it as it was
abbrev pub number_after : Verdict → ℕ → ℕ → ℕ
number_after accepted n before = n
number_after (refused r) n before = before

-- N, D, S, W, R and the number struck
abbrev pub counts_list : Counts → List ℕ
counts_list c = c.windows ∷ c.duels ∷ c.survivors ∷ c.sweep ∷ c.found ∷ c.struck ∷ []
