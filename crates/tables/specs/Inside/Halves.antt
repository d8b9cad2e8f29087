-- The row of the four tables in two halves, each of two tables in turn.
use Rattle.std.specs.Prelude.{ℕ, List, ℤ, length, Bool, not, ◌==◌, Option, Some, None}
use Rattle.order.specs.declared.refusal.Table.{Table}
use Rattle.order.specs.declared.refusal.Table.TheVariants.{Low, High, WitnessI, WitnessJ}
use Rattle.order.specs.declared.refusal.Refusal.TheVariants.{ForeignEntry}
use Rattle.order.specs.Sizes.{Spot, none, place, lowest}
use Rattle.order.specs.Neighbours.{low_of, high_of}
use Rattle.order.specs.Witnesses.{witness_i_of, witness_j_of}
use Rattle.order.specs.Refusals.{Verdict, refuse_at, foreign_at}

-- two entries that differ
abbrev pub differing : (ℕ × ℕ) → Bool
differing p = not (p.0 == p.1)

-- the place that an answer tells, if any
abbrev pub spot_of : Option ℕ → Spot
spot_of None = none
spot_of (Some k) = place k

-- one table and then another, each with the entry at which it is foreign
abbrev pub in_turn : Table → Spot → Table → Spot → Verdict → Verdict
in_turn t a u b next = refuse_at a (ForeignEntry t) (refuse_at b (ForeignEntry u) next)

-- 14 and 15
unfoldable pub neighbours_half : List ℤ → List ℕ → List ℕ → Verdict → Verdict
neighbours_half P low high next = in_turn Low (lowest (foreign_at low (low_of P)) (length P)) High (lowest (foreign_at high (high_of P)) (length P)) next

-- 16 and 17
unfoldable pub witnesses_half : List ℤ → List ℕ → List ℕ → Verdict → Verdict
witnesses_half P wi wj next = in_turn WitnessI (lowest (foreign_at wi (witness_i_of P)) (length P)) WitnessJ (lowest (foreign_at wj (witness_j_of P)) (length P)) next
