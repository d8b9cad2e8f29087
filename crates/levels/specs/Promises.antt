-- What the public call promises, over any samples: the whole answer and each table's final content, accepted or refused.
use Rattle.std.specs.Prelude.{ℕ, ◌≡◌, List, ℤ, length, Result}
use Rattle.order.specs.Neighbours.{low_table, high_table}
use Rattle.order.specs.Refusals.{Verdict, verdict_number, verdict_place, prepare_verdict}
use Rattle.order.specs.Written.{after_verdict}
use Rattle.order.specs.declared.refusal.Refusal.{Refusal}
use Rattle.order.specs.Answers.{answer_number, answer_place, answer_by}

-- preparation's verdict where only neighbours are made: of tables that are not asked for none is too short
abbrev pub neighbours_verdict : List ℤ → List ℕ → List ℕ → Verdict
neighbours_verdict P low high = prepare_verdict P (length low) (length high) (length P) (length P)

-- preparation of the neighbours of P alone, with tables that hold low and high: the answer r, and what the tables hold after it
pub record NeighboursPromise (P : List ℤ) (low high : List ℕ) (r : Result (Unit {0}) Refusal) (low' high' : List ℕ) : Type 0 where
  -- the refusal number, 0 if accepted, and place
  pub number : answer_number r ≡ verdict_number (neighbours_verdict P low high)
  pub place : answer_place r ≡ verdict_place (neighbours_verdict P low high)
  pub answer : r ≡ answer_by (neighbours_verdict P low high) tt
  -- each table: the rules' entries from 0 to m − 1, or as it was
  pub low_after : low' ≡ after_verdict (neighbours_verdict P low high) (low_table P) low
  pub high_after : high' ≡ after_verdict (neighbours_verdict P low high) (high_table P) high
