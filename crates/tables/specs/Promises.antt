-- What the public calls promise: the whole answer and each table's final content, accepted or refused.
use Rattle.std.specs.Prelude.{◌≡◌, List, ℕ, ℤ, length, Result}
use Rattle.order.specs.Neighbours.{low_table, high_table}
use Rattle.order.specs.Witnesses.{witness_i_table, witness_j_table}
use Rattle.order.specs.Refusals.{Verdict, accepted, verdict_number, verdict_place, pattern_verdict, stitches_verdict, tables_verdict, prepare_verdict, own_verdict}
use Rattle.order.specs.Written.{after_verdict}
use Rattle.order.specs.declared.refusal.Refusal.{Refusal}
use Rattle.order.specs.Answers.{answer_number, answer_place, answer_by}

-- the verdict on a pattern and its tables
abbrev pub sizes_verdict : List ℤ → List ℕ → List ℕ → List ℕ → List ℕ → Verdict
sizes_verdict P low high wi wj = prepare_verdict P (length low) (length high) (length wi) (length wj)

-- preparation of the pattern P with tables that hold low, high, wi and wj: the answer r, and what the tables hold after it
pub record PreparePromise (P : List ℤ) (low high wi wj : List ℕ) (r : Result (Unit {0}) Refusal) (low' high' wi' wj' : List ℕ) : Type 0 where
  -- the refusal number, 0 if accepted, and place
  pub number : answer_number r ≡ verdict_number (sizes_verdict P low high wi wj)
  pub place : answer_place r ≡ verdict_place (sizes_verdict P low high wi wj)
  pub answer : r ≡ answer_by (sizes_verdict P low high wi wj) tt
  -- each table: the rules' entries from 0 to m − 1, or as it was
  pub low_after : low' ≡ after_verdict (sizes_verdict P low high wi wj) (low_table P) low
  pub high_after : high' ≡ after_verdict (sizes_verdict P low high wi wj) (high_table P) high
  pub witness_i_after : wi' ≡ after_verdict (sizes_verdict P low high wi wj) (witness_i_table P) wi
  pub witness_j_after : wj' ≡ after_verdict (sizes_verdict P low high wi wj) (witness_j_table P) wj

-- where neighbours alone are made, of m samples, in tables of these lengths: 1 and 2, and 3 on the two
abbrev pub neighbours_alone : ℕ → ℕ → ℕ → Verdict
neighbours_alone m low high = pattern_verdict m (tables_verdict m low high m m accepted)

-- preparation of the neighbours of P alone, with tables that hold low and high: the answer r, and what the tables hold after it
pub record NeighboursMade (P : List ℤ) (low high : List ℕ) (r : Result (Unit {0}) Refusal) (low' high' : List ℕ) : Type 0 where
  pub number : answer_number r ≡ verdict_number (neighbours_alone (length P) (length low) (length high))
  pub place : answer_place r ≡ verdict_place (neighbours_alone (length P) (length low) (length high))
  pub answer : r ≡ answer_by (neighbours_alone (length P) (length low) (length high)) tt
  -- each table: the rules' entries from 0 to m − 1, or as it was
  pub low_after : low' ≡ after_verdict (neighbours_alone (length P) (length low) (length high)) (low_table P) low
  pub high_after : high' ≡ after_verdict (neighbours_alone (length P) (length low) (length high)) (high_table P) high

-- 1, 2, 21 and 3, and 14 to 17 on the entries
unfoldable pub own_tables_verdict : List ℤ → List ℕ → List ℕ → List ℕ → List ℕ → Verdict
own_tables_verdict P low high wi wj =
    pattern_verdict (length P)
    (stitches_verdict P (tables_verdict (length P) (length low) (length high) (length wi) (length wj) (own_verdict P low high wi wj)))

-- the check of the tables low, high, wi and wj against the pattern P: the answer r
pub record TablesPromise (P : List ℤ) (low high wi wj : List ℕ) (r : Result (Unit {0}) Refusal) : Type 0 where
  pub number : answer_number r ≡ verdict_number (own_tables_verdict P low high wi wj)
  pub place : answer_place r ≡ verdict_place (own_tables_verdict P low high wi wj)
  pub answer : r ≡ answer_by (own_tables_verdict P low high wi wj) tt
