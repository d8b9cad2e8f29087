-- What the look at a pattern and a search's lengths promises: refusals 1, 2, 21 and 3 to 6, and the number of windows. And what lengths that
-- are accepted tell.
use Rattle.std.specs.Prelude.{ℕ, ◌≤◌, ◌<◌, ◌≡◌, List, ℤ, length, Result}
use Rattle.order.specs.Sizes.{pattern_limit, windows_of}
use Rattle.order.specs.Refusals.{Verdict, accepted, pattern_verdict, stitches_verdict, tables_verdict, room_verdict, verdict_number, verdict_place}
use Rattle.order.specs.declared.refusal.Refusal.{Refusal}
use Rattle.order.specs.Answers.{answer_number, answer_place, answer_by}

-- refusals 1, 2, 21 and 3 to 6, in this order
unfoldable pub fitting_verdict : List ℤ → ℕ → ℕ → ℕ → ℕ → ℕ → ℕ → ℕ → Verdict
fitting_verdict P low high wi wj n survivors positions =
    pattern_verdict (length P)
    (stitches_verdict P (tables_verdict (length P) low high wi wj (room_verdict (length P) n survivors positions accepted)))

pub record FittingPromise (P : List ℤ) (low high wi wj n survivors positions : ℕ) (r : Result ℕ Refusal) : Type 0 where
  pub number : answer_number r ≡ verdict_number (fitting_verdict P low high wi wj n survivors positions)
  pub place : answer_place r ≡ verdict_place (fitting_verdict P low high wi wj n survivors positions)
  -- the number of windows, or the refusal
  pub answer : r ≡ answer_by (fitting_verdict P low high wi wj n survivors positions) (windows_of (length P) n)

-- a pattern of m samples, some and within the limit, and room for its tables
pub record Room (m low high wi wj : ℕ) : Type 0 where
  pub some : 0 < m
  pub limit : m ≤ pattern_limit
  pub low_room : m ≤ low
  pub high_room : m ≤ high
  pub witness_i_room : m ≤ wi
  pub witness_j_room : m ≤ wj
