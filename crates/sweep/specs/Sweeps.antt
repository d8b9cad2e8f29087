-- "Sweep", by the entries of two tables as they stand, of any list of windows.
use Rattle.std.specs.Prelude.{ℕ, ◌+◌, ◌*◌, ◌≤◌, min, ◌≡◌, List, [], leb, ltb, ℤ, length, get_or, Result, Ok}
use Rattle.order.specs.declared.steps.Tested.{Tested}
use Rattle.order.specs.declared.refusal.Refusal.TheVariants.{ShortPositions}
use Rattle.order.specs.Sizes.{window, passing}
use Rattle.order.specs.PlaceTest.{cost}
use Rattle.order.specs.EntryTest.{test_by}
use Rattle.order.specs.Sweeping.{Swept, swept, sweep_all_lem}
use Rattle.order.specs.declared.refusal.Refusal.{Refusal}
use Rattle.order.specs.Refusals.{Verdict, accepted, refuse, verdict_number, verdict_place}
use Rattle.order.specs.Answers.{answer_number, answer_place, answer_by}
use Rattle.order.specs.Written.{after_verdict}
use Rattle.sweep.specs.declared.answers.Swept.{Swept as Spent}

-- how many places a window has: as many as both tables have entries
abbrev pub places_of : List ℕ → List ℕ → ℕ
places_of low high = min (length low) (length high)

-- place j's test on window x of the trace
unfoldable pub entry_tests : List ℕ → List ℕ → List ℤ → ℕ → ℕ → Tested
entry_tests low high T x j = test_by (window T x (places_of low high)) (get_or low j 0) (get_or high j 0) j

-- the windows of m samples that lie in a trace of n
unfoldable pub inside_part : ℕ → ℕ → List ℕ → List ℕ
inside_part m n = passing (λ x. leb (x + m) n)

-- the rules' sweep of these, by these tests
unfoldable pub swept_of : List ℕ → List ℕ → List ℤ → List ℕ → Swept
swept_of low high T ws =
    sweep_all_lem cost (entry_tests low high T) (places_of low high) (inside_part (places_of low high) (length T) ws) (swept 0 0 [])

-- 6, if the list is too short for all windows
unfoldable pub list_verdict : List ℕ → List ℕ → Verdict
list_verdict ws before = refuse (ltb (length before) (length ws)) (ShortPositions (length ws)) accepted

-- what was spent and how many were listed
abbrev pub spent_of : Swept → Spent
spent_of s = record { spent = s.total; found = length s.listed }

-- a sweep of the windows ws of the trace T by the tables low and high, into a list that holds `before`: the answer r, and what the list
-- holds after it
pub record SweepPromise (low high : List ℕ) (T : List ℤ) (ws before : List ℕ) (r : Result Spent Refusal) (after : List ℕ) : Type 0 where
  pub number : answer_number r ≡ verdict_number (list_verdict ws before)
  pub place : answer_place r ≡ verdict_place (list_verdict ws before)
  pub answer : r ≡ answer_by (list_verdict ws before) (spent_of (swept_of low high T ws))
  -- the listed windows from entry 0 on, then what it held; as it was if refused
  pub positions_after : after ≡ after_verdict (list_verdict ws before) (swept_of low high T ws).listed before
  -- no more than two comparisons for each sample and each window
  pub bound : (s : Spent) → r ≡ Ok s → s.spent ≤ 2 * (length T + length ws)
