-- What a search promises. A reader finds the three demands here: the answer and both buffers are fixed for every input, refused
-- ones too (demand 1), and an accepted search meets `Demands` (2 and 3), said of the numbers and entries that it hands back.
use Rattle.std.specs.Prelude.{ℕ, ◌≡◌, List, ℤ, length, take, Result, Ok}
use Rattle.order.specs.declared.steps.Counts.{Counts}
use Rattle.order.specs.Sizes.{windows_of}
use Rattle.order.specs.Duels.{survivors}
use Rattle.order.specs.Sweeping.{positions}
use Rattle.order.specs.Written.{counts_of, filled}
use Rattle.order.specs.Demands.{Demands}
use Rattle.order.specs.declared.refusal.Refusal.{Refusal}
use Rattle.order.specs.Refusals.{verdict_number, verdict_place, search_verdict}
use Rattle.order.specs.Answers.{answer_number, answer_place, answer_by}
use Rattle.order.specs.Written.{after_verdict}

-- a search of the pattern P with the tables low, high, wi and wj in the trace T, with buffers that hold kept and listed: the
-- answer r, and what the buffers hold after it
pub record SearchPromise (P : List ℤ) (low high wi wj : List ℕ) (T : List ℤ) (kept listed : List ℕ) (r : Result Counts Refusal) (kept' listed' : List ℕ) : Type 0 where
  -- the refusal number, 0 if accepted, and the place
  pub number : answer_number r ≡ verdict_number (search_verdict P low high wi wj T (length kept) (length listed))
  pub place : answer_place r ≡ verdict_place (search_verdict P low high wi wj T (length kept) (length listed))
  -- the answer: N, D, S, W, R and the number struck, or the refusal
  pub answer : r ≡ answer_by (search_verdict P low high wi wj T (length kept) (length listed)) (counts_of P T)
  -- each buffer: the list, then "unused" up to entry N − 1, then what it held; as it was if refused
  pub survivors_after : kept' ≡ after_verdict (search_verdict P low high wi wj T (length kept) (length listed)) (filled (survivors P T) (windows_of (length P) (length T))) kept
  pub positions_after : listed' ≡ after_verdict (search_verdict P low high wi wj T (length kept) (length listed)) (filled (positions P T) (windows_of (length P) (length T))) listed
  -- demands 2 and 3, of what is handed back
  pub demands : (c : Counts) → r ≡ Ok c → Demands P T (take c.survivors kept') (take c.found listed') c
