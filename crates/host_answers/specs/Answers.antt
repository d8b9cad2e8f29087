-- What is handed to the host of a search's answer: the number that tells it, its two lists and its counts.
use Rattle.std.specs.Prelude.{ℕ, ◌≡◌, List, Result, Ok, Err}
use Rattle.order.specs.declared.refusal.Refusal.{Refusal}
use Rattle.order.specs.declared.steps.Counts.{Counts}
use Rattle.words.specs.Handed.{words_put}
use Rattle.host_answers.specs.Results.{refusal_result, counts_list}

-- the number that tells an answer: 0 if the search was done
abbrev pub answer_result : Result Counts Refusal → ℕ
answer_result (Ok c) = 0
answer_result (Err why) = refusal_result why

-- a list is put, unless the search was refused
abbrev pub after_answer : Result Counts Refusal → List ℕ → List ℕ → List ℕ
after_answer (Ok c) l before = words_put l before
after_answer (Err why) l before = before

abbrev pub counts_after_lem : Result Counts Refusal → List ℕ → List ℕ
counts_after_lem (Ok c) before = words_put (counts_list c) before
counts_after_lem (Err why) before = before

-- the number that tells an answer, and its lists kept and listed and its counts in the host's buffers
pub record AnswerPut (answer : Result Counts Refusal) (kept listed survivors positions counts : List ℕ) (r : ℕ) (survivors' positions' counts' : List ℕ) : Type 0 where
  pub result : r ≡ answer_result answer
  pub kept_put : survivors' ≡ after_answer answer kept survivors
  pub listed_put : positions' ≡ after_answer answer listed positions
  pub counts_put : counts' ≡ counts_after_lem answer counts
