-- What the call on two windows promises: the whole answer, accepted or refused.
use Rattle.std.specs.Prelude.{ℕ, ◌≡◌, List, length, Bool, Result}
use Rattle.order.specs.Agree.{agree_by_table}
use Rattle.order.specs.Refusals.{accepted, agree_verdict, verdict_number, verdict_place}
use Rattle.order.specs.declared.refusal.Refusal.{Refusal}
use Rattle.order.specs.Answers.{answer_number, answer_place, answer_by}
use Rattle.agreement.specs.Answers.{says_agree}

-- the call on windows x and y of a pattern of m samples, by witness tables that hold wi and wj as they stand
pub record AgreePromise (m : ℕ) (wi wj : List ℕ) (x y : ℕ) (r : Result Bool Refusal) : Type 0 where
  pub number : answer_number r ≡ verdict_number (agree_verdict m (length wi) (length wj))
  pub place : answer_place r ≡ verdict_place (agree_verdict m (length wi) (length wj))
  pub answer : r ≡ answer_by (agree_verdict m (length wi) (length wj)) (agree_by_table m wi x y)
  -- an accepted call says agree exactly if the entries do
  pub says : agree_verdict m (length wi) (length wj) ≡ accepted → says_agree r ≡ agree_by_table m wi x y
