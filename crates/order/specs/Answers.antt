-- "Refusals": what a call answers. A call that may be refused answers a `Result`: `Ok` with what it tells, or `Err` with why it is refused.
-- Here are the number and the place that docs/RULES.md gives each answer, and which answer a verdict comes to.
use Rattle.std.specs.Prelude.{ℕ, Result, Ok, Err}
use Rattle.order.specs.declared.refusal.Refusal.{Refusal}
use Rattle.order.specs.Refusals.{Verdict, accepted, refused, number_of, place_of}

-- 0 for an accepted call, whatever it tells
abbrev pub answer_number : {A : Type 0} → Result A Refusal → ℕ
answer_number (Ok a) = 0
answer_number (Err r) = number_of r

abbrev pub answer_place : {A : Type 0} → Result A Refusal → ℕ
answer_place (Ok a) = 0
answer_place (Err r) = place_of r

-- the value of an accepted call, or the refusal
abbrev pub answer_by : {A : Type 0} → Verdict → A → Result A Refusal
answer_by accepted a = Ok a
answer_by (refused r) a = Err r
