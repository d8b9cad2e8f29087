-- Shows: the answer that a verdict comes to has the verdict's number and place, and tells which verdict it was.
-- Assumes nothing.
use mathlib.Core.Path.{◌≡◌, refl}
use Rattle.std.specs.Prelude.{Result, Ok, Err}
use Rattle.order.specs.declared.refusal.Refusal.{Refusal}
use Rattle.order.specs.Refusals.{Verdict, accepted, refused, verdict_number, verdict_place}
use Rattle.order.specs.Answers.{answer_number, answer_place, answer_by}

-- the answers of a call that tells nothing where it is accepted
abbrev pub done : Result (Unit {0}) Refusal
done = Ok tt

abbrev pub unmet : Refusal → Result (Unit {0}) Refusal
unmet why = Err why

module _ {A : Type 0} where
  pub numbered : (v : Verdict) (a : A) → answer_number (answer_by v a) ≡ verdict_number v
  numbered accepted a = refl
  numbered (refused r) a = refl

  pub placed : (v : Verdict) (a : A) → answer_place (answer_by v a) ≡ verdict_place v
  placed accepted a = refl
  placed (refused r) a = refl

  -- the verdict behind an answer, and what an accepted one tells
  pub ok_accepted : (v : Verdict) (a : A) {b : A} → Ok b ≡ answer_by v a → (v ≡ accepted) × (b ≡ a)
  ok_accepted accepted a e = (refl, cc)
  ok_accepted (refused r) a e = (cc, cc)

  pub err_refused : (v : Verdict) (a : A) {why : Refusal} → Err why ≡ answer_by v a → v ≡ refused why
  err_refused accepted a e = cc
  err_refused (refused r) a e = cc
