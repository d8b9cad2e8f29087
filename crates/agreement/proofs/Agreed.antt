-- Shows: the parts of the promise of the call on two windows follow from its answer; and no second answer satisfies it.
-- Assumes nothing.
use mathlib.Core.Path.{◌≡◌, refl, sym, ◌∙◌, ap}
use mathlib.Core.List.{List}
use Rattle.std.specs.Prelude.{Result, Ok}
use mathlib.Core.Bool.{Bool, true, false, ◌||◌}
use Prim.Native.Nat.{ℕ}
use native.Mathlib.Omega.{arith}
use lib.Dec.{leb, eqb}
use lib.ListN.{length, get_or}
use borrow.Author.Tests.{eqb-true, eqb-false, eq-eqb, ne_eqb}
use Rattle.order.specs.Sizes.{no_place}
use Rattle.order.specs.Agree.{distance, agree_by_table}
use Rattle.order.specs.Refusals.{agree_verdict}
use Rattle.order.specs.declared.refusal.Refusal.{Refusal}
use Rattle.order.specs.Answers.{answer_number, answer_place, answer_by}
use Rattle.order.proofs.Answered.{done, numbered, placed, ok_accepted}
use Rattle.agreement.specs.Answers.{says_agree}
use Rattle.agreement.specs.Promises.{AgreePromise}

agree_promised : (m : ℕ) (wi wj : List ℕ) (x y : ℕ) (r : Result Bool Refusal) →
    r ≡ answer_by (agree_verdict m (length wi) (length wj)) (agree_by_table m wi x y) → AgreePromise m wi wj x y r
agree_promised m wi wj x y r e =
    record {
      number = ap answer_number e ∙ numbered (agree_verdict m (length wi) (length wj)) (agree_by_table m wi x y);
      place = ap answer_place e ∙ placed (agree_verdict m (length wi) (length wj)) (agree_by_table m wi x y);
      answer = e;
      says = λ a. ap says_agree (e ∙ ap (λ w. answer_by w (agree_by_table m wi x y)) a);
    }

-- windows start together exactly if they are no distance apart
together : (x y : ℕ) → eqb (distance x y) 0 ≡ eqb x y
together x y = go (eqb x y) refl
  where
    go : (t : Bool) → eqb x y ≡ t → eqb (distance x y) 0 ≡ t
    go true e = let h : x ≡ y = eqb-true x y e in eq-eqb (distance x y) 0 (omega arith)
    go false e = ne_eqb (distance x y) 0 (λ d. eqb-false x y e (omega arith))

-- the answer by the offset is the answer by the two starts
at_distance : (m a : ℕ) (wi : List ℕ) (x y : ℕ) → a ≡ distance x y →
    eqb a 0 || (leb m a || eqb (get_or wi a 0) no_place) ≡ agree_by_table m wi x y
unfolding agree_by_table
at_distance m a wi x y e = rw (e, together x y) refl

pub agree_compared : (m a : ℕ) (wi wj : List ℕ) (x y : ℕ) {b : Bool} →
    done ≡ answer_by (agree_verdict m (length wi) (length wj)) tt → a ≡ distance x y →
    b ≡ (eqb a 0 || (leb m a || eqb (get_or wi a 0) no_place)) → AgreePromise m wi wj x y (Ok b)
agree_compared m a wi wj x y {b} e d h =
    agree_promised m wi wj x y (Ok b)
    (ap Ok (h ∙ at_distance m a wi x y d) ∙
    ap (λ w. answer_by w (agree_by_table m wi x y)) (sym (ok_accepted (agree_verdict m (length wi) (length wj)) tt e).0))

pub agree_only_answer : (m : ℕ) (wi wj : List ℕ) (x y : ℕ) (r s : Result Bool Refusal) →
    AgreePromise m wi wj x y r → AgreePromise m wi wj x y s → r ≡ s
agree_only_answer m wi wj x y r s p q = p.answer ∙ sym q.answer
