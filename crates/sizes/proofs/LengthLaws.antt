-- Shows: the look at what a search is handed meets its promise, row by row, and no second answer satisfies it.
-- Assumes nothing.
use Prim.Native.Nat.{ℕ}
use mathlib.Core.Path.{◌≡◌, refl, sym, ◌∙◌, ap}
use mathlib.Core.List.{List}
use lib.IntN.{ℤ}
use lib.ListN.{length}
use Rattle.std.specs.Prelude.{Result, Err}
use Rattle.order.specs.declared.refusal.Refusal.{Refusal}
use Rattle.order.specs.Sizes.{windows_of}
use Rattle.order.specs.Refusals.{accepted, prepare_verdict, room_verdict}
use Rattle.order.specs.Answers.{answer_number, answer_place, answer_by}
use Rattle.order.proofs.Answered.{done, unmet, numbered, placed}
use Rattle.sizes.specs.Lengths.{fitting_verdict, FittingPromise}
use Rattle.sizes.proofs.VerdictRows.{sizes_through, sizes_stay}

module _ (P : List ℤ) (low high wi wj n survivors positions : ℕ) where
  promised : {r : Result ℕ Refusal} → r ≡ answer_by (fitting_verdict P low high wi wj n survivors positions) (windows_of (length P) n) → FittingPromise P low high wi wj n survivors positions r
  promised e =
      record {
        number = ap answer_number e ∙ numbered (fitting_verdict P low high wi wj n survivors positions) (windows_of (length P) n);
        place = ap answer_place e ∙ placed (fitting_verdict P low high wi wj n survivors positions) (windows_of (length P) n);
        answer = e;
      }

  pub fitting_refused : (why : Refusal) → unmet why ≡ answer_by (prepare_verdict P low high wi wj) tt → FittingPromise P low high wi wj n survivors positions (Err why)
  unfolding fitting_verdict
  fitting_refused why e = promised (rw (sizes_stay P low high wi wj why e (room_verdict (length P) n survivors positions accepted)) refl)

  pub fitting_fit : {r : Result ℕ Refusal} → done ≡ answer_by (prepare_verdict P low high wi wj) tt → r ≡ answer_by (room_verdict (length P) n survivors positions accepted) (windows_of (length P) n)
      → FittingPromise P low high wi wj n survivors positions r
  unfolding fitting_verdict
  fitting_fit e f = promised (f ∙ ap (λ v. answer_by v (windows_of (length P) n)) (sym (sizes_through P low high wi wj e (room_verdict (length P) n survivors positions accepted))))

  -- no second answer
  pub fitting_only_answer : {r s : Result ℕ Refusal} → FittingPromise P low high wi wj n survivors positions r → FittingPromise P low high wi wj n survivors positions s → r ≡ s
  fitting_only_answer p q = p.answer ∙ sym q.answer
