-- Shows: a search's conditions may be tried as the room first: where there is some, the search comes to what the check of the tables comes
-- to, and where there is none, to what its conditions on the pattern and on lengths come to.
-- Assumes nothing.
use mathlib.Core.Path.{◌≡◌, sym, ◌∙◌, ap}
use mathlib.Core.List.{List}
use Prim.Native.Nat.{ℕ}
use Rattle.std.specs.Prelude.{Result, Ok, Err}
use lib.IntN.{ℤ}
use lib.ListN.{length}
use Rattle.order.specs.declared.refusal.Refusal.{Refusal}
use Rattle.order.specs.Sizes.{windows_of}
use Rattle.order.specs.Refusals.{Verdict, accepted, refused, room_verdict, own_verdict, search_verdict}
use Rattle.order.specs.Answers.{answer_by}
use Rattle.order.proofs.Answered.{ok_accepted, err_refused}
use Rattle.sizes.specs.Lengths.{fitting_verdict, FittingPromise}
use Rattle.tables.specs.Promises.{TablesPromise, own_tables_verdict}
use Rattle.order.proofs.Rows.{row_passes, row_refuses}
use Rattle.sizes.proofs.VerdictRows.{sizes, room_row}

module _ (P : List ℤ) (low high wi wj : List ℕ) (T : List ℤ) (s p : ℕ) where
  abbrev own : Verdict
  own = own_verdict P low high wi wj

  -- the conditions before the room, and the room
  abbrev before : Verdict → Verdict
  before = sizes P (length low) (length high) (length wi) (length wj)

  abbrev room : Verdict → Verdict
  room = room_verdict (length P) (length T) s p

  -- there is room: the tables decide
  tables_decide : room accepted ≡ accepted → search_verdict P low high wi wj T s p ≡ own_tables_verdict P low high wi wj
  unfolding search_verdict own_tables_verdict
  tables_decide e = ap before (row_passes room (room_row (length P) (length T) s p) e own)

  -- there is none: the tables' entries don't matter
  sizes_decide : {why : Refusal} → room accepted ≡ refused why → fitting_verdict P (length low) (length high) (length wi) (length wj) (length T) s p ≡ search_verdict P low high wi wj T s p
  unfolding fitting_verdict search_verdict
  sizes_decide e = ap before (e ∙ sym (row_refuses room (room_row (length P) (length T) s p) e own))

  pub unfit_refused : {r f : Result ℕ Refusal} {why : Refusal} → r ≡ Err why → r ≡ answer_by (room accepted) (windows_of (length P) (length T))
      → FittingPromise P (length low) (length high) (length wi) (length wj) (length T) s p f
      → f ≡ answer_by (search_verdict P low high wi wj T s p) (windows_of (length P) (length T))
  unfit_refused q e l =
      l.answer ∙ ap (λ v. answer_by v (windows_of (length P) (length T))) (sizes_decide (err_refused (room accepted) (windows_of (length P) (length T)) (sym q ∙ e)))

  module _ {r : Result ℕ Refusal} {n : ℕ} (q : r ≡ Ok n) (l : r ≡ answer_by (room accepted) (windows_of (length P) (length T))) where
    fit : (room accepted ≡ accepted) × (n ≡ windows_of (length P) (length T))
    fit = ok_accepted (room accepted) (windows_of (length P) (length T)) (sym q ∙ l)

    pub foreign_refused : {c : Result (Unit {0}) Refusal} {why : Refusal} → c ≡ Err why → TablesPromise P low high wi wj c
        → Err why ≡ answer_by (search_verdict P low high wi wj T s p) (windows_of (length P) (length T))
    foreign_refused {why = why} e t =
        ap (λ v. answer_by v (windows_of (length P) (length T)))
        (sym (tables_decide fit.0 ∙ err_refused (own_tables_verdict P low high wi wj) (tt {0}) (sym e ∙ t.answer)))

    pub all_fine : {c : Result (Unit {0}) Refusal} {u : Unit {0}} → c ≡ Ok u → TablesPromise P low high wi wj c
        → Ok n ≡ answer_by (search_verdict P low high wi wj T s p) (windows_of (length P) (length T))
    all_fine e t =
        ap Ok fit.1 ∙
        ap (λ v. answer_by v (windows_of (length P) (length T)))
        (sym (tables_decide fit.0 ∙ (ok_accepted (own_tables_verdict P low high wi wj) (tt {0}) (sym e ∙ t.answer)).0))
