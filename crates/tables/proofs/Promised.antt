-- Shows: the parts of each public call's promise follow from its answer and its buffers; and no second answer, nor other
-- content of a buffer, satisfies a promise.
-- Assumes nothing.
use mathlib.Core.Path.{◌≡◌, sym, ◌∙◌, ap}
use mathlib.Core.List.{List}
use Prim.Native.Nat.{ℕ}
use lib.IntN.{ℤ}
use lib.ListN.{length}
use Rattle.std.specs.Prelude.{Result}
use Rattle.order.specs.Neighbours.{low_table, high_table}
use Rattle.order.specs.Witnesses.{witness_i_table, witness_j_table}
use Rattle.order.specs.Refusals.{Verdict, accepted, refused, prepare_verdict, own_verdict, verdict_number, verdict_place}
use Rattle.order.specs.declared.refusal.Refusal.{Refusal}
use Rattle.order.specs.Written.{after_verdict}
use Rattle.order.specs.Answers.{answer_number, answer_place, answer_by}
use Rattle.order.proofs.Answered.{done, unmet, numbered, placed, ok_accepted, err_refused}
use Rattle.tables.specs.Inside.Asked.{TablesWritten}
use Rattle.tables.specs.Promises.{PreparePromise, NeighboursMade, TablesPromise, own_tables_verdict}
use Rattle.sizes.proofs.VerdictRows.{sizes_through, sizes_stay}

-- ---- preparation

module _ (P : List ℤ) (low high wi wj : List ℕ) where
  abbrev verdict : Verdict
  verdict = prepare_verdict P (length low) (length high) (length wi) (length wj)

  pub prepare_refused : (why : Refusal) → unmet why ≡ answer_by (prepare_verdict P (length low) (length high) (length wi) (length wj)) tt →
      PreparePromise P low high wi wj (unmet why) low high wi wj
  prepare_refused why e =
      record {
        number = ap verdict_number (sym v);
        place = ap verdict_place (sym v);
        answer = ap (λ w. answer_by w tt) (sym v);
        low_after = ap (λ w. after_verdict w (low_table P) low) (sym v);
        high_after = ap (λ w. after_verdict w (high_table P) high) (sym v);
        witness_i_after = ap (λ w. after_verdict w (witness_i_table P) wi) (sym v);
        witness_j_after = ap (λ w. after_verdict w (witness_j_table P) wj) (sym v);
      }
    where
      v : verdict ≡ refused why
      v = err_refused verdict tt e

  pub prepare_done : {low' high' wi' wj' : List ℕ} →
      done ≡ answer_by (prepare_verdict P (length low) (length high) (length wi) (length wj)) tt →
      TablesWritten P low high wi wj low' high' wi' wj' →
      PreparePromise P low high wi wj done low' high' wi' wj'
  prepare_done e t =
      record {
        number = ap verdict_number (sym v);
        place = ap verdict_place (sym v);
        answer = ap (λ w. answer_by w tt) (sym v);
        low_after = t.low_written ∙ ap (λ w. after_verdict w (low_table P) low) (sym v);
        high_after = t.high_written ∙ ap (λ w. after_verdict w (high_table P) high) (sym v);
        witness_i_after = t.witness_i_written ∙ ap (λ w. after_verdict w (witness_i_table P) wi) (sym v);
        witness_j_after = t.witness_j_written ∙ ap (λ w. after_verdict w (witness_j_table P) wj) (sym v);
      }
    where
      v : verdict ≡ accepted
      v = (ok_accepted verdict tt e).0

  pub prepare_only_answer : (r s : Result (Unit {0}) Refusal) (low₁ high₁ wi₁ wj₁ low₂ high₂ wi₂ wj₂ : List ℕ) →
      PreparePromise P low high wi wj r low₁ high₁ wi₁ wj₁ → PreparePromise P low high wi wj s low₂ high₂ wi₂ wj₂ →
      (r ≡ s) × (low₁ ≡ low₂) × (high₁ ≡ high₂) × (wi₁ ≡ wi₂) × (wj₁ ≡ wj₂)
  prepare_only_answer r s low₁ high₁ wi₁ wj₁ low₂ high₂ wi₂ wj₂ p q = (
    p.answer ∙ sym q.answer,
    p.low_after ∙ sym q.low_after,
    p.high_after ∙ sym q.high_after,
    p.witness_i_after ∙ sym q.witness_i_after,
    p.witness_j_after ∙ sym q.witness_j_after,
  )

-- ---- the check of the tables

module _ (P : List ℤ) (low high wi wj : List ℕ) where
  tables_promised : {r : Result (Unit {0}) Refusal} → r ≡ answer_by (own_tables_verdict P low high wi wj) tt → TablesPromise P low high wi wj r
  tables_promised e =
      record {
        number = ap answer_number e ∙ numbered (own_tables_verdict P low high wi wj) tt;
        place = ap answer_place e ∙ placed (own_tables_verdict P low high wi wj) tt;
        answer = e;
      }

  pub tables-refused : (why : Refusal) → unmet why ≡ answer_by (prepare_verdict P (length low) (length high) (length wi) (length wj)) tt →
      TablesPromise P low high wi wj (unmet why)
  unfolding own_tables_verdict
  tables-refused why e =
      tables_promised (ap (λ w. answer_by w tt) (sym (sizes_stay P (length low) (length high) (length wi) (length wj) why e (own_verdict P low high wi wj))))

  pub tables_compared : {c : Result (Unit {0}) Refusal} → done ≡ answer_by (prepare_verdict P (length low) (length high) (length wi) (length wj)) tt →
      c ≡ answer_by (own_verdict P low high wi wj) tt → TablesPromise P low high wi wj c
  unfolding own_tables_verdict
  tables_compared e f =
      tables_promised (f ∙ ap (λ w. answer_by w tt) (sym (sizes_through P (length low) (length high) (length wi) (length wj) e (own_verdict P low high wi wj))))

  pub tables_only_answer : {r s : Result (Unit {0}) Refusal} → TablesPromise P low high wi wj r → TablesPromise P low high wi wj s → r ≡ s
  tables_only_answer p q = p.answer ∙ sym q.answer

-- ---- preparation of the neighbours alone

module _ (P : List ℤ) (low high : List ℕ) where
  -- no second answer
  pub neighbours_made_only_answer : {r s : Result (Unit {0}) Refusal} {low₁ high₁ low₂ high₂ : List ℕ} → NeighboursMade P low high r low₁ high₁ → NeighboursMade P low high s low₂ high₂
      → (r ≡ s) × (low₁ ≡ low₂) × (high₁ ≡ high₂)
  neighbours_made_only_answer p q = (p.answer ∙ sym q.answer, p.low_after ∙ sym q.low_after, p.high_after ∙ sym q.high_after)
