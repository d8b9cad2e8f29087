-- Shows: the parts of the call's promise follow from its answer and the two tables; no second answer, nor other content of a table,
-- satisfies it; and what a caller has whose levels are accepted.
-- Assumes nothing.
use Prim.Native.Nat.{ℕ, ◌≤◌, ◌<◌}
use mathlib.Core.Path.{◌≡◌, sym, ◌∙◌, ap}
use mathlib.Core.List.{List, map}
use native.Mathlib.Omega.{arith}
use lib.IntN.{ℤ, pos}
use lib.ListN.{length}
use Rattle.std.specs.Prelude.{Result}
use Rattle.order.specs.Sizes.{pattern_limit}
use Rattle.order.specs.Neighbours.{low_table, high_table}
use Rattle.order.specs.Refusals.{Verdict, accepted, verdict_number, verdict_place}
use Rattle.order.specs.declared.refusal.Refusal.{Refusal}
use Rattle.order.specs.Written.{over, after_verdict}
use Rattle.order.specs.Answers.{answer_number, answer_place, answer_by}
use Rattle.tables.specs.Promises.{neighbours_alone, NeighboursMade}
use Rattle.tables.specs.Inside.Asked.{OwnNeighbours}
use Rattle.tables.proofs.OwnTables.{own-neighbours}
use Rattle.levels.specs.Levels.{levels}
use Rattle.levels.specs.Promises.{neighbours_verdict, NeighboursPromise}
use Rattle.levels.proofs.LevelLaws.{length-levels, levels_verdict, levels-accepted, all_levels}

-- ---- the neighbours of any samples

module _ (P : List ℤ) (low high : List ℕ) where
  neighbours_by : {v : Verdict} {r : Result (Unit {0}) Refusal} {low' high' : List ℕ} → neighbours_verdict P low high ≡ v
      → r ≡ answer_by v tt → answer_number r ≡ verdict_number v → answer_place r ≡ verdict_place v
      → low' ≡ after_verdict v (low_table P) low → high' ≡ after_verdict v (high_table P) high → NeighboursPromise P low high r low' high'
  neighbours_by v a n p l h =
      record {
        number = n ∙ ap verdict_number (sym v);
        place = p ∙ ap verdict_place (sym v);
        answer = a ∙ ap (λ w. answer_by w tt) (sym v);
        low_after = l ∙ ap (λ w. after_verdict w (low_table P) low) (sym v);
        high_after = h ∙ ap (λ w. after_verdict w (high_table P) high) (sym v);
      }

  pub neighbours_only_answer : {r s : Result (Unit {0}) Refusal} {low₁ high₁ low₂ high₂ : List ℕ} → NeighboursPromise P low high r low₁ high₁ → NeighboursPromise P low high s low₂ high₂
      → (r ≡ s) × (low₁ ≡ low₂) × (high₁ ≡ high₂)
  neighbours_only_answer p q = (p.answer ∙ sym q.answer, p.low_after ∙ sym q.low_after, p.high_after ∙ sym q.high_after)

  -- what a caller has who knows that the call is accepted
  pub neighbours_made : {r : Result (Unit {0}) Refusal} {low' high' : List ℕ} → NeighboursPromise P low high r low' high' → neighbours_verdict P low high ≡ accepted
      → (low' ≡ over (low_table P) low) × (high' ≡ over (high_table P) high)
  neighbours_made p v = (
    p.low_after ∙ ap (λ w. after_verdict w (low_table P) low) v,
    p.high_after ∙ ap (λ w. after_verdict w (high_table P) high) v,
  )

-- ---- those of grey levels, which are made wherever the sizes are right

-- of samples that are levels the look for a lost stitch finds none, so that making neighbours alone is preparation's part of it
pub levels_made : (Q low high : List ℕ) {r : Result (Unit {0}) Refusal} {low' high' : List ℕ} → NeighboursMade (map pos Q) low high r low' high'
    → NeighboursPromise (levels Q (length Q)) low high r low' high'
levels_made Q low high p =
    let made = rw all_levels at p in
    neighbours_by (levels Q (length Q)) low high
    (levels_verdict Q (length Q) (length low) (length high) ∙ ap (λ n. neighbours_alone n (length low) (length high)) (sym (length-levels Q (length Q))))
    made.answer made.number made.place made.low_after made.high_after

pub own-levels : (Q : List ℕ) (m : ℕ) (low high : List ℕ) {r : Result (Unit {0}) Refusal} {low' high' : List ℕ} → NeighboursPromise (levels Q m) low high r low' high'
    → 0 < m → m ≤ pattern_limit → m ≤ length low → m ≤ length high → length low' ≡ length low → length high' ≡ length high → OwnNeighbours (levels Q m) low' high'
own-levels Q m low high p some limit l h x y =
    let made = neighbours_made (levels Q m) low high p (levels-accepted Q m (length low) (length high) some limit l h) in
    let long = length-levels Q m in
    own-neighbours (levels Q m) low high (omega arith) (omega arith) (omega arith) made.0 made.1
