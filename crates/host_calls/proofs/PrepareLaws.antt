-- Shows: a pattern without a lost stitch and lengths with room are accepted, so preparation in arrays for any pattern makes the tables; and
-- what the call leaves meets its promise, which no second result or content of a table satisfies.
-- Assumes nothing.
use Prim.Native.Nat.{ℕ, ◌-◌, ◌/◌, ◌≤◌}
use mathlib.Core.Path.{◌≡◌, refl, sym, ◌∙◌, ap}
use mathlib.Core.List.{List}
use native.Mathlib.Omega.{arith}
use native.Mathlib.Nat.{sub-zero}
use Rattle.std.specs.Prelude.{Result, Ok, Err}
use lib.IntN.{ℤ}
use lib.ListN.{length, take}
use borrow.Author.Tests.{ne_eqb, le-ltb}
use Rattle.order.specs.declared.refusal.Refusal.{Refusal}
use Rattle.order.specs.Sizes.{none, each, pattern_limit}
use Rattle.order.specs.Lost.{first_lost_lem}
use Rattle.order.specs.Neighbours.{low_table, high_table}
use Rattle.order.specs.Witnesses.{witness_i_table, witness_j_table}
use Rattle.order.specs.Refusals.{Verdict, accepted, refused, pattern_verdict, stitches_verdict, witnesses_verdict, tables_verdict, prepare_verdict}
use Rattle.order.specs.Written.{over, after_verdict}
use Rattle.order.specs.Answers.{answer_by}
use Rattle.order.proofs.Answered.{done, unmet, ok_accepted, err_refused}
use Rattle.order.proofs.Lists.{length-each}
use Rattle.sizes.specs.Lengths.{Room}
use Rattle.tables.specs.Promises.{PreparePromise, sizes_verdict}
use Rattle.sizes.proofs.Verdicts.{pattern_passed, prepare_room, prepare_unlost}
use Rattle.sizes.proofs.VerdictRows.{pattern_stays}
use Rattle.words.specs.Bytes.{samples_in, bytes_of}
use Rattle.host_answers.specs.Results.{refusal_result}
use Rattle.words.specs.Handed.{entries_put}
use Rattle.words.proofs.Handing.{over_front, entries_put_lem}
use Rattle.host_calls.specs.HostPromises.{HostPrepare, prepare_case}
use Rattle.host_calls.specs.Inside.{TablesPut}

-- ---- the tables

prepare_accepted : (P : List ℤ) (low high wi wj : ℕ) → first_lost_lem P ≡ none → Room (length P) low high wi wj → prepare_verdict P low high wi wj ≡ accepted
unfolding prepare_verdict pattern_verdict stitches_verdict tables_verdict witnesses_verdict
prepare_accepted P low high wi wj l r =
    let some = r.some in
    rw (
      ne_eqb (length P) 0 (λ e. omega arith),
      le-ltb pattern_limit (length P) r.limit,
      l,
      le-ltb low (length P) r.low_room,
      le-ltb high (length P) r.high_room,
      le-ltb wi (length P) r.witness_i_room,
      le-ltb wj (length P) r.witness_j_room,
    ) refl

-- a table that was made in an array, and its front put into the host's bytes
table_put : (v : Verdict) (f : ℕ → ℕ) (n : ℕ) (array low : List ℕ) {k : ℕ} {array' low' : List ℕ} → v ≡ accepted → array' ≡ after_verdict v (each f n) array → k ≡ n
    → n ≤ length low / 2 → low' ≡ entries_put (take k array') low → low' ≡ over (bytes_of 2 (each f n)) low
table_put v f n array low {k} {array'} a e s h p =
    let front : take k array' ≡ each f n = ap (take k) (e ∙ ap (λ v. after_verdict v (each f n) array) a) ∙ over_front f n array s in
    entries_put_lem (each f n) low (p ∙ ap (λ l. entries_put l low) front) (rw length-each h)

pub tables-put : (P : List ℤ) (lows highs is js low high wi wj : List ℕ) {lows' highs' is' js' low' high' wi' wj' : List ℕ} {r : Result (Unit {0}) Refusal}
    → PreparePromise P lows highs is js r lows' highs' is' js' → first_lost_lem P ≡ none → Room (length P) (length low / 2) (length high / 2) (length wi / 2) (length wj / 2)
    → Room (length P) (length lows) (length highs) (length is) (length js) → low' ≡ entries_put (take (length P - 0) lows') low
    → high' ≡ entries_put (take (length P - 0) highs') high → wi' ≡ entries_put (take (length P - 0) is') wi → wj' ≡ entries_put (take (length P - 0) js') wj
    → TablesPut P low high wi wj low' high' wi' wj'
unfolding low_table high_table witness_i_table witness_j_table
tables-put P lows highs is js low high wi wj p l t arrays x y z w =
    let s = sub-zero (length P) in
    let a : sizes_verdict P lows highs is js ≡ accepted = prepare_accepted P _ _ _ _ l arrays in
    record {
      low_put = table_put _ _ _ lows low a p.low_after s t.low_room x;
      high_put = table_put _ _ _ highs high a p.high_after s t.high_room y;
      witness_i_put = table_put _ _ _ is wi a p.witness_i_after s t.witness_i_room z;
      witness_j_put = table_put _ _ _ js wj a p.witness_j_after s t.witness_j_room w;
    }

-- ---- the call

module _ (P : List ℤ) (low high wi wj : List ℕ) where
  abbrev verdict : Verdict
  verdict = prepare_case P low high wi wj

  pub fine_fits : done ≡ answer_by verdict tt → (first_lost_lem P ≡ none) × Room (length P) (length low / 2) (length high / 2) (length wi / 2) (length wj / 2)
  fine_fits e = let a = (ok_accepted verdict tt e).0 in (prepare_unlost P _ _ _ _ a, prepare_room P _ _ _ _ a)

  pub prepare_refused : (why : Refusal) {result : ℕ} → unmet why ≡ answer_by verdict tt → result ≡ refusal_result why → HostPrepare P low high wi wj result low high wi wj
  prepare_refused why e c =
      let a : verdict ≡ refused why = err_refused verdict tt e in
      record { result = rw a c; low_after = rw a refl; high_after = rw a refl; witness_i_after = rw a refl; witness_j_after = rw a refl }

  -- no second result, and no other byte in a table
  pub tension_prepare_only_answer : {r s : ℕ} {low₁ high₁ wi₁ wj₁ low₂ high₂ wi₂ wj₂ : List ℕ}
      → HostPrepare P low high wi wj r low₁ high₁ wi₁ wj₁ → HostPrepare P low high wi wj s low₂ high₂ wi₂ wj₂
      → (r ≡ s) × (low₁ ≡ low₂) × (high₁ ≡ high₂) × (wi₁ ≡ wi₂) × (wj₁ ≡ wj₂)
  tension_prepare_only_answer p q = (
    p.result ∙ sym q.result,
    p.low_after ∙ sym q.low_after,
    p.high_after ∙ sym q.high_after,
    p.witness_i_after ∙ sym q.witness_i_after,
    p.witness_j_after ∙ sym q.witness_j_after,
  )

-- ---- by the pattern's bytes

-- a length that is accepted is within the limit
pub pattern_short : (m : ℕ) {c : Result (Unit {0}) Refusal} {u : Unit {0}} → c ≡ answer_by (pattern_verdict m accepted) tt → c ≡ Ok u → m ≤ pattern_limit
pattern_short m e g = (pattern_passed m accepted (ok_accepted (pattern_verdict m accepted) tt (sym g ∙ e)).0).1

-- a length that is refused is refused before all else
pub prepare_unfit : (pattern low high wi wj : List ℕ) {why : Refusal} {result : ℕ} {c : Result (Unit {0}) Refusal} → c ≡ answer_by (pattern_verdict (length pattern / 4) accepted) tt → c ≡ Err why → result ≡ refusal_result why
    → HostPrepare (samples_in pattern) low high wi wj result low high wi wj
unfolding prepare_verdict
prepare_unfit pattern low high wi wj {why} e g r =
    prepare_refused (samples_in pattern) low high wi wj why (sym g ∙ pattern_stays _ (rw length-each e) g _) r
