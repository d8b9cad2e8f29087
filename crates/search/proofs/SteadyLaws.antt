-- Shows: a pattern that agrees with itself one sample on goes one way throughout, so each of its places has the place before for its one
-- neighbour, on one side or on both, and the test of a place is one comparison of a sample with the one before it.
-- Assumes nothing.
use Prim.Native.Nat.{ℕ, zero, suc, ◌+◌, ◌-◌, ◌≤◌, ◌<◌}
use mathlib.Core.Path.{◌≡◌, refl, sym, ◌∙◌, ap, ap₂, subst}
use mathlib.Core.List.{List}
use mathlib.Core.Bool.{Bool, true, false, cond}
use native.Mathlib.Omega.{arith}
use lib.IntN.{ℤ, pos}
use lib.ListN.{length, get_or, take, drop, length-drop}
use lib.Seq.{get_or-drop, take_all}
use lib.Signed.{le_z}
use lib.Dec.{leb}
use borrow.Author.Tests.{eq-eqb, leb-true, leb-false}
use Rattle.std.specs.declared.cmp.Ordering.{Ordering as Comparison}
use Rattle.order.specs.declared.steps.Tested.TheVariants.{Passed, Failed}
use Rattle.order.specs.Sizes.{Spot, none, place, as_place, at, entry, no_place}
use Rattle.order.specs.Relations.{rel}
use Rattle.order.specs.Isomorphic.{Iso}
use Rattle.order.specs.Neighbours.{nearest, low_of, high_of}
use Rattle.order.specs.PlaceTest.{matches, is_same_spot, against, then_high, test_of}
use Rattle.order.specs.Witnesses.{witness_j_of}
use Rattle.order.proofs.Tests.{clash, must_fail}
use Rattle.order.proofs.Orders.{le_z_total, same_tests_alike}
use Rattle.order.proofs.Nearest.{Ordering, upward, turned, Neighbour, le_refl}
use Rattle.order.proofs.NearestOnly.{nearest_only}
use Rattle.order.proofs.PlaceTests.{iso_order}
use Rattle.order.proofs.Witnessing.{witness_is, none_agree}
use Rattle.search.specs.Inside.Asked.{OwnWitnesses}
use Rattle.search.specs.Inside.Courses.{step_test, Steady}

-- ---- one way throughout, by any order of samples

module _ {le : ℤ → ℤ → Bool} (o : Ordering le) (P : List ℤ) (n : ℕ) (same : (i j : ℕ) → i < n → j < n → le (at P i) (at P j) ≡ le (at P (suc i)) (at P (suc j))) where
  -- samples beside each other compare as the first two do
  beside : (j : ℕ) → j < n → le (at P j) (at P (suc j)) ≡ le (at P 0) (at P 1)
  beside zero h = refl
  beside (suc j) h = sym (same j (suc j) (omega arith) (omega arith)) ∙ beside j (omega arith)

  back : (j : ℕ) → j < n → le (at P (suc j)) (at P j) ≡ le (at P 1) (at P 0)
  back zero h = refl
  back (suc j) h = sym (same (suc j) j (omega arith) (omega arith)) ∙ back j (omega arith)

  -- so if those rise, all do
  rising : le (at P 0) (at P 1) ≡ true → (i k : ℕ) → i + k < n → le (at P i) (at P (suc (i + k))) ≡ true
  rising up i zero h = let none : i + 0 ≡ i = omega arith in rw none (beside i (omega arith) ∙ up)
  rising up i (suc k) h =
      let more : i + suc k ≡ suc (i + k) = omega arith in
      rw more (o.trans (at P i) (at P (suc (i + k))) (at P (suc (suc (i + k)))) (rising up i k (omega arith)) (beside (suc (i + k)) (omega arith) ∙ up))

  falling : le (at P 1) (at P 0) ≡ true → (i k : ℕ) → i + k < n → le (at P (suc (i + k))) (at P i) ≡ true
  falling down i zero h = let none : i + 0 ≡ i = omega arith in rw none (back i (omega arith) ∙ down)
  falling down i (suc k) h =
      let more : i + suc k ≡ suc (i + k) = omega arith in
      rw more (o.trans (at P (suc (suc (i + k)))) (at P (suc (i + k))) (at P i) (back (suc (i + k)) (omega arith) ∙ down) (falling down i k (omega arith)))

  -- and if they do not, none does
  never : le (at P 0) (at P 1) ≡ false → (i k : ℕ) → i + k < n → le (at P i) (at P (suc (i + k))) ≡ false
  never off i zero h = let none : i + 0 ≡ i = omega arith in rw none (beside i (omega arith) ∙ off)
  never off i (suc k) h =
      let more : i + suc k ≡ suc (i + k) = omega arith in
      let next : suc i + k ≡ suc (i + k) = omega arith in
      rw more
      (must_fail (le (at P i) (at P (suc (suc (i + k))))) λ t.
      clash
      (o.trans (at P i) (at P (suc (suc (i + k)))) (at P (suc i)) t (rw next at (falling (o.total (at P 0) (at P 1) off) (suc i) k (omega arith))))
      (beside i (omega arith) ∙ off))

  -- the one neighbour on that side is the place before, or there is none
  found : (i : ℕ) → i < n → (up : Bool) → le (at P 0) (at P 1) ≡ up → Neighbour le P (suc i) (suc i) (cond up (place i) none)
  found i h true up =
      record {
        below = omega arith;
        side = beside i h ∙ up;
        best = λ k b t. before k b;
        rightmost = λ k b a t. absurd (omega arith);
      }
    where
      before : (k : ℕ) → k < suc i → le (at P k) (at P i) ≡ true
      before k b = go (leb i k) refl
        where
          go : (t : Bool) → leb i k ≡ t → le (at P k) (at P i) ≡ true
          go true e = let a : i ≤ k = leb-true i k e in let same : k ≡ i = omega arith in rw same (le_refl o P 0 (at P i))
          go false e =
              let a : k < i = leb-false i k e in
              let there : suc (k + (i - suc k)) ≡ i = omega arith in
              rw there at (rising up k (i - suc k) (omega arith))
  found i h false off = λ k b. let there : suc (k + (i - k)) ≡ suc i = omega arith in rw there at (never off k (i - k) (omega arith))

  pub one_neighbour : (i : ℕ) → i < n → cond (le (at P 0) (at P 1)) (place i) none ≡ nearest le P (suc i) (suc i)
  one_neighbour i h = nearest_only o P (suc i) (suc i) (cond (le (at P 0) (at P 1)) (place i) none) (found i h (le (at P 0) (at P 1)) refl)

-- ---- the test of a place

module _ (P v : List ℤ) (i : ℕ) where
  -- a neighbour on both sides is compared once, and one on a single side too
  once : (t : Bool) → then_high P v (suc i) (place i) (place i) (cond t (Passed 1) (Failed 1 (as_place i))) ≡ cond t (Passed 1) (Failed 1 (as_place i))
  unfolding then_high is_same_spot
  once true = rw (eq-eqb i i refl) refl
  once false = refl

  no_other : (t : Bool) → then_high P v (suc i) (place i) none (cond t (Passed 1) (Failed 1 (as_place i))) ≡ cond t (Passed 1) (Failed 1 (as_place i))
  unfolding then_high against is_same_spot
  no_other true = refl
  no_other false = refl

  -- by the two neighbours, each the place before or none, of which one at least is there
  by_spots : (up down : Bool) → (up ≡ false → down ≡ true)
      → then_high P v (suc i) (cond up (place i) none) (cond down (place i) none) (against P v (suc i) 0 (cond up (place i) none)) ≡ cond (matches P v (suc i) i) (Passed 1) (Failed 1 (as_place i))
  unfolding then_high against is_same_spot
  by_spots true true f = once (matches P v (suc i) i)
  by_spots true false f = no_other (matches P v (suc i) i)
  by_spots false true f = refl
  by_spots false false f = clash (f refl) refl

  as_step : {way : Comparison} → rel (at P (suc i)) (at P i) ≡ way → cond (matches P v (suc i) i) (Passed 1) (Failed 1 (as_place i)) ≡ step_test way v (suc i)
  unfolding matches
  as_step e = let same : suc i - 1 ≡ i = omega arith in rw (e, same) refl

-- ---- a pattern with no witness at offset 1

module _ (P : List ℤ) (e : witness_j_of P 1 ≡ none) where
  shifted : (i j : ℕ) → i < length P - 1 → j < length P - 1 → le_z (at P i) (at P j) ≡ le_z (at P (suc i)) (at P (suc j))
  shifted i j hi hj =
      iso_order P (drop 1 P) (length P - 1) (omega arith)
      (subst (λ (u : List ℤ). Iso (take (length P - 1) P) u) (sym whole) (none_agree P 1 e)) i j hi hj ∙
      ap₂ le_z (later i) (later j)
    where
      whole : take (length P - 1) (drop 1 P) ≡ drop 1 P
      whole = let n = length-drop 1 P in take_all (length P - 1) (drop 1 P) (omega arith)

      later : (i : ℕ) → at (drop 1 P) i ≡ at P (suc i)
      later i = let one : 1 + i ≡ suc i = omega arith in get_or-drop 1 P i (pos 0) ∙ ap (at P) one

  pub steps_alike : (v : List ℤ) (j : ℕ) → 0 < j → j < length P → test_of P v j ≡ step_test (rel (at P 1) (at P 0)) v j
  unfolding test_of low_of high_of
  steps_alike v zero h k = absurd (omega arith)
  steps_alike v (suc i) h k =
      let here : i < length P - 1 = omega arith in
      rw (← one_neighbour upward P (length P - 1) shifted i here, ← one_neighbour (turned upward) P (length P - 1) (λ i j hi hj. shifted j i hj hi) i here)
      (by_spots P v i (le_z (at P 0) (at P 1)) (le_z (at P 1) (at P 0)) (le_z_total (at P 0) (at P 1)) ∙
      as_step P v i
      (same_tests_alike (at P (suc i)) (at P i) (at P 1) (at P 0)
      (back upward P (length P - 1) shifted i here)
      (beside upward P (length P - 1) shifted i here)))

  pub goes_one_way : 0 < length P → Steady P (rel (at P 1) (at P 0))
  goes_one_way h = record { some = h; steps = steps_alike }

-- ---- as the code finds it

-- the entry of offset 1 tells whether it has a witness
pub no_witness : {P : List ℤ} {wi wj : List ℕ} → OwnWitnesses P wi wj → 1 < length P → get_or wi 1 0 ≡ no_place → witness_j_of P 1 ≡ none
unfolding entry
no_witness {P} {wi} own h e = go (witness_j_of P 1) refl
  where
    go : (s : Spot) → witness_j_of P 1 ≡ s → witness_j_of P 1 ≡ none
    go none w = w
    go (place j) w =
        let there = witness_is P 1 j w in
        let a = there.2.earlier in
        let b = there.2.inside in
        let l = own.limit in
        let same : there.0 ≡ no_place = sym (ap entry there.1) ∙ sym (own.i_own 1 h) ∙ e in
        absurd (omega arith)
