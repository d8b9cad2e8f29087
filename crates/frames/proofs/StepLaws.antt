-- Shows: what the test of a place of the patch comes to on the frame's own samples, in each of the five ways in which its two neighbours can
-- stand, by their entries and by their offsets; and that all places pass exactly where the patch is isomorphic with what lies under it.
-- Assumes nothing.
use Prim.Native.Nat.{ℕ, ◌+◌, ◌≤◌, ◌<◌}
use mathlib.Core.Path.{◌≡◌, refl, sym, ◌∙◌, ap, ap₂, subst}
use mathlib.Core.List.{List}
use mathlib.Core.Bool.{Bool, true, false, cond, ◌&&◌}
use native.Mathlib.Omega.{arith}
use lib.Dec.{leb, ltb, eqb}
use lib.IntN.{ℤ, pos}
use lib.ListN.{length, get_or, take}
use lib.Seq.{take-length}
use borrow.Author.Tests.{lt-ltb, le-ltb, ltb-true, ltb-false, eq-eqb, ne_eqb, eqb-true, eqb-false, leb-true, leb-false}
use Rattle.std.specs.declared.cmp.Ordering.TheVariants.{Less, Equal, Greater}
use Rattle.order.specs.declared.kinds.Place.{Place}
use Rattle.order.specs.declared.steps.Tested.TheVariants.{Passed, Failed}
use Rattle.order.specs.Sizes.{at, each, pattern_limit}
use Rattle.order.specs.Relations.{rel, alike}
use Rattle.order.specs.Isomorphic.{Iso, is_iso, all_below}
use Rattle.order.specs.PlaceTest.{test_of, passes}
use Rattle.order.specs.EntryTest.{told, under_high_lem, test_by}
use Rattle.order.proofs.Tests.{same_test}
use Rattle.order.proofs.Lists.{length-each, get_or-each}
use Rattle.order.proofs.Comparing.{less_told, greater_told}
use Rattle.order.proofs.Isomorphisms.{all_pass, pass_each, iso_computed, computed_iso}
use Rattle.order.proofs.PlaceTests.{tests_iso, iso_tests}
use Rattle.order.proofs.TestByEntries.{test_by_own}
use Rattle.tables.specs.Inside.Asked.{OwnNeighbours}
use Rattle.frames.specs.declared.places.Step.{Step}
use Rattle.frames.specs.Inside.{nowhere, no_step, here_at, near_of, near_step, near_steps, step_test, step_passes_lem, pass_below, pass_by_tables}

-- ---- what comparisons tell

passes_one : (t : Bool) (c d : ℕ) (i : Place) → passes (cond t (Passed c) (Failed d i)) ≡ t
unfolding passes
passes_one true c d i = refl
passes_one false c d i = refl

passes_two : (t u : Bool) (c d e : ℕ) (i k : Place) → passes (cond t (cond u (Passed c) (Failed d k)) (Failed e i)) ≡ (t && u)
unfolding passes
passes_two true u c d e i k = passes_one u c d k
passes_two false u c d e i k = refl

-- levels are equal exactly if their numbers are
equal_levels : (a b : ℕ) → alike (rel (pos a) (pos b)) Equal ≡ eqb a b
unfolding rel
equal_levels a b = go (leb a b) (leb b a) refl refl
  where
    go : (t u : Bool) → leb a b ≡ t → leb b a ≡ u → alike (cond t (cond u Equal Less) Greater) Equal ≡ eqb a b
    go true true e f =
        let h : a ≤ b = leb-true a b e in
        let k : b ≤ a = leb-true b a f in
        sym (eq-eqb a b (omega arith))
    go true false e f = let k : a < b = leb-false b a f in sym (ne_eqb a b (λ q. omega arith))
    go false u e f = let k : b < a = leb-false a b e in sym (ne_eqb a b (λ q. omega arith))

-- ---- the test by entries, in the five ways in which they can stand

-- what lies under the places with these offsets when the first is laid on sample s of the frame
unfoldable pub seen : List ℕ → List Step → ℕ → List ℤ
seen F offsets s = each (λ j. pos (get_or F (s + here_at offsets j) 0)) (length offsets)

unfoldable meeting_by_entries : List ℕ → List Step → ℕ → ℕ → ℕ → ℕ → Bool
meeting_by_entries F offsets low high s j = passes (test_by (seen F offsets s) low high j)

module _ (F : List ℕ) (offsets : List Step) (low high s j : ℕ) (h : j < length offsets) where
  -- what lies under place i
  abbrev sample : ℕ → ℕ
  sample i = get_or F (s + here_at offsets i) 0

  abbrev v : List ℤ
  v = seen F offsets s

  long : length v ≡ length offsets
  unfolding seen
  long = length-each (λ i. pos (get_or F (s + here_at offsets i) 0)) (length offsets)

  there : (i : ℕ) → i < length offsets → at v i ≡ pos (sample i)
  unfolding seen
  there i g = get_or-each (λ i. pos (get_or F (s + here_at offsets i) 0)) (length offsets) i (pos 0) g

  inside : ltb j (length v) ≡ true
  inside = lt-ltb j (length v) (rw long h)

  less : (i : ℕ) → i < length offsets → told v j i Less ≡ ltb (sample j) (sample i)
  less i g = ap₂ (λ a b. alike (rel a b) Less) (there j h) (there i g) ∙ sym (less_told (pos (sample j)) (pos (sample i)))

  greater : (i : ℕ) → i < length offsets → told v j i Greater ≡ ltb (sample i) (sample j)
  greater i g = ap₂ (λ a b. alike (rel a b) Greater) (there j h) (there i g) ∙ sym (greater_told (pos (sample j)) (pos (sample i)))

  equal : (i : ℕ) → i < length offsets → told v j i Equal ≡ eqb (sample j) (sample i)
  equal i g = ap₂ (λ a b. alike (rel a b) Equal) (there j h) (there i g) ∙ equal_levels (sample j) (sample i)

  no_neighbour : length offsets ≤ low → length offsets ≤ high → meeting_by_entries F offsets low high s j ≡ true
  unfolding meeting_by_entries test_by under_high_lem passes
  no_neighbour l g = rw (inside, le-ltb low (length v) (rw long l), le-ltb high (length v) (rw long g)) refl

  only_high : length offsets ≤ low → high < length offsets → meeting_by_entries F offsets low high s j ≡ ltb (sample j) (sample high)
  unfolding meeting_by_entries test_by under_high_lem
  only_high l g =
      rw (inside, le-ltb low (length v) (rw long l), lt-ltb high (length v) (rw long g))
      (passes_one (told v j high Less) _ _ _ ∙ less high g)

  one_neighbour : low < length offsets → low ≡ high → meeting_by_entries F offsets low high s j ≡ eqb (sample j) (sample low)
  unfolding meeting_by_entries test_by
  one_neighbour l e =
      rw (inside, lt-ltb low (length v) (rw long l), eq-eqb low high e)
      (passes_one (told v j low Equal) _ _ _ ∙ equal low l)

  only_low : low < length offsets → (low ≡ high → ⊥) → length offsets ≤ high
      → meeting_by_entries F offsets low high s j ≡ ltb (sample low) (sample j)
  unfolding meeting_by_entries test_by under_high_lem
  only_low l e g =
      rw (inside, lt-ltb low (length v) (rw long l), ne_eqb low high e, le-ltb high (length v) (rw long g))
      (passes_one (told v j low Greater) _ _ _ ∙ greater low l)

  both_neighbours : low < length offsets → (low ≡ high → ⊥) → high < length offsets
      → meeting_by_entries F offsets low high s j ≡ (ltb (sample low) (sample j) && ltb (sample j) (sample high))
  unfolding meeting_by_entries test_by under_high_lem
  both_neighbours l e g =
      rw (inside, lt-ltb low (length v) (rw long l), ne_eqb low high e, lt-ltb high (length v) (rw long g))
      (passes_two (told v j low Greater) (told v j high Less) _ _ _ _ _ ∙ ap₂ ◌&&◌ (greater low l) (less high g))

-- ---- the test by offsets, likewise

module _ (F : List ℕ) (s : ℕ) (p : Step) where
  pub one_near : p.below ≡ p.above → step_test F s p ≡ eqb (get_or F (s + p.here) 0) (get_or F (s + p.below) 0)
  unfolding step_test
  one_near e = rw (eq-eqb p.below p.above e) refl

  pub self_near : p.below ≡ p.above → p.below ≡ p.here → step_test F s p ≡ true
  self_near e q = one_near e ∙ eq-eqb (get_or F (s + p.here) 0) (get_or F (s + p.below) 0) (ap (λ o. get_or F (s + o) 0) (sym q))

  pub high_near : (p.below ≡ p.above → ⊥) → p.below ≡ nowhere → step_test F s p ≡ ltb (get_or F (s + p.here) 0) (get_or F (s + p.above) 0)
  unfolding step_test
  high_near e n = rw (ne_eqb p.below p.above e, eq-eqb p.below nowhere n) refl

  pub low_near : (p.below ≡ p.above → ⊥) → (p.below ≡ nowhere → ⊥) → p.above ≡ nowhere → step_test F s p ≡ ltb (get_or F (s + p.below) 0) (get_or F (s + p.here) 0)
  unfolding step_test
  low_near e n m = rw (ne_eqb p.below p.above e, ne_eqb p.below nowhere n, eq-eqb p.above nowhere m) refl

  pub both_near : (p.below ≡ p.above → ⊥) → (p.below ≡ nowhere → ⊥) → (p.above ≡ nowhere → ⊥)
      → step_test F s p ≡ (ltb (get_or F (s + p.below) 0) (get_or F (s + p.here) 0) && ltb (get_or F (s + p.here) 0) (get_or F (s + p.above) 0))
  unfolding step_test
  both_near e n m = rw (ne_eqb p.below p.above e, ne_eqb p.below nowhere n, ne_eqb p.above nowhere m) refl

-- i columns along a row
moved : (F : List ℕ) (s i o : ℕ) → get_or F (s + i + o) 0 ≡ get_or F (s + o + i) 0
moved F s i o = ap (λ n. get_or F n 0) (let e : s + i + o ≡ s + o + i = omega arith in e)

module _ (F : List ℕ) (s i : ℕ) (p : Step) where
  pub one_along : p.below ≡ p.above → step_test F (s + i) p ≡ eqb (get_or F (s + p.here + i) 0) (get_or F (s + p.below + i) 0)
  one_along e = one_near F (s + i) p e ∙ ap₂ eqb (moved F s i p.here) (moved F s i p.below)

  pub high_along : (p.below ≡ p.above → ⊥) → p.below ≡ nowhere → step_test F (s + i) p ≡ ltb (get_or F (s + p.here + i) 0) (get_or F (s + p.above + i) 0)
  high_along e n = high_near F (s + i) p e n ∙ ap₂ ltb (moved F s i p.here) (moved F s i p.above)

  pub low_along : (p.below ≡ p.above → ⊥) → (p.below ≡ nowhere → ⊥) → p.above ≡ nowhere → step_test F (s + i) p ≡ ltb (get_or F (s + p.below + i) 0) (get_or F (s + p.here + i) 0)
  low_along e n m = low_near F (s + i) p e n m ∙ ap₂ ltb (moved F s i p.below) (moved F s i p.here)

  pub both_along : (p.below ≡ p.above → ⊥) → (p.below ≡ nowhere → ⊥) → (p.above ≡ nowhere → ⊥)
      → step_test F (s + i) p ≡ (ltb (get_or F (s + p.below + i) 0) (get_or F (s + p.here + i) 0) && ltb (get_or F (s + p.here + i) 0) (get_or F (s + p.above + i) 0))
  both_along e n m = both_near F (s + i) p e n m ∙ ap₂ ◌&&◌ (ap₂ ltb (moved F s i p.below) (moved F s i p.here)) (ap₂ ltb (moved F s i p.here) (moved F s i p.above))

-- ---- the two are one, if no two places have one offset, and none has that of none

pub record Apart (offsets : List Step) : Type 0 where
  pub distinct : (i j : ℕ) → i < length offsets → j < length offsets → here_at offsets i ≡ here_at offsets j → i ≡ j
  pub somewhere : (i : ℕ) → i < length offsets → here_at offsets i ≡ nowhere → ⊥

module _ (offsets : List Step) (j e other : ℕ) where
  pub near_there : e < length offsets → near_of offsets j e other ≡ here_at offsets e
  unfolding near_of
  near_there h = rw (lt-ltb e (length offsets) h) refl

  pub near_none : length offsets ≤ e → other < length offsets → near_of offsets j e other ≡ nowhere
  unfolding near_of
  near_none h g = rw (le-ltb e (length offsets) h, lt-ltb other (length offsets) g) refl

  pub near_self : length offsets ≤ e → length offsets ≤ other → near_of offsets j e other ≡ here_at offsets j
  unfolding near_of
  near_self h g = rw (le-ltb e (length offsets) h, le-ltb other (length offsets) g) refl

  -- read from the offsets
  pub near_read : {i : ℕ} → i ≡ e → i < length offsets → here_at offsets i ≡ near_of offsets j e other
  near_read {i} q h = ap (λ n. here_at offsets n) q ∙ sym (near_there (omega arith))

  pub near_past : {i o : ℕ} → i ≡ e → o ≡ other → length offsets ≤ i → o < length offsets → nowhere ≡ near_of offsets j e other
  near_past q p h g = sym (near_none (omega arith) (omega arith))

  pub near_own : {i o : ℕ} → i ≡ e → o ≡ other → length offsets ≤ i → length offsets ≤ o → here_at offsets j ≡ near_of offsets j e other
  near_own q p h g = sym (near_self (omega arith) (omega arith))

module _ (F : List ℕ) (offsets : List Step) (apart : Apart offsets) (low high s j : ℕ) (h : j < length offsets) where
  abbrev here : ℕ
  here = here_at offsets j

  abbrev lower : ℕ
  lower = near_of offsets j low high

  abbrev higher : ℕ
  higher = near_of offsets j high low

  same_steps : step_test F s (near_step offsets j low high) ≡ meeting_by_entries F offsets low high s j
  same_steps = go (ltb low (length offsets)) (ltb high (length offsets)) (eqb low high) refl refl refl
    where
      some_low : ltb low (length offsets) ≡ true → lower ≡ nowhere → ⊥
      some_low t q = let l = ltb-true low (length offsets) t in apart.somewhere low l (sym (near_there offsets j low high l) ∙ q)

      some_high : ltb high (length offsets) ≡ true → higher ≡ nowhere → ⊥
      some_high t q = let l = ltb-true high (length offsets) t in apart.somewhere high l (sym (near_there offsets j high low l) ∙ q)

      go : (a b c : Bool) → ltb low (length offsets) ≡ a → ltb high (length offsets) ≡ b → eqb low high ≡ c → step_test F s (near_step offsets j low high) ≡ meeting_by_entries F offsets low high s j
      go false false c a b e =
          let l = ltb-false low (length offsets) a in
          let g = ltb-false high (length offsets) b in
          self_near F s (near_step offsets j low high) (near_self offsets j low high l g ∙ sym (near_self offsets j high low g l)) (near_self offsets j low high l g) ∙
          sym (no_neighbour F offsets low high s j h l g)
      go false true c a b e =
          let l = ltb-false low (length offsets) a in
          let g = ltb-true high (length offsets) b in
          high_near F s (near_step offsets j low high) (λ q. some_high b (sym q ∙ near_none offsets j low high l g)) (near_none offsets j low high l g) ∙
          ap (λ o. ltb (get_or F (s + here) 0) (get_or F (s + o) 0)) (near_there offsets j high low g) ∙ sym (only_high F offsets low high s j h l g)
      go true b true a g e =
          let l = ltb-true low (length offsets) a in
          let q = eqb-true low high e in
          one_near F s (near_step offsets j low high) (near_there offsets j low high l ∙ ap (λ n. here_at offsets n) q ∙ sym (near_there offsets j high low (omega arith))) ∙
          ap (λ o. eqb (get_or F (s + here) 0) (get_or F (s + o) 0)) (near_there offsets j low high l) ∙ sym (one_neighbour F offsets low high s j h l q)
      go true false false a b e =
          let l = ltb-true low (length offsets) a in
          let g = ltb-false high (length offsets) b in
          low_near F s (near_step offsets j low high) (λ q. some_low a (q ∙ near_none offsets j high low g l)) (some_low a) (near_none offsets j high low g l) ∙
          ap (λ o. ltb (get_or F (s + o) 0) (get_or F (s + here) 0)) (near_there offsets j low high l) ∙ sym (only_low F offsets low high s j h l (eqb-false low high e) g)
      go true true false a b e =
          let l = ltb-true low (length offsets) a in
          let g = ltb-true high (length offsets) b in
          let q = eqb-false low high e in
          both_near F s (near_step offsets j low high) (λ z. q (apart.distinct low high l g (sym (near_there offsets j low high l) ∙ z ∙ near_there offsets j high low g))) (some_low a) (some_high b) ∙
          ap₂ (λ o p. ltb (get_or F (s + o) 0) (get_or F (s + here) 0) && ltb (get_or F (s + here) 0) (get_or F (s + p) 0)) (near_there offsets j low high l) (near_there offsets j high low g) ∙
          sym (both_neighbours F offsets low high s j h l q g)

-- ---- all places

module _ (P : List ℤ) (F : List ℕ) (offsets : List Step) (low high : List ℕ) (s : ℕ) (own : OwnNeighbours P low high) (same : length offsets ≡ length P) (apart : Apart offsets) where
  abbrev w : List ℤ
  w = seen F offsets s

  wide : length w ≡ length P
  unfolding seen
  wide = length-each (λ i. pos (get_or F (s + here_at offsets i) 0)) (length offsets) ∙ same

  -- by the pattern's own entries a test is the rules' test
  step_is : (j : ℕ) → j < length P → step_passes_lem F (near_steps offsets low high) s j ≡ passes (test_of P w j)
  unfolding step_passes_lem meeting_by_entries near_steps
  step_is j h =
      let few : length P ≤ pattern_limit = own.limit in
      let i : j < length offsets = rw same h in
      ap (step_test F s) (get_or-each (λ j. near_step offsets j (get_or low j 0) (get_or high j 0)) (length offsets) j no_step i) ∙
      same_steps F offsets apart (get_or low j 0) (get_or high j 0) s j i ∙
      ap passes (test_by_own P w j (rw wide h) (rw wide (omega arith)) (own.low_own j h) (own.high_own j h))

  abbrev step : ℕ → Bool
  step j = step_passes_lem F (near_steps offsets low high) s j

  pub all_as_iso : pass_by_tables F offsets low high s ≡ is_iso P (seen F offsets s)
  unfolding pass_by_tables pass_below near_steps
  all_as_iso =
      ap (λ n. all_below n step) (length-each (λ j. near_step offsets j (get_or low j 0) (get_or high j 0)) (length offsets)) ∙
      same_test (all_below (length offsets) step) (is_iso P w)
      (λ e. iso_computed P w (whole (tests_iso P w (length P) (omega arith) (rw wide (omega arith)) (λ j g. sym (step_is j g) ∙ pass_each (length offsets) step e j (rw same g)))))
      (λ e. all_pass (length offsets) step (λ j g. let k : j < length P = rw same at g in step_is j k ∙ iso_tests P w (length P) (omega arith) (part (computed_iso P w e)) j k))
    where
      fully : take (length P) w ≡ w
      fully = ap (λ n. take n w) (sym wide) ∙ take-length w

      whole : Iso (take (length P) P) (take (length P) w) → Iso P w
      whole i = subst (λ (u : List ℤ). Iso P u) fully (subst (λ (u : List ℤ). Iso u (take (length P) w)) (take-length P) i)

      part : Iso P w → Iso (take (length P) P) (take (length P) w)
      part i = subst (λ (u : List ℤ). Iso u (take (length P) w)) (sym (take-length P)) (subst (λ (u : List ℤ). Iso P u) (sym fully) i)
