-- Shows: the test of a place by its neighbours' entries alone. Where the two entries are one, the pattern's value is equal
-- there; otherwise it lies strictly above the low neighbour's and strictly below the high one's.
-- Assumes nothing.
use mathlib.Core.Path.{◌≡◌, refl, sym, ◌∙◌, ap, ap₂, subst}
use mathlib.Core.List.{List}
use mathlib.Core.Bool.{Bool, true, false, cond}
use Prim.Native.Nat.{ℕ, ◌+◌, ◌≤◌, ◌<◌}
use native.Mathlib.Omega.{arith}
use lib.IntN.{ℤ}
use lib.ListN.{length}
use lib.Signed.{le_z}
use lib.Dec.{ltb, eqb}
use borrow.Author.Tests.{eq-eqb, ne_eqb, eqb-true, eqb-false, lt-ltb, le-ltb}
use Rattle.std.specs.declared.cmp.Ordering.{Ordering}
use Rattle.std.specs.declared.cmp.Ordering.TheVariants.{Less, Equal, Greater}
use Rattle.order.specs.declared.steps.Tested.TheVariants.{Passed, Failed}
use Rattle.order.specs.Sizes.{Spot, none, place, as_place, at, entry, no_place}
use Rattle.order.specs.Relations.{rel, alike}
use Rattle.order.specs.Neighbours.{low_of, high_of}
use Rattle.order.specs.PlaceTest.{matches, is_same_spot, against, then_high, test_of}
use Rattle.order.specs.EntryTest.{told, under_high_lem, test_by}
use Rattle.order.proofs.Tests.{must_fail}
use Rattle.order.proofs.Nearest.{Near, Neighbour, flipped, low_is, high_is, equal_earlier}
use Rattle.order.proofs.PlaceTests.{low_earlier, high_earlier}

-- ---- how place j compares with its neighbours

module _ (P : List ℤ) (j i : ℕ) where
  low_near : low_of P j ≡ place i → Near le_z P j j i
  low_near e = subst (Neighbour le_z P j j) e (low_is P j)

  high_near : high_of P j ≡ place i → Near (flipped le_z) P j j i
  high_near e = subst (Neighbour (flipped le_z) P j j) e (high_is P j)

  both_equal : low_of P j ≡ place i → high_of P j ≡ place i → rel (at P j) (at P i) ≡ Equal
  unfolding rel
  both_equal l h = rw ((high_near h).side, (low_near l).side) refl

  above_low : low_of P j ≡ place i → (low_of P j ≡ high_of P j → ⊥) → rel (at P j) (at P i) ≡ Greater
  unfolding rel
  above_low l f =
      rw (must_fail (le_z (at P j) (at P i)) (λ t. f (equal_earlier P j i (low_near l).below (low_near l).side t))) refl

  below_high : high_of P j ≡ place i → (low_of P j ≡ high_of P j → ⊥) → rel (at P j) (at P i) ≡ Less
  unfolding rel
  below_high h f =
      rw ((high_near h).side, must_fail (le_z (at P i) (at P j)) (λ t. f (equal_earlier P j i (high_near h).below t (high_near h).side))) refl

-- ---- the test, by what the two spots are

module _ (P v : List ℤ) (j : ℕ) where
  -- one comparison, of a relation that is known
  against-known : (c i : ℕ) (r : Ordering) (t : Bool) → rel (at P j) (at P i) ≡ r → alike (rel (at v j) (at v i)) r ≡ t →
      against P v j c (place i) ≡ cond t (Passed (c + 1)) (Failed (c + 1) (as_place i))
  unfolding against matches
  against-known c i r t e h = rw (e, h) refl

  test_as : (low high : Spot) → low_of P j ≡ low → high_of P j ≡ high →
      test_of P v j ≡ then_high P v j low high (against P v j 0 low)
  unfolding test_of
  test_as low high l h = rw (l, h) refl

  no_neighbour : low_of P j ≡ none → high_of P j ≡ none → test_of P v j ≡ Passed 0
  unfolding then_high against is_same_spot
  no_neighbour l h = test_as none none l h

  one_neighbour : (i : ℕ) (t : Bool) → low_of P j ≡ place i → high_of P j ≡ place i → alike (rel (at v j) (at v i)) Equal ≡ t →
      test_of P v j ≡ cond t (Passed 1) (Failed 1 (as_place i))
  unfolding then_high is_same_spot
  one_neighbour i t l h e =
      test_as (place i) (place i) l h ∙
      ap (then_high P v j (place i) (place i)) (against-known 0 i Equal t (both_equal P j i l h) e) ∙ end t
    where
      end : (t : Bool) → then_high P v j (place i) (place i) (cond t (Passed 1) (Failed 1 (as_place i))) ≡ cond t (Passed 1) (Failed 1 (as_place i))
      end true = rw (eq-eqb i i refl) refl
      end false = refl

  only_high : (i : ℕ) (t : Bool) → low_of P j ≡ none → high_of P j ≡ place i → alike (rel (at v j) (at v i)) Less ≡ t →
      test_of P v j ≡ cond t (Passed 1) (Failed 1 (as_place i))
  unfolding then_high is_same_spot against
  only_high i t l h e =
      test_as none (place i) l h ∙ against-known 0 i Less t (below_high P j i h (λ q. let z : ◌≡◌ {A = ℕ} 0 1 = cc in omega arith)) e

  low_fails : (i : ℕ) (high : Spot) → low_of P j ≡ place i → high_of P j ≡ high → (place i ≡ high → ⊥) → alike (rel (at v j) (at v i)) Greater ≡ false →
      test_of P v j ≡ Failed 1 (as_place i)
  unfolding then_high
  low_fails i high l h f e =
      test_as (place i) high l h ∙
      ap (then_high P v j (place i) high) (against-known 0 i Greater false (above_low P j i l (λ q. f (sym l ∙ q ∙ h))) e)

  only_low : (i : ℕ) → low_of P j ≡ place i → high_of P j ≡ none → alike (rel (at v j) (at v i)) Greater ≡ true →
      test_of P v j ≡ Passed 1
  unfolding then_high is_same_spot against
  only_low i l h e =
      test_as (place i) none l h ∙
      ap (then_high P v j (place i) none) (against-known 0 i Greater true (above_low P j i l (λ q. let z : ◌≡◌ {A = ℕ} 0 1 = cc in omega arith)) e) ∙ end
    where
      end : then_high P v j (place i) none (Passed 1) ≡ Passed 1
      end = refl

  both : (i k : ℕ) (t : Bool) → low_of P j ≡ place i → high_of P j ≡ place k → (i ≡ k → ⊥) →
      alike (rel (at v j) (at v i)) Greater ≡ true → alike (rel (at v j) (at v k)) Less ≡ t →
      test_of P v j ≡ cond t (Passed 2) (Failed 2 (as_place k))
  unfolding then_high is_same_spot
  both i k t l h f e g =
      test_as (place i) (place k) l h ∙
      ap (then_high P v j (place i) (place k)) (against-known 0 i Greater true (above_low P j i l apart) e) ∙
      then_high_lem ∙ against-known 1 k Less t (below_high P j k h apart) g
    where
      apart : low_of P j ≡ high_of P j → ⊥
      apart q = f (unplace (sym l ∙ q ∙ h))
        where
          unplace : place i ≡ place k → i ≡ k
          unplace w = cc

      then_high_lem : then_high P v j (place i) (place k) (Passed 1) ≡ against P v j 1 (place k)
      then_high_lem = rw (ne_eqb i k f) refl

-- ---- the test, by the two entries

-- v has place j, and its length tells "none" from a place
module _ (P v : List ℤ) (j : ℕ) (inside : j < length v) (short : length v ≤ no_place) where
  within : {i : ℕ} → i < j → ltb i (length v) ≡ true
  within {i} h = lt-ltb i (length v) (omega arith)

  no_such : ltb no_place (length v) ≡ false
  no_such = le-ltb no_place (length v) short

  by_spots : (low high : Spot) → low_of P j ≡ low → high_of P j ≡ high → test_by v (entry low) (entry high) j ≡ test_of P v j
  unfolding test_by under_high_lem entry
  by_spots none none l h = rw (lt-ltb j (length v) inside, no_such) (sym (no_neighbour P v j l h))
  by_spots none (place k) l h =
      rw (lt-ltb j (length v) inside, no_such, within (high_earlier P j k h)) (sym (only_high P v j k (told v j k Less) l h refl))
  by_spots (place i) none l h =
      let e : i < j = low_earlier P j i l in
      let apart : i ≡ no_place → ⊥ = λ q. omega arith in
      rw (lt-ltb j (length v) inside, within e, ne_eqb i no_place apart, no_such) (go (told v j i Greater) refl)
    where
      go : (t : Bool) → told v j i Greater ≡ t → cond t (Passed 1) (Failed 1 (as_place i)) ≡ test_of P v j
      go true e = sym (only_low P v j i l h e)
      go false e = sym (low_fails P v j i none l h (λ q. let z : ◌≡◌ {A = ℕ} 0 1 = cc in omega arith) e)
  by_spots (place i) (place k) l h =
      rw (lt-ltb j (length v) inside, within (low_earlier P j i l), within (high_earlier P j k h)) (go (eqb i k) refl)
    where
      unplace : place i ≡ place k → i ≡ k
      unplace w = cc

      both_there : (i ≡ k → ⊥) → (t : Bool) → told v j i Greater ≡ t →
          cond t (cond (told v j k Less) (Passed 2) (Failed 2 (as_place k))) (Failed 1 (as_place i)) ≡ test_of P v j
      both_there f true e = sym (both P v j i k (told v j k Less) l h f e refl)
      both_there f false e = sym (low_fails P v j i (place k) l h (λ q. f (unplace q)) e)

      go : (t : Bool) → eqb i k ≡ t →
          cond t (cond (told v j i Equal) (Passed 1) (Failed 1 (as_place i)))
          (cond (told v j i Greater) (cond (told v j k Less) (Passed 2) (Failed 2 (as_place k))) (Failed 1 (as_place i))) ≡ test_of P v j
      go true e = sym (one_neighbour P v j i (told v j i Equal) l (h ∙ ap place (sym (eqb-true i k e))) refl)
      go false e = both_there (eqb-false i k e) (told v j i Greater) refl

  -- by the pattern's own entries it is the rules' test
  pub test_by_own : {low high : ℕ} → low ≡ entry (low_of P j) → high ≡ entry (high_of P j) → test_by v low high j ≡ test_of P v j
  test_by_own l h = ap₂ (λ a b. test_by v a b j) l h ∙ by_spots (low_of P j) (high_of P j) refl refl
