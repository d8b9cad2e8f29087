-- Shows: a list passes the tests of all places below k exactly if it stands in the pattern's order as far as that;
-- a test costs at most 2 comparisons, and place 0's costs none; a test that fails does so at an earlier place, which
-- compares differently; and a test's outcome depends only on how v compares there.
-- Assumes nothing.
use Prim.Native.Nat.{ℕ, zero, suc, ◌+◌, ◌≤◌, ◌<◌}
use mathlib.Core.Path.{◌≡◌, refl, sym, ◌∙◌, ap, ap₂, subst}
use mathlib.Core.List.{List}
use mathlib.Core.Bool.{Bool, true, false, cond}
use native.Mathlib.Omega.{arith}
use lib.IntN.{ℤ, pos}
use lib.ListN.{length, take}
use lib.Seq.{get_or-take, length-take-le}
use lib.Signed.{le_z}
use borrow.Author.Tests.{eqb-true}
use Rattle.order.specs.declared.steps.Tested.{Tested}
use Rattle.order.specs.declared.steps.Tested.TheVariants.{Passed, Failed}
use Rattle.order.specs.Sizes.{Spot, none, place, as_place, at}
use Rattle.order.specs.Relations.{rel}
use Rattle.order.specs.Isomorphic.{Iso}
use Rattle.order.specs.Neighbours.{nearest, low_of, high_of}
use Rattle.order.specs.PlaceTest.{matches, is_same_spot, against, then_high, test_of, passes, cost, failed_at}
use Rattle.order.proofs.Tests.{clash, same_test}
use Rattle.order.proofs.Orders.{alike_same, alike_refl, same_tests_alike, alike-tests, le_z_refl}
use Rattle.order.proofs.Lists.{below_suc}
use Rattle.order.proofs.Nearest.{Ordering, upward, flipped, turned, Neighbour, low_is, high_is}

-- ---- a test by its neighbours

-- v compares at a spot as the pattern does
abbrev pub MatchesAt : List ℤ → List ℤ → ℕ → Spot → Type 0
MatchesAt P v j s = (i : ℕ) → s ≡ place i → rel (at v j) (at v i) ≡ rel (at P j) (at P i)

same_spots : (s t : Spot) → is_same_spot s t ≡ true → s ≡ t
unfolding is_same_spot
same_spots none none e = refl
same_spots none (place j) e = clash e refl
same_spots (place i) none e = clash e refl
same_spots (place i) (place j) e = ap place (eqb-true i j e)

module _ (P v : List ℤ) (j : ℕ) where
  matches-alike : (i : ℕ) → rel (at v j) (at v i) ≡ rel (at P j) (at P i) → matches P v j i ≡ true
  unfolding matches
  matches-alike i e = rw e (alike_refl (rel (at P j) (at P i)))

  alike-matches : (i : ℕ) → matches P v j i ≡ true → rel (at v j) (at v i) ≡ rel (at P j) (at P i)
  unfolding matches
  alike-matches i e = alike_same _ _ e

  against-passes : (c : ℕ) (s : Spot) → MatchesAt P v j s → passes (against P v j c s) ≡ true
  unfolding against passes
  against-passes c none f = refl
  against-passes c (place i) f = rw (matches-alike i (f i refl)) refl

  passes-against : (c : ℕ) (s : Spot) → passes (against P v j c s) ≡ true → MatchesAt P v j s
  unfolding against passes
  passes-against c none e = λ i h. let z : ◌≡◌ {A = ℕ} 0 1 = cc in absurd (omega arith)
  passes-against c (place k) e = λ i h. subst (λ n. rel (at v j) (at v n) ≡ rel (at P j) (at P n)) (ap unplace h) (alike-matches k (go (matches P v j k) e))
    where
      unplace : Spot → ℕ
      unplace none = 0
      unplace (place n) = n

      go : (t : Bool) → passes (cond t (Passed (c + 1)) (Failed (c + 1) (as_place k))) ≡ true → t ≡ true
      go true e = refl
      go false e = e

  then_passes : (low high : Spot) (r : Tested) → passes r ≡ true → MatchesAt P v j high → passes (then_high P v j low high r) ≡ true
  unfolding then_high passes
  then_passes low high (Failed c i) e f = e
  then_passes low high (Passed c) e f = go (is_same_spot low high)
    where
      go : (t : Bool) → passes (cond t (Passed c) (against P v j c high)) ≡ true
      go true = refl
      go false = against-passes c high f

  passes-first : (low high : Spot) (r : Tested) → passes (then_high P v j low high r) ≡ true → passes r ≡ true
  unfolding then_high passes
  passes-first low high (Failed c i) e = e
  passes-first low high (Passed c) e = refl

  passes_then : (low high : Spot) (r : Tested) → passes (then_high P v j low high r) ≡ true → MatchesAt P v j low → MatchesAt P v j high
  unfolding then_high passes
  passes_then low high (Failed c i) e f = clash e refl
  passes_then low high (Passed c) e f = go (is_same_spot low high) refl e
    where
      go : (t : Bool) → is_same_spot low high ≡ t → passes (cond t (Passed c) (against P v j c high)) ≡ true → MatchesAt P v j high
      go true s p = subst (MatchesAt P v j) (same_spots low high s) f
      go false s p = passes-against c high p

  -- a test passes exactly if v compares at both neighbours as the pattern does
  pub test_passes : MatchesAt P v j (low_of P j) → MatchesAt P v j (high_of P j) → passes (test_of P v j) ≡ true
  unfolding test_of
  test_passes f g = then_passes (low_of P j) (high_of P j) (against P v j 0 (low_of P j)) (against-passes 0 (low_of P j) f) g

  pub pass_low : passes (test_of P v j) ≡ true → MatchesAt P v j (low_of P j)
  unfolding test_of
  pass_low e = passes-against 0 (low_of P j) (passes-first (low_of P j) (high_of P j) (against P v j 0 (low_of P j)) e)

  pub pass_high : passes (test_of P v j) ≡ true → MatchesAt P v j (high_of P j)
  unfolding test_of
  pass_high e = passes_then (low_of P j) (high_of P j) (against P v j 0 (low_of P j)) e (pass_low e)

  -- ---- what a test costs

  against-cost : (c : ℕ) (s : Spot) → cost (against P v j c s) ≤ c + 1
  unfolding against cost
  against-cost c none = omega arith
  against-cost c (place i) = go (matches P v j i)
    where
      go : (t : Bool) → cost (cond t (Passed (c + 1)) (Failed (c + 1) (as_place i))) ≤ c + 1
      go true = omega arith
      go false = omega arith

  then_cost : (low high : Spot) (r : Tested) → cost r ≤ 1 → cost (then_high P v j low high r) ≤ 2
  unfolding then_high cost
  then_cost low high (Failed c i) h = omega arith
  then_cost low high (Passed c) h = go (is_same_spot low high)
    where
      go : (t : Bool) → cost (cond t (Passed c) (against P v j c high)) ≤ 2
      go true = omega arith
      go false = let k : cost (against P v j c high) ≤ c + 1 = against-cost c high in omega arith

  pub test_cost : cost (test_of P v j) ≤ 2
  unfolding test_of
  test_cost = then_cost (low_of P j) (high_of P j) (against P v j 0 (low_of P j)) (against-cost 0 (low_of P j))

pub first_place_free : (P v : List ℤ) → test_of P v 0 ≡ Passed 0
unfolding test_of low_of high_of nearest against then_high is_same_spot
first_place_free P v = refl

-- ---- tests and isomorphism

-- two lists stand in the same order below k
abbrev pub Ordered : (ℤ → ℤ → Bool) → List ℤ → List ℤ → ℕ → Type 0
Ordered le P v k = (i j : ℕ) → i < k → j < k → le (at P i) (at P j) ≡ le (at v i) (at v j)

-- v stands to a spot as the pattern does, by both tests
abbrev Tells : (ℤ → ℤ → Bool) → List ℤ → List ℤ → ℕ → Spot → Type 0
Tells le P v j s = (k : ℕ) → s ≡ place k → (le (at P k) (at P j) ≡ le (at v k) (at v j)) × (le (at P j) (at P k) ≡ le (at v j) (at v k))

-- where place j stands to both neighbours alike, it stands to every earlier place alike
module _ {le : ℤ → ℤ → Bool} (o : Ordering le) (P v : List ℤ) (j : ℕ) (f : Ordered le P v j) where
  upwards : (s : Spot) → Neighbour le P j j s → Tells le P v j s → (i : ℕ) → i < j → le (at P i) (at P j) ≡ true → le (at v i) (at v j) ≡ true
  upwards none n t i h e = clash e (n i h)
  upwards (place k) n t i h e =
      o.trans (at v i) (at v k) (at v j)
      (sym (f i k h n.below) ∙ n.best i h e)
      (sym (t k refl).0 ∙ n.side)

  downwards : (s : Spot) → Neighbour (flipped le) P j j s → Tells le P v j s → (i : ℕ) → i < j → le (at v i) (at v j) ≡ true → le (at P i) (at P j) ≡ false → le (at P i) (at P j) ≡ true
  downwards none n t i h e fails = clash (o.total (at P i) (at P j) fails) (n i h)
  downwards (place k) n t i h e fails = o.trans (at P i) (at P k) (at P j) i_k k_j
    where
      above : le (at P j) (at P i) ≡ true
      above = o.total (at P i) (at P j) fails

      k_i : le (at v k) (at v i) ≡ true
      k_i = sym (f k i n.below h) ∙ n.best i h above

      i_k : le (at P i) (at P k) ≡ true
      i_k = f i k h n.below ∙ o.trans (at v i) (at v j) (at v k) e (sym (t k refl).1 ∙ n.side)

      k_j : le (at P k) (at P j) ≡ true
      k_j = (t k refl).0 ∙ o.trans (at v k) (at v i) (at v j) k_i e

  pub stands_alike : (near far : Spot) → Neighbour le P j j near → Neighbour (flipped le) P j j far → Tells le P v j near → Tells le P v j far
      → (i : ℕ) → i < j → le (at P i) (at P j) ≡ le (at v i) (at v j)
  stands_alike near far n m s t i h =
      same_test (le (at P i) (at P j)) (le (at v i) (at v j)) (upwards near n s i h) (λ e. go e (le (at P i) (at P j)) refl)
    where
      go : le (at v i) (at v j) ≡ true → (b : Bool) → le (at P i) (at P j) ≡ b → le (at P i) (at P j) ≡ true
      go e true w = w
      go e false w = downwards far m t i h e w

-- every place below k passes its test
abbrev pub AllPass : List ℤ → List ℤ → ℕ → Type 0
AllPass P v k = (j : ℕ) → j < k → passes (test_of P v j) ≡ true

matches_tells : (P v : List ℤ) (j : ℕ) (s : Spot) → MatchesAt P v j s → Tells le_z P v j s
matches_tells P v j s f k e =
    let both = alike-tests (at v j) (at v k) (at P j) (at P k) (f k e) in
    (sym both.1, sym both.0)

pub order_more : (P v : List ℤ) (j : ℕ) → Ordered le_z P v j → passes (test_of P v j) ≡ true → Ordered le_z P v (suc j)
order_more P v j f e i k hi hk =
    below_suc (λ i. (k : ℕ) → k < suc j → le_z (at P i) (at P k) ≡ le_z (at v i) (at v k)) j
    (λ i h. below_suc (λ k. le_z (at P i) (at P k) ≡ le_z (at v i) (at v k)) j (λ k g. f i k h g) (from_left i h))
    (below_suc (λ k. le_z (at P j) (at P k) ≡ le_z (at v j) (at v k)) j from_right itself)
    i hi k hk
  where
    low : Tells le_z P v j (low_of P j)
    low = matches_tells P v j (low_of P j) (pass_low P v j e)

    high : Tells le_z P v j (high_of P j)
    high = matches_tells P v j (high_of P j) (pass_high P v j e)

    turn : (s : Spot) → Tells le_z P v j s → Tells (flipped le_z) P v j s
    turn s t k w = ((t k w).1, (t k w).0)

    from_left : (i : ℕ) → i < j → le_z (at P i) (at P j) ≡ le_z (at v i) (at v j)
    from_left = stands_alike upward P v j f (low_of P j) (high_of P j) (low_is P j) (high_is P j) low high

    from_right : (i : ℕ) → i < j → le_z (at P j) (at P i) ≡ le_z (at v j) (at v i)
    from_right =
        stands_alike (turned upward) P v j (λ i k h g. f k i g h) (high_of P j) (low_of P j) (high_is P j) (low_is P j)
        (turn (high_of P j) high) (turn (low_of P j) low)

    itself : le_z (at P j) (at P j) ≡ le_z (at v j) (at v j)
    itself = le_z_refl (at P j) ∙ sym (le_z_refl (at v j))

pub passes-order : (P v : List ℤ) (k : ℕ) → AllPass P v k → Ordered le_z P v k
passes-order P v zero f = λ i j h g. absurd (omega arith)
passes-order P v (suc k) f = order_more P v k (passes-order P v k (λ j h. f j (omega arith))) (f k (omega arith))

-- a neighbour is an earlier place
earlier : (le : ℤ → ℤ → Bool) (P : List ℤ) (j : ℕ) (s : Spot) → Neighbour le P j j s → (i : ℕ) → s ≡ place i → i < j
earlier le P j none n i e = let z : ◌≡◌ {A = ℕ} 0 1 = cc in absurd (omega arith)
earlier le P j (place k) n i e = let same : k ≡ i = cc in let h : k < j = n.below in omega arith

pub low_earlier : (P : List ℤ) (j i : ℕ) → low_of P j ≡ place i → i < j
low_earlier P j i e = earlier le_z P j (low_of P j) (low_is P j) i e

pub high_earlier : (P : List ℤ) (j i : ℕ) → high_of P j ≡ place i → i < j
high_earlier P j i e = earlier (flipped le_z) P j (high_of P j) (high_is P j) i e

pub order-passes : (P v : List ℤ) (j : ℕ) → Ordered le_z P v (suc j) → passes (test_of P v j) ≡ true
order-passes P v j f = test_passes P v j (at_earlier (low_of P j) (low_earlier P j)) (at_earlier (high_of P j) (high_earlier P j))
  where
    at_earlier : (s : Spot) → ((i : ℕ) → s ≡ place i → i < j) → MatchesAt P v j s
    at_earlier s g i e =
        let h : i < j = g i e in
        same_tests_alike (at v j) (at v i) (at P j) (at P i) (sym (f j i (omega arith) (omega arith))) (sym (f i j (omega arith) (omega arith)))

-- order below k is isomorphism of the first k values
pub order_iso : (P v : List ℤ) (k : ℕ) → k ≤ length P → k ≤ length v → Ordered le_z P v k → Iso (take k P) (take k v)
order_iso P v k p q f =
    record {
      lengths = length-take-le k P p ∙ sym (length-take-le k v q);
      order = λ i j h g.
          let hi : i < k = rw (length-take-le k P p) at h in
          let hj : j < k = rw (length-take-le k P p) at g in
          ap₂ le_z (get_or-take k P i (pos 0) hi) (get_or-take k P j (pos 0) hj) ∙ f i j hi hj ∙
          sym (ap₂ le_z (get_or-take k v i (pos 0) hi) (get_or-take k v j (pos 0) hj));
    }

pub iso_order : (P v : List ℤ) (k : ℕ) → k ≤ length P → Iso (take k P) (take k v) → Ordered le_z P v k
iso_order P v k p e i j hi hj =
    sym (ap₂ le_z (get_or-take k P i (pos 0) hi) (get_or-take k P j (pos 0) hj)) ∙
    e.order i j (rw (length-take-le k P p) hi) (rw (length-take-le k P p) hj) ∙
    ap₂ le_z (get_or-take k v i (pos 0) hi) (get_or-take k v j (pos 0) hj)

-- a list passes the tests of all places below k exactly if it stands in the pattern's order as far as that
pub tests_iso : (P v : List ℤ) (k : ℕ) → k ≤ length P → k ≤ length v → AllPass P v k → Iso (take k P) (take k v)
tests_iso P v k p q f = order_iso P v k p q (passes-order P v k f)

pub iso_tests : (P v : List ℤ) (k : ℕ) → k ≤ length P → Iso (take k P) (take k v) → AllPass P v k
iso_tests P v k p e j h = order-passes P v j (λ i l hi hl. iso_order P v k p e i l (omega arith) (omega arith))

-- a test's outcome depends only on how v compares at the earlier places
against_depends : (P v w : List ℤ) (j c : ℕ) (s : Spot) → ((i : ℕ) → s ≡ place i → rel (at v j) (at v i) ≡ rel (at w j) (at w i)) → against P v j c s ≡ against P w j c s
unfolding against matches
against_depends P v w j c none f = refl
against_depends P v w j c (place i) f = rw (f i refl) refl

then_depends : (P v w : List ℤ) (j : ℕ) (low high : Spot) (r : Tested) → ((i : ℕ) → high ≡ place i → rel (at v j) (at v i) ≡ rel (at w j) (at w i)) → then_high P v j low high r ≡ then_high P w j low high r
unfolding then_high
then_depends P v w j low high (Failed c i) f = refl
then_depends P v w j low high (Passed c) f = rw (against_depends P v w j c high f) refl

-- on how it compares with the two neighbours' places alone
pub test_by_neighbours : (P v w : List ℤ) (j : ℕ) → ((i : ℕ) → low_of P j ≡ place i → rel (at v j) (at v i) ≡ rel (at w j) (at w i))
    → ((i : ℕ) → high_of P j ≡ place i → rel (at v j) (at v i) ≡ rel (at w j) (at w i)) → test_of P v j ≡ test_of P w j
unfolding test_of
test_by_neighbours P v w j f g =
    ap (then_high P v j (low_of P j) (high_of P j)) (against_depends P v w j 0 (low_of P j) f) ∙
    then_depends P v w j (low_of P j) (high_of P j) (against P w j 0 (low_of P j)) g

pub test_depends : (P v w : List ℤ) (j : ℕ) → ((i : ℕ) → i < j → rel (at v j) (at v i) ≡ rel (at w j) (at w i)) → test_of P v j ≡ test_of P w j
test_depends P v w j f = test_by_neighbours P v w j (λ i e. f i (low_earlier P j i e)) (λ i e. f i (high_earlier P j i e))

-- a test that fails does so at an earlier place, which compares differently
pub record FailsAt (P v : List ℤ) (j i : ℕ) : Type 0 where
  pub earlier : i < j
  pub differs : rel (at v j) (at v i) ≡ rel (at P j) (at P i) → ⊥

-- what an outcome says of its failure
abbrev Outcome : List ℤ → List ℤ → ℕ → Tested → Type 0
Outcome P v j (Passed c) = Unit {0}
Outcome P v j (Failed c i) = FailsAt P v j i.0

against_fails : (P v : List ℤ) (j c : ℕ) (s : Spot) → ((i : ℕ) → s ≡ place i → i < j) → Outcome P v j (against P v j c s)
unfolding against
against_fails P v j c none f = tt
against_fails P v j c (place i) f = go (matches P v j i) refl
  where
    go : (t : Bool) → matches P v j i ≡ t → Outcome P v j (cond t (Passed (c + 1)) (Failed (c + 1) (as_place i)))
    go true e = tt
    go false e = record { earlier = f i refl; differs = λ d. clash (matches-alike P v j i d) e }

then_fails : (P v : List ℤ) (j : ℕ) (low high : Spot) (r : Tested) → ((i : ℕ) → high ≡ place i → i < j) → Outcome P v j r → Outcome P v j (then_high P v j low high r)
unfolding then_high
then_fails P v j low high (Failed c i) f o = o
then_fails P v j low high (Passed c) f o = go (is_same_spot low high)
  where
    go : (t : Bool) → Outcome P v j (cond t (Passed c) (against P v j c high))
    go true = tt
    go false = against_fails P v j c high f

test_fails : (P v : List ℤ) (j : ℕ) → Outcome P v j (test_of P v j)
unfolding test_of
test_fails P v j =
    then_fails P v j (low_of P j) (high_of P j) (against P v j 0 (low_of P j)) (high_earlier P j) (against_fails P v j 0 (low_of P j) (low_earlier P j))

failed : (P v : List ℤ) (j : ℕ) (r : Tested) → Outcome P v j r → passes r ≡ false → (i : ℕ) × (failed_at r ≡ place i) × FailsAt P v j i
unfolding passes failed_at
failed P v j (Passed c) o e = clash refl e
failed P v j (Failed c i) o e = (i.0, refl, o)

pub fails_at : (P v : List ℤ) (j : ℕ) → passes (test_of P v j) ≡ false → (i : ℕ) × (failed_at (test_of P v j) ≡ place i) × FailsAt P v j i
fails_at P v j e = failed P v j (test_of P v j) (test_fails P v j) e
