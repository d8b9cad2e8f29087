-- Shows: inside a stretch that stands in the order of the pattern's first places, an offset's tests come out as they do that
-- far from the stretch's start (Jargalsaikhan 2022, Lemma 3.22); so up to the stretch's end the witness is the same, and
-- where there is none, testing starts at the end. An offset that was tested gives a stretch up to its first failing place.
-- Assumes nothing.
use mathlib.Core.Path.{◌≡◌, refl, sym, ◌∙◌, ap, ap₂}
use mathlib.Core.List.{List}
use Prim.Native.Nat.{ℕ, ◌+◌, ◌-◌, ◌≤◌, ◌<◌}
use native.Mathlib.Omega.{arith}
use lib.IntN.{ℤ, pos}
use lib.ListN.{length, drop}
use lib.Seq.{get_or-drop}
use lib.Signed.{le_z}
use Rattle.order.specs.Sizes.{Spot, none, place, at, entry, pattern_limit, no_place}
use Rattle.order.specs.Relations.{rel}
use Rattle.order.specs.PlaceTest.{test_of, passes, failed_at}
use Rattle.order.specs.Witnesses.{first_fail, neighbour_at, witness_i_of, witness_j_of}
use Rattle.order.proofs.Orders.{same_tests_alike}
use Rattle.order.proofs.PlaceTests.{AllPass, Ordered, passes-order, test_depends}
use Rattle.order.proofs.Witnessing.{no_fail, all_pass_none, FirstFail, first_fail_lem, fail_first, offset_zero, none_together}
use Rattle.tables.specs.Inside.Asked.{OwnWitness, KnownBelow, Stretched}
use Rattle.order.proofs.Entries.{entry_none, entry_place, entry_of_place, entry_of_none}

-- place k of the pattern from a on
module _ (P : List ℤ) where
  from_on : (a k : ℕ) → at (drop a P) k ≡ at P (a + k)
  from_on a k = get_or-drop a P k (pos 0)

  -- two places from a on compare as the two that far from the stretch's start
  compare_alike : (a start len : ℕ) → start ≤ a → AllPass P (drop start P) len → (j i : ℕ) → a - start + j < len → a - start + i < len →
      rel (at (drop a P) j) (at (drop a P) i) ≡ rel (at (drop (a - start) P) j) (at (drop (a - start) P) i)
  compare_alike a start len h pass j i p q =
      ap₂ rel (over-start j) (over-start i) ∙ sym alike ∙ sym (ap₂ rel (from_on (a - start) j) (from_on (a - start) i))
    where
      over-start : (k : ℕ) → at (drop a P) k ≡ at (drop start P) (a - start + k)
      over-start k =
          let same : a + k ≡ start + (a - start + k) = omega arith in
          from_on a k ∙ ap (at P) same ∙ sym (from_on start (a - start + k))

      ordered : Ordered le_z P (drop start P) len
      ordered = passes-order P (drop start P) len pass

      alike : rel (at P (a - start + j)) (at P (a - start + i)) ≡ rel (at (drop start P) (a - start + j)) (at (drop start P) (a - start + i))
      alike = same_tests_alike _ _ _ _ (ordered (a - start + j) (a - start + i) p q) (ordered (a - start + i) (a - start + j) q p)

-- that far from the stretch's start is an earlier offset
pub earlier : {P : List ℤ} {a start end : ℕ} → Stretched P a start end → a - start < a
earlier s = omega (arith, s.later, s.reached)

-- an offset a inside the stretch
module _ {P : List ℤ} {a start end : ℕ} (s : Stretched P a start end) (inside : a < end) where
  -- the law of the stretch
  pub tests-alike : (j : ℕ) → j < end - a → test_of P (drop a P) j ≡ test_of P (drop (a - start) P) j
  tests-alike j h =
      test_depends P (drop a P) (drop (a - start) P) j
      (λ i less. compare_alike P a start (end - start) s.reached (no_fail P (drop start P) (end - start) s.in_order) j i (omega arith) (omega arith))

  passes-alike : (j : ℕ) → j < end - a → passes (test_of P (drop a P) j) ≡ passes (test_of P (drop (a - start) P) j)
  passes-alike j h = ap passes (tests-alike j h)

  -- the witness from the start fails inside the stretch: it is the offset's own
  settled_at : (j : ℕ) → j < end - a → witness_j_of P (a - start) ≡ place j →
      (witness_j_of P a ≡ place j) × (witness_i_of P a ≡ witness_i_of P (a - start))
  unfolding witness_i_of witness_j_of neighbour_at
  settled_at j h e =
      let f = first_fail_lem P (drop (a - start) P) (length P - (a - start)) j e in
      let here : first_fail P (drop a P) (length P - a) ≡ place j =
      fail_first P (drop a P) (length P - a) j
      (record {
        below = omega (arith, s.within);
        fails = passes-alike j h ∙ f.fails;
        before = λ i less. passes-alike i (omega arith) ∙ f.before i less;
      }) in
      (here, rw (here, e) (ap failed_at (tests-alike j h)))

  pub settled : (i j : ℕ) → length P ≤ pattern_limit → i ≡ entry (witness_i_of P (a - start)) → j ≡ entry (witness_j_of P (a - start)) → j < end - a →
      OwnWitness P a i j
  settled i j limit e f h =
      let found : witness_j_of P (a - start) ≡ place j = entry_place (witness_j_of P (a - start)) (λ n. absurd (omega (arith, s.within))) ∙ ap place (sym f) in
      let both = settled_at j h found in
      record {
        neighbour = e ∙ ap entry (sym both.1);
        failing = sym (entry_of_place j) ∙ ap entry (sym both.0);
      }

  -- it does not: all tests inside the stretch pass
  pass_inside : (w : Spot) → witness_j_of P (a - start) ≡ w → end - a ≤ entry w → AllPass P (drop (a - start) P) (end - a)
  unfolding witness_j_of entry
  pass_inside none e h = λ i less. no_fail P (drop (a - start) P) (length P - (a - start)) e i (omega (arith, s.within, s.reached))
  pass_inside (place k) e h = λ i less. (first_fail_lem P (drop (a - start) P) (length P - (a - start)) k e).before i (omega arith)

  pub unsettled : (j : ℕ) → j ≡ entry (witness_j_of P (a - start)) → end - a ≤ j → KnownBelow P a (end - a)
  unsettled j f h =
      record {
        inside = omega (arith, s.within);
        known = all_pass_none P (drop a P) (end - a)
            (λ i less. passes-alike i less ∙ pass_inside (witness_j_of P (a - start)) refl (rw (← f) h) i less);
      }

-- ---- the stretch that an offset's witness gives

module _ {P : List ℤ} {a start end : ℕ} (s : Stretched P a start end) where
  pub stretch_to_end : (j : ℕ) → a < length P → length P ≤ pattern_limit → j ≡ entry (witness_j_of P a) → j ≡ no_place → Stretched P (a + 1) a (length P)
  unfolding witness_j_of
  stretch_to_end j h limit e n =
      record {
        later = omega (arith, s.later, s.reached);
        reached = omega arith;
        within = omega arith;
        in_order = entry_none (witness_j_of P a) (record { below = failing-below }) (omega arith) (sym e ∙ n);
      }
    where
      failing-below : (k : ℕ) → first_fail P (drop a P) (length P - a) ≡ place k → k < length P
      failing-below k q = let f = first_fail_lem P (drop a P) (length P - a) k q in omega (arith, f.below)

  pub stretch_to_failing : (j : ℕ) → j ≡ entry (witness_j_of P a) → (j ≡ no_place → ⊥) → Stretched P (a + 1) a (a + j)
  unfolding witness_j_of
  stretch_to_failing j e n =
      record {
        later = omega (arith, s.later, s.reached);
        reached = omega arith;
        within = omega (arith, f.below);
        in_order = rw same (all_pass_none P (drop a P) j f.before);
      }
    where
      f : FirstFail P (drop a P) (length P - a) j
      f = first_fail_lem P (drop a P) (length P - a) j (entry_place (witness_j_of P a) (λ q. n (e ∙ q)) ∙ ap place (sym e))

      same : a + j - a ≡ j
      same = omega arith

-- before offset 1 nothing is known
pub stretch_none : (P : List ℤ) → 0 < length P → Stretched P 1 1 1
stretch_none P h = record { later = omega arith; reached = omega arith; within = omega arith; in_order = all_pass_none P (drop 1 P) 0 (λ j l. absurd (omega arith)) }

-- offset 0 has no witness
pub first_offset : (P : List ℤ) → OwnWitness P 0 no_place no_place
first_offset P =
    record {
      neighbour = sym entry_of_none ∙ ap entry (sym (none_together P 0 (offset_zero P)));
      failing = sym entry_of_none ∙ ap entry (sym (offset_zero P));
    }
