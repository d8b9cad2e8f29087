-- Shows: the entries of an offset from tests made in order of the places: tests that pass go on, the first that fails is the
-- witness, and where all pass there is none.
-- Assumes nothing.
use mathlib.Core.Path.{◌≡◌, refl, sym, ◌∙◌, ap}
use mathlib.Core.List.{List}
use mathlib.Core.Bool.{true, false}
use Prim.Native.Nat.{ℕ, ◌+◌, ◌-◌, ◌≤◌, ◌<◌}
use native.Mathlib.Omega.{arith}
use native.Mathlib.Numerals.{add-one}
use lib.IntN.{ℤ}
use lib.ListN.{length, get_or, take, drop, length-drop}
use lib.Seq.{take_all}
use Rattle.order.specs.declared.kinds.Place.{Place}
use Rattle.order.specs.declared.steps.Tested.{Tested}
use Rattle.order.specs.declared.steps.Tested.TheVariants.{Passed, Failed}
use Rattle.order.specs.Sizes.{none, place, no_place}
use Rattle.order.specs.PlaceTest.{test_of, passes, failed_at}
use Rattle.order.specs.EntryTest.{test_by}
use Rattle.order.specs.Witnesses.{first_fail, neighbour_at, witness_i_of, witness_j_of}
use Rattle.order.proofs.Lists.{below_suc}
use Rattle.order.proofs.PlaceTests.{fails_at}
use Rattle.order.proofs.TestByEntries.{test_by_own}
use Rattle.order.proofs.Witnessing.{no_fail, all_pass_none, fail_first}
use Rattle.tables.specs.Inside.Asked.{OwnNeighbours, OwnWitness, KnownBelow}
use Rattle.order.proofs.Entries.{entry_of_place, entry_of_none}

-- ---- the pattern from an offset on, as the code cuts it

abbrev pub rest : List ℤ → ℕ → List ℤ
rest P a = take (length P - a) (drop a P)

rest_is : (P : List ℤ) (a : ℕ) → rest P a ≡ drop a P
rest_is P a = let n = length-drop a P in take_all (length P - a) (drop a P) (omega arith)

pub rest_length : (P : List ℤ) (a : ℕ) → length (rest P a) ≡ length P - a
rest_length P a = ap length (rest_is P a) ∙ length-drop a P

-- a test by the pattern's own entries there is the rules' test
pub own_test : {P : List ℤ} {low high : List ℕ} (a j : ℕ) → OwnNeighbours P low high → j < length P - a →
    test_by (rest P a) (get_or low j 0) (get_or high j 0) j ≡ test_of P (drop a P) j
own_test {P} {low} {high} a j own h =
    let l = own.limit in
    let n = length-drop a P in
    ap (λ v. test_by v (get_or low j 0) (get_or high j 0) j) (rest_is P a) ∙
    test_by_own P (drop a P) j (omega arith) (omega arith) (own.low_own j (omega arith)) (own.high_own j (omega arith))

-- ---- what an outcome tells

passed_passes : {r : Tested} {c : ℕ} → r ≡ Passed c → passes r ≡ true
unfolding passes
passed_passes e = rw e refl

failed_fails : {r : Tested} {c : ℕ} {i : Place} → r ≡ Failed c i → passes r ≡ false
unfolding passes
failed_fails e = rw e refl

failed_at_lem : {r : Tested} {c : ℕ} {i : Place} → r ≡ Failed c i → failed_at r ≡ place i.0
unfolding failed_at
failed_at_lem e = rw e refl

-- a test that fails does so at an earlier place
pub failed_before : (P v : List ℤ) (j : ℕ) {c : ℕ} {i : Place} → test_of P v j ≡ Failed c i → i.0 < j
failed_before P v j {c} {i} e =
    let f = fails_at P v j (failed_fails e) in
    let same : f.0 ≡ i.0 = unplace (sym f.1 ∙ failed_at_lem e) in
    let h : f.0 < j = f.2.earlier in
    omega arith
  where
    unplace : {n : ℕ} → place n ≡ place i.0 → n ≡ i.0
    unplace q = cc

module _ {P : List ℤ} {a j : ℕ} (k : KnownBelow P a j) where
  pub known_more : {c : ℕ} → j < length P - a → test_of P (drop a P) j ≡ Passed c → KnownBelow P a (j + 1)
  known_more h e =
      record {
        inside = omega arith;
        known = rw add-one
            (all_pass_none P (drop a P) _
            (below_suc (λ i. passes (test_of P (drop a P) i) ≡ true) j (no_fail P (drop a P) j k.known) (passed_passes e)));
      }

  pub known_all : length P - a ≤ j → OwnWitness P a no_place no_place
  unfolding witness_i_of witness_j_of neighbour_at
  known_all h = record { neighbour = rw (nowhere, entry_of_none) refl; failing = rw (nowhere, entry_of_none) refl }
    where
      all : length P - a ≡ j
      all = omega arith

      nowhere : first_fail P (drop a P) (length P - a) ≡ none
      nowhere = rw all k.known

  pub known_fails : {c : ℕ} {i : Place} → j < length P - a → test_of P (drop a P) j ≡ Failed c i → OwnWitness P a i.0 j
  unfolding witness_i_of witness_j_of neighbour_at
  known_fails {c} {i} h e =
      record {
        neighbour = rw (here, failed_at_lem e, entry_of_place) refl;
        failing = rw (here, entry_of_place) refl;
      }
    where
      here : first_fail P (drop a P) (length P - a) ≡ place j
      here =
          fail_first P (drop a P) (length P - a) j
          (record { below = h; fails = failed_fails e; before = no_fail P (drop a P) j k.known })

-- nothing has been tested
pub known_none : (P : List ℤ) (a : ℕ) → a ≤ length P → KnownBelow P a 0
known_none P a h = record { inside = omega arith; known = all_pass_none P (drop a P) 0 (λ j l. absurd (omega arith)) }
