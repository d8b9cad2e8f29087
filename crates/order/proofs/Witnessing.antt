-- Shows: an offset has no witness exactly if the pattern less its last values is isomorphic with it less its first; a
-- witness (i, j) at offset a has i < j and a + j < m, and the pattern compares differently at (i, j) and at
-- (a + i, a + j). Offset 0 has none.
-- Assumes nothing.
use Prim.Native.Nat.{ℕ, ◌+◌, ◌-◌, ◌<◌}
use mathlib.Core.Path.{◌≡◌, refl, sym, ◌∙◌, ap, ap₂, subst}
use mathlib.Core.List.{List}
use mathlib.Core.Bool.{Bool, true, false, not, ◌||◌, or-true}
use lib.Dec.{leb}
use native.Mathlib.Omega.{arith}
use lib.IntN.{ℤ, pos}
use lib.ListN.{length, take, drop, length-drop}
use lib.Seq.{get_or-drop, take_all}
use borrow.Author.Tests.{not-true, not-false, leb-true}
use Rattle.order.specs.Sizes.{Spot, none, place, at, is_none}
use Rattle.order.specs.Relations.{rel}
use Rattle.order.specs.Isomorphic.{Iso}
use Rattle.order.specs.Equivalence.{SelfAgree}
use Rattle.order.specs.PlaceTest.{test_of, passes, failed_at}
use Rattle.order.specs.Witnesses.{first_fail, neighbour_at, witness_i_of, witness_j_of}
use Rattle.order.proofs.Tests.{clash}
use Rattle.order.proofs.Orders.{alike-tests, same_tests_alike}
use Rattle.order.proofs.Lists.{Lowest, Finds, lowest_finds, finds_lowest}
use Rattle.order.specs.Agree.{agree}
use Rattle.order.proofs.Equivalences.{far_apart}
use Rattle.order.proofs.Isomorphisms.{iso_inherits}
use Rattle.order.proofs.PlaceTests.{AllPass, tests_iso, iso_tests, FailsAt, fails_at}

-- no first failing place below n exactly if all tests below n pass
pub no_fail : (P v : List ℤ) (n : ℕ) → first_fail P v n ≡ none → AllPass P v n
unfolding first_fail
no_fail P v n e j h =
    not-false (passes (test_of P v j))
    (subst (Finds (λ j. not (passes (test_of P v j))) n) e (lowest_finds (λ j. not (passes (test_of P v j))) n) j h)

pub all_pass_none : (P v : List ℤ) (n : ℕ) → AllPass P v n → first_fail P v n ≡ none
unfolding first_fail
all_pass_none P v n f = finds_lowest (λ j. not (passes (test_of P v j))) n none (λ j h. ap not (f j h))

-- the first failing place
pub record FirstFail (P v : List ℤ) (n j : ℕ) : Type 0 where
  pub below : j < n
  pub fails : passes (test_of P v j) ≡ false
  pub before : AllPass P v j

pub first_fail_lem : (P v : List ℤ) (n j : ℕ) → first_fail P v n ≡ place j → FirstFail P v n j
unfolding first_fail
first_fail_lem P v n j e =
    record { below = l.below; fails = not-true (passes (test_of P v j)) l.here; before = λ i h. not-false (passes (test_of P v i)) (l.earlier i h) }
  where
    l : Lowest (λ j. not (passes (test_of P v j))) n j
    l = subst (Finds (λ j. not (passes (test_of P v j))) n) e (lowest_finds (λ j. not (passes (test_of P v j))) n)

pub fail_first : (P v : List ℤ) (n j : ℕ) → FirstFail P v n j → first_fail P v n ≡ place j
unfolding first_fail
fail_first P v n j f =
    finds_lowest (λ j. not (passes (test_of P v j))) n (place j)
    (record { below = f.below; here = ap not f.fails; earlier = λ i h. ap not (f.before i h) })

-- the pattern from a on has what is left of it
left_over : (P : List ℤ) (a : ℕ) → take (length P - a) (drop a P) ≡ drop a P
left_over P a = take_all (length P - a) (drop a P) (rw length-drop (omega arith))

-- no witness exactly if the pattern agrees with itself at that distance
pub none_agree : (P : List ℤ) (a : ℕ) → witness_j_of P a ≡ none → SelfAgree Iso P a
unfolding witness_j_of
none_agree P a e =
    subst (Iso (take (length P - a) P)) (left_over P a)
    (tests_iso P (drop a P) (length P - a) (omega arith) (rw length-drop (omega arith)) (no_fail P (drop a P) (length P - a) e))

pub agree_none : (P : List ℤ) (a : ℕ) → SelfAgree Iso P a → witness_j_of P a ≡ none
unfolding witness_j_of
agree_none P a e =
    all_pass_none P (drop a P) (length P - a)
    (iso_tests P (drop a P) (length P - a) (omega arith) (subst (Iso (take (length P - a) P)) (sym (left_over P a)) e))

pub offset_zero : (P : List ℤ) → witness_j_of P 0 ≡ none
offset_zero P = agree_none P 0 (subst (λ u. Iso u P) (sym (take_all (length P - 0) P (omega arith))) (iso_inherits.reflexive P))

-- what a witness is
pub record Witnessed (P : List ℤ) (a i j : ℕ) : Type 0 where
  pub earlier : i < j
  pub inside : a + j < length P
  pub differs : rel (at P i) (at P j) ≡ rel (at P (a + i)) (at P (a + j)) → ⊥

-- two comparisons alike are alike turned round
pub turned-alike : (a b c d : ℤ) → rel a b ≡ rel c d → rel b a ≡ rel d c
turned-alike a b c d e = let both = alike-tests a b c d e in same_tests_alike b a d c both.1 both.0

pub witness_is : (P : List ℤ) (a j : ℕ) → witness_j_of P a ≡ place j → (i : ℕ) × (witness_i_of P a ≡ place i) × Witnessed P a i j
unfolding witness_j_of witness_i_of neighbour_at
witness_is P a j e = (
  f.0,
  rw e f.1,
  record {
    earlier = f.2.earlier;
    inside = let h : j < length P - a = l.below in omega arith;
    differs = λ d.
        f.2.differs
        (ap₂ rel (get_or-drop a P j (pos 0)) (get_or-drop a P f.0 (pos 0)) ∙
        turned-alike (at P (a + f.0)) (at P (a + j)) (at P f.0) (at P j) (sym d));
  },
)
  where
    l : FirstFail P (drop a P) (length P - a) j
    l = first_fail_lem P (drop a P) (length P - a) j e

    f : (i : ℕ) × (failed_at (test_of P (drop a P) j) ≡ place i) × FailsAt P (drop a P) j i
    f = fails_at P (drop a P) j l.fails

-- both entries are none together
pub none_together : (P : List ℤ) (a : ℕ) → witness_j_of P a ≡ none → witness_i_of P a ≡ none
unfolding witness_i_of neighbour_at
none_together P a e = rw e refl

-- windows agree exactly if the pattern agrees with itself at their distance
pub agree_self : (P : List ℤ) (x y : ℕ) → agree P x y ≡ true → SelfAgree Iso P (y - x)
unfolding agree is_none
agree_self P x y e = go (leb (length P) (y - x)) refl (witness_j_of P (y - x)) refl e
  where
    go : (t : Bool) → leb (length P) (y - x) ≡ t → (s : Spot) → witness_j_of P (y - x) ≡ s → (t || is_none s) ≡ true → SelfAgree Iso P (y - x)
    go true l s w d = far_apart iso_inherits P (y - x) (leb-true (length P) (y - x) l)
    go false l none w d = none_agree P (y - x) w
    go false l (place j) w d = clash d refl

pub self_agree : (P : List ℤ) (x y : ℕ) → SelfAgree Iso P (y - x) → agree P x y ≡ true
unfolding agree is_none
self_agree P x y e = rw (agree_none P (y - x) e) (or-true (leb (length P) (y - x)))
