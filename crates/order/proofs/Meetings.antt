-- Shows: a duel strikes no window that is isomorphic with the pattern, both windows of a duel can't stand, and windows that
-- meet with no duel agree: the pattern less its last values is isomorphic with it less its first, or they are a pattern's
-- length or more apart.
-- Assumes nothing.
use Prim.Native.Nat.{ℕ, ◌+◌, ◌-◌, ◌<◌}
use mathlib.Core.Path.{◌≡◌, refl, sym, ◌∙◌, ap, ap₂}
use mathlib.Core.List.{List}
use mathlib.Core.Bool.{Bool, true, false, cond}
use native.Mathlib.Omega.{arith}
use lib.IntN.{ℤ}
use lib.ListN.{length}
use lib.Signed.{le_z}
use Rattle.order.specs.declared.steps.Meeting.{Meeting}
use Rattle.order.specs.declared.steps.Meeting.TheVariants.{Agree, OlderFalls, NewerFalls, BothFall}
use Rattle.order.specs.Sizes.{Spot, none, place, at, window}
use Rattle.order.specs.Relations.{rel, alike}
use Rattle.order.specs.Isomorphic.{Iso, is_iso}
use Rattle.order.specs.Equivalence.{SelfAgree}
use Rattle.order.specs.Witnesses.{witness_i_of, witness_j_of}
use Rattle.order.specs.Agree.{agree}
use Rattle.order.specs.Duels.{fallen, duel, by_witness, meets}
use Rattle.order.proofs.Tests.{clash, must_fail}
use Rattle.order.proofs.Orders.{alike_same, alike_refl, same_tests_alike}
use Rattle.order.proofs.Isomorphisms.{at_part, computed_iso}
use Rattle.order.proofs.Witnessing.{Witnessed, none_agree, witness_is, none_together, agree_self}

-- whether window x is isomorphic with the pattern
abbrev pub occurs : List ℤ → List ℤ → ℕ → Bool
occurs P T x = is_iso P (window T x (length P))

-- such a window compares at any two places as the pattern does
pub occurs_alike : (P T : List ℤ) (x i j : ℕ) → Iso P (window T x (length P)) → i < length P → j < length P → rel (at T (x + i)) (at T (x + j)) ≡ rel (at P i) (at P j)
occurs_alike P T x i j e hi hj =
    same_tests_alike (at T (x + i)) (at T (x + j)) (at P i) (at P j) (one i j hi hj) (one j i hj hi)
  where
    one : (i j : ℕ) → i < length P → j < length P → le_z (at T (x + i)) (at T (x + j)) ≡ le_z (at P i) (at P j)
    one i j hi hj = sym (e.order i j hi hj ∙ ap₂ le_z (at_part (length P) x T i hi) (at_part (length P) x T j hj))

-- what a meeting of window x with a later window y tells, of a set of windows and of agreement
abbrev pub Told : (ℕ → Bool) → (ℕ → ℕ → Type 0) → ℕ → ℕ → Meeting → Type 0
Told p A x y Agree = A x y
Told p A x y OlderFalls = p x ≡ false
Told p A x y NewerFalls = p y ≡ false
Told p A x y BothFall = (p x ≡ false) × (p y ≡ false)

-- agreement of the rules: the pattern agrees with itself at the windows' distance
abbrev pub Agrees : List ℤ → ℕ → ℕ → Type 0
Agrees P x y = SelfAgree Iso P (y - x)

abbrev Fate : List ℤ → List ℤ → ℕ → ℕ → Meeting → Type 0
Fate P T x y m = Told (occurs P T) (Agrees P) x y m

module _ (P T : List ℤ) (x y : ℕ) (h : x < y) where
  -- the duel's comparison, and what stands against it
  abbrev seen : ℕ → ℕ → Bool
  seen i j = alike (rel (at T (y + i)) (at T (y + j))) (rel (at P i) (at P j))

  abbrev seen_older : ℕ → ℕ → Bool
  seen_older i j = alike (rel (at T (y + i)) (at T (y + j))) (rel (at P (y - x + i)) (at P (y - x + j)))

  newer_struck : (i j : ℕ) → Witnessed P (y - x) i j → seen i j ≡ false → occurs P T y ≡ false
  newer_struck i j w e =
      must_fail (occurs P T y) λ t.
      let ij : i < j = w.earlier in
      let jm : y - x + j < length P = w.inside in
      clash (ap (λ r. alike r (rel (at P i) (at P j))) (occurs_alike P T y i j (computed_iso P (window T y (length P)) t) (omega arith) (omega arith)) ∙ alike_refl (rel (at P i) (at P j))) e

  older_struck : (i j : ℕ) → Witnessed P (y - x) i j → seen_older i j ≡ false → occurs P T x ≡ false
  older_struck i j w e =
      must_fail (occurs P T x) λ t.
      let ij : i < j = w.earlier in
      let jm : y - x + j < length P = w.inside in
      let yi : x + (y - x + i) ≡ y + i = omega arith in
      let yj : x + (y - x + j) ≡ y + j = omega arith in
      clash
      (ap (λ r. alike r (rel (at P (y - x + i)) (at P (y - x + j))))
      (ap₂ (λ a b. rel (at T a) (at T b)) (sym yi) (sym yj) ∙ occurs_alike P T x (y - x + i) (y - x + j) (computed_iso P (window T x (length P)) t) (omega arith) (omega arith)) ∙
      alike_refl (rel (at P (y - x + i)) (at P (y - x + j)))) e

  -- both can't stand
  pub not_both : (i j : ℕ) → Witnessed P (y - x) i j → seen i j ≡ true → seen_older i j ≡ true → ⊥
  not_both i j w p q =
      w.differs
      (sym (alike_same (rel (at T (y + i)) (at T (y + j))) (rel (at P i) (at P j)) p) ∙
      alike_same (rel (at T (y + i)) (at T (y + j))) (rel (at P (y - x + i)) (at P (y - x + j))) q)

  duel_fate : (i j : ℕ) → Witnessed P (y - x) i j → Fate P T x y (duel P T y (y - x) i j)
  unfolding duel fallen
  duel_fate i j w = go (seen i j) (seen_older i j) refl refl
    where
      go : (s t : Bool) → seen i j ≡ s → seen_older i j ≡ t → Fate P T x y (fallen s t)
      go true true p q = absurd (not_both i j w p q)
      go true false p q = older_struck i j w q
      go false true p q = newer_struck i j w p
      go false false p q = (older_struck i j w q, newer_struck i j w p)

  witness_fate : (s : Spot) → witness_j_of P (y - x) ≡ s → Fate P T x y (by_witness P T y (y - x) (witness_i_of P (y - x)) s)
  unfolding by_witness
  witness_fate none e = rw (none_together P (y - x) e) (none_agree P (y - x) e)
  witness_fate (place j) e =
      let w = witness_is P (y - x) j e in
      rw w.1 (duel_fate w.0 j w.2)

  pub meets_fate : Told (occurs P T) (Agrees P) x y (meets P T x y)
  unfolding meets
  meets_fate = go (agree P x y) refl
    where
      go : (t : Bool) → agree P x y ≡ t → Fate P T x y (cond t Agree (by_witness P T y (y - x) (witness_i_of P (y - x)) (witness_j_of P (y - x))))
      go true e = agree_self P x y e
      go false e = witness_fate (witness_j_of P (y - x)) refl
