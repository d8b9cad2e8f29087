-- Shows: for every equivalence of lists that parts inherit, agreement passes along a chain of windows, and what was shown of
-- a window holds of a later one that agrees with it, as far as it reaches. Distances of the pattern's length or more count.
-- Assumes nothing beyond the record `PartsInherit`.
use Prim.Native.Nat.{ℕ, ◌+◌, ◌-◌, ◌≤◌}
use mathlib.Core.Path.{◌≡◌, sym, ◌∙◌, ap, subst, subst₂}
use mathlib.Core.List.{List, []}
use native.Mathlib.Omega.{arith}
use native.Mathlib.Nat.{add_comm}
use lib.ListN.{length, take, drop, length-drop, drop_of_length-le}
use lib.Seq.{take_all, drop-drop}
use Rattle.order.specs.Equivalence.{PartsInherit, SelfAgree}
use Rattle.order.proofs.Lists.{take-drop-take}

module _ {A : Type 0} {R : List A → List A → Type 0} (E : PartsInherit R) where
  -- a list agrees with itself at a distance of its length or more
  pub far_apart : (P : List A) (a : ℕ) → length P ≤ a → SelfAgree R P a
  far_apart P a h =
      let none : length P - a ≡ 0 = omega arith in
      subst₂ R (sym (ap (λ k. take k P) none)) (sym (drop_of_length-le P h)) (E.reflexive [])

  -- agreement at a and at b is agreement at a + b
  pub chain : (P : List A) (a b : ℕ) → SelfAgree R P a → SelfAgree R P b → SelfAgree R P (a + b)
  chain P a b p q =
      E.transitive
      (subst (λ (u : List A). R u (take n (drop a P))) (take-drop-take n 0 (length P - a) P (omega arith)) (E.part 0 n p))
      (subst₂ R (take-drop-take n a (length P - b) P (omega arith)) rest (E.part a n q))
    where
      n : ℕ
      n = length P - (a + b)

      rest : take n (drop a (drop b P)) ≡ drop (a + b) P
      rest = ap (take n) (drop-drop a b P ∙ ap (λ k. drop k P) (add_comm b a)) ∙ take_all n (drop (a + b) P) (rw length-drop (omega arith))

  -- the sweep's carry_over
  pub carry_over : (P T : List A) (x a k : ℕ) → k ≤ length P → R (take k P) (take k (drop x T)) → SelfAgree R P a → R (take (k - a) P) (take (k - a) (drop (x + a) T))
  carry_over P T x a k h p q =
      E.transitive
      (subst (λ (u : List A). R u (take (k - a) (drop a P))) (take-drop-take (k - a) 0 (length P - a) P (omega arith)) (E.part 0 (k - a) q))
      (subst₂ R
      (take-drop-take (k - a) a k P (omega arith))
      (take-drop-take (k - a) a k (drop x T) (omega arith) ∙ ap (take (k - a)) (drop-drop a x T))
      (E.part a (k - a) p))

  -- the same of windows x, y and z
  pub chain_windows : (P : List A) (x y z : ℕ) → x ≤ y → y ≤ z → SelfAgree R P (y - x) → SelfAgree R P (z - y) → SelfAgree R P (z - x)
  chain_windows P x y z h k p q = let same : y - x + (z - y) ≡ z - x = omega arith in rw same at (chain P (y - x) (z - y) p q)
