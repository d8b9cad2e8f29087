-- Shows: the demands on every search, of the definitions: the list is exactly the windows without a lost stitch that are isomorphic with
-- the pattern, no such window is struck, survivors agree with each other, and the bounds on D + S and on W.
-- Assumes nothing.
use Prim.Native.Nat.{ℕ, ◌<◌}
use mathlib.Core.Path.{◌≡◌, refl, sym, ◌∙◌, ap, subst}
use mathlib.Core.Logic.{◌↔◌, ◌⊎◌, inl, inr}
use mathlib.Core.List.Memᴰ
use mathlib.Core.List.{List, [], ◌∷◌, Memᴰ}
use mathlib.Core.Bool.{false, not, ◌&&◌}
use native.Mathlib.Omega.{arith}
use lib.IntN.{ℤ}
use lib.ListN.{length}
use borrow.Author.Tests.{not-true}
use Rattle.order.specs.Sizes.{windows_of, window, passing}
use Rattle.order.specs.Lost.{NoneLost}
use Rattle.order.specs.Isomorphic.{Iso}
use Rattle.order.specs.Duels.{is_struck, entrants, survivors}
use Rattle.order.specs.Sweeping.{positions}
use Rattle.order.specs.Written.{counts_of, occurrences}
use Rattle.order.specs.Demands.{Demands}
use Rattle.order.proofs.Tests.{and_both, and_first, and_second}
use Rattle.order.proofs.Lists.{passing-those, mem_those, those_mem, mem_passing, Ascending}
use Rattle.order.proofs.LostStitches.{none_lost_computed, computed_none_lost}
use Rattle.order.proofs.Isomorphisms.{iso_computed, computed_iso}
use Rattle.order.proofs.Meetings.{occurs, Agrees}
use Rattle.order.proofs.Dueling.{Agreeing, survivors-entered, survivors-agreeing, survivors-unstruck, duels-and-survivors}
use Rattle.order.proofs.SweepLaws.{sweep_lists, sweep_cost_lem}

-- the windows that occur, among those that take part
entrants_occur : (P T : List ℤ) → passing (occurs P T) (entrants P T) ≡ occurrences P T
unfolding entrants occurrences
entrants_occur P T = passing-those (λ x. not (is_struck P T x)) (occurs P T) (windows_of (length P) (length T))

-- the list is the list of those windows
pub positions-are : (P T : List ℤ) → positions P T ≡ occurrences P T
positions-are P T = sweep_lists P T ∙ survivors-unstruck P T ∙ entrants_occur P T

-- a window without a lost stitch, isomorphic with the pattern
abbrev Occurs : List ℤ → List ℤ → ℕ → Type 0
Occurs P T x = (x < windows_of (length P) (length T)) × NoneLost (window T x (length P)) × Iso P (window T x (length P))

takes_part : (P T : List ℤ) (x : ℕ) → is_struck P T x ≡ false → NoneLost (window T x (length P))
unfolding is_struck
takes_part P T x e = computed_none_lost (window T x (length P)) e

part_taken : (P T : List ℤ) (x : ℕ) → NoneLost (window T x (length P)) → is_struck P T x ≡ false
unfolding is_struck
part_taken P T x c = none_lost_computed (window T x (length P)) c

-- which are these
pub occurrence_is : (P T : List ℤ) (x : ℕ) → Memᴰ x (occurrences P T) ↔ Occurs P T x
unfolding occurrences
occurrence_is P T x = (
  (λ h.
      let b = mem_those (λ x. not (is_struck P T x) && occurs P T x) (windows_of (length P) (length T)) h in
      (b.0, takes_part P T x (not-true (is_struck P T x) (and_first (not (is_struck P T x)) (occurs P T x) b.1)), computed_iso P (window T x (length P)) (and_second (not (is_struck P T x)) (occurs P T x) b.1))),
  λ b.
      those_mem (λ x. not (is_struck P T x) && occurs P T x) (windows_of (length P) (length T)) x b.0
      (and_both (not (is_struck P T x)) (occurs P T x) (ap not (part_taken P T x b.1)) (iso_computed P (window T x (length P)) b.2)),
)

-- any two of a list that ascends and agrees
any_two : (A : ℕ → ℕ → Type 0) (xs : List ℕ) → Agreeing A xs → (x y : ℕ) → Memᴰ x xs → Memᴰ y xs → x < y → A x y
any_two A [] g x y h k l = absurd (Memᴰ.not-nil h)
any_two A (z ∷ xs) g x y h k l = go (any_two A xs g.1) (Memᴰ.cases_cons h) (Memᴰ.cases_cons k)
  where
    go : ((x y : ℕ) → Memᴰ x xs → Memᴰ y xs → x < y → A x y) → (x ≡ z) ⊎ Memᴰ x xs → (y ≡ z) ⊎ Memᴰ y xs → A x y
    go f (inl e) (inl d) = absurd (omega arith)
    go f (inl e) (inr d) = subst (λ (v : ℕ). A v y) (sym e) (g.0 y d).1
    go f (inr e) (inl d) = let b : z < x = (g.0 x e).0 in absurd (omega arith)
    go f (inr e) (inr d) = f x y e d l

pub survivors-agree : (P T : List ℤ) (x y : ℕ) → Memᴰ x (survivors P T) → Memᴰ y (survivors P T) → x < y → Agrees P x y
survivors-agree P T = any_two (Agrees P) (survivors P T) (survivors-agreeing P T)

-- the survivors ascend
agreeing_ascend : (A : ℕ → ℕ → Type 0) (xs : List ℕ) → Agreeing A xs → Ascending xs
agreeing_ascend A [] g = tt
agreeing_ascend A (x ∷ xs) g = ((λ z h. (g.0 z h).0), agreeing_ascend A xs g.1)

pub survivors_ascend : (P T : List ℤ) → Ascending (survivors P T)
survivors_ascend P T = agreeing_ascend (Agrees P) (survivors P T) (survivors-agreeing P T)

-- no window that occurs is struck by a duel
pub unstruck : (P T : List ℤ) (x : ℕ) → x < windows_of (length P) (length T) → NoneLost (window T x (length P)) → Iso P (window T x (length P)) → Memᴰ x (survivors P T)
unstruck P T x h c e =
    mem_passing (occurs P T) (survivors P T)
    (subst (Memᴰ x) (sym (survivors-unstruck P T ∙ entrants_occur P T)) ((occurrence_is P T x).1 (h, c, e)))

pub demands_hold : (P T : List ℤ) → Demands P T (survivors P T) (positions P T) (counts_of P T)
unfolding counts_of
demands_hold P T =
    record {
      exact = positions-are P T;
      each_listed = λ x. subst (λ (l : List ℕ). Memᴰ x l ↔ Occurs P T x) (sym (positions-are P T)) (occurrence_is P T x);
      unstruck = unstruck P T;
      none_lost = λ x h. takes_part P T x (survivors-entered P T x h);
      agreeing = λ x y h k l. inr (survivors-agree P T x y h k l);
      duelling = duels-and-survivors P T;
      sweeping = sweep_cost_lem P T;
      windows_are = refl;
      duels_are = refl;
      kept_are = refl;
      kept_number = refl;
      sweep_is = refl;
      listed_number = refl;
      struck_are = refl;
    }
