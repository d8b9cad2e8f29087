-- Shows: a list whose windows all lie in the trace is swept whole; and tests that come out alike on a list's windows sweep it alike.
-- Assumes nothing.
use Prim.Native.Nat.{ℕ, zero, suc, ◌+◌, ◌-◌, ◌≤◌, ◌<◌, max}
use mathlib.Core.Path.{◌≡◌, refl, ◌∙◌, ap}
use mathlib.Core.List.{List, [], ◌∷◌, Memᴰ}
use native.Mathlib.Omega.{arith}
use borrow.Author.Tests.{le-leb}
use Rattle.order.specs.declared.steps.Tested.{Tested}
use Rattle.order.specs.PlaceTest.{cost}
use Rattle.order.specs.Sweeping.{Swept, on_test, tests, sweep_one_lem, sweep_all_lem}
use Rattle.order.specs.Sizes.{passing}
use Rattle.sweep.specs.Sweeps.{inside_part}

pub all_inside : (m n : ℕ) (xs : List ℕ) → ((x : ℕ) → Memᴰ x xs → x + m ≤ n) → inside_part m n xs ≡ xs
unfolding inside_part passing
all_inside m n [] f = refl
all_inside m n (x ∷ xs) f = rw (le-leb (x + m) n (f x (Memᴰ.head refl))) (ap (λ l. x ∷ l) (all_inside m n xs (λ y h. f y (Memᴰ.tail h))))

module _ (one other : ℕ → ℕ → Tested) (m : ℕ) where
  tests_same : (x : ℕ) → ((j : ℕ) → j < m → one x j ≡ other x j) → (k e w : ℕ) (l : List ℕ) → x ≤ e → k ≤ x + m - e → tests cost one x k e w l ≡ tests cost other x k e w l
  unfolding tests
  tests_same x f zero e w l a b = refl
  tests_same x f (suc k) e w l a b =
      let same = f (e - x) (omega arith) in
      ap (λ (t : Tested). on_test t e (w + cost t) l (tests cost one x k (e + 1) (w + cost t) l)) same ∙
      ap (on_test (other x (e - x)) e (w + cost (other x (e - x))) l) (tests_same x f k (e + 1) (w + cost (other x (e - x))) l (omega arith) (omega arith))

  one_same : (x : ℕ) → ((j : ℕ) → j < m → one x j ≡ other x j) → (s : Swept) → sweep_one_lem cost one m x s ≡ sweep_one_lem cost other m x s
  unfolding sweep_one_lem
  one_same x f s = tests_same x f (x + m - max s.reach x) (max s.reach x) s.total s.listed (omega arith) (omega arith)

  pub all_same : (xs : List ℕ) → ((x : ℕ) → Memᴰ x xs → (j : ℕ) → j < m → one x j ≡ other x j) → (s : Swept) → sweep_all_lem cost one m xs s ≡ sweep_all_lem cost other m xs s
  unfolding sweep_all_lem
  all_same [] f s = refl
  all_same (x ∷ xs) f s =
      ap (sweep_all_lem cost one m xs) (one_same x (f x (Memᴰ.head refl)) s) ∙ all_same xs (λ y h. f y (Memᴰ.tail h)) (sweep_one_lem cost other m x s)
