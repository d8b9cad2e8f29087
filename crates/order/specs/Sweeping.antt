-- "Sweep": the survivors are tested place by place, the earliest first, and none at a sample of the trace that one before it has passed.
use Rattle.std.specs.Prelude.{ℕ, zero, suc, ◌+◌, ◌-◌, max, List, [], ◌∷◌, ◌++◌, ℤ, length, drop}
use Rattle.order.specs.declared.steps.Tested.{Tested}
use Rattle.order.specs.declared.steps.Tested.TheVariants.{Passed, Failed}
use Rattle.order.specs.PlaceTest.{test_of, cost}
use Rattle.order.specs.Duels.{survivors}

-- how far the trace is tested (E), what was counted on the way, and the windows listed so far
pub record Swept : Type 0 where
  pub reach : ℕ
  pub total : ℕ
  pub listed : List ℕ

abbrev pub swept : ℕ → ℕ → List ℕ → Swept
swept e w l = record { reach = e; total = w; listed = l }

-- what is counted of each test: its comparisons (W), or 1 for each that passes, or 1 for each that fails
abbrev pub Weight : Type 0
Weight = Tested → ℕ

unfoldable pub on_pass : Weight
on_pass (Passed c) = 1
on_pass (Failed c i) = 0

unfoldable pub on_fail : Weight
on_fail (Passed c) = 0
on_fail (Failed c i) = 1

-- what follows a test of window x: after a pass the next sample's, and a failure is the end of x, with E where it was
unfoldable pub on_test : Tested → ℕ → ℕ → List ℕ → Swept → Swept
on_test (Passed c) e w l next = next
on_test (Failed c i) e w l next = swept e w l

-- the tests of window x from E on, of which n are left until E reaches x + m; then x is listed
unfoldable pub tests : Weight → (ℕ → ℕ → Tested) → ℕ → ℕ → ℕ → ℕ → List ℕ → Swept
tests weigh test x zero e w l = swept e w (l ++ (x ∷ []))
tests weigh test x (suc n) e w l =
    on_test (test x (e - x)) e (w + weigh (test x (e - x))) l
    (tests weigh test x n (e + 1) (w + weigh (test x (e - x))) l)

-- survivor x, from its start or from E, whichever is further on
unfoldable pub sweep_one_lem : Weight → (ℕ → ℕ → Tested) → ℕ → ℕ → Swept → Swept
sweep_one_lem weigh test m x s =
    tests weigh test x (x + m - max s.reach x) (max s.reach x) s.total s.listed

-- the survivors xs in ascending order
unfoldable pub sweep_all_lem : Weight → (ℕ → ℕ → Tested) → ℕ → List ℕ → Swept → Swept
sweep_all_lem weigh test m [] s = s
sweep_all_lem weigh test m (x ∷ xs) s = sweep_all_lem weigh test m xs (sweep_one_lem weigh test m x s)

-- place j's test on window x of the trace
unfoldable pub tests_of : List ℤ → List ℤ → ℕ → ℕ → Tested
tests_of P T x j = test_of P (drop x T) j

-- the sweep of a search; W; and the listed positions
unfoldable pub swept_by : Weight → List ℤ → List ℤ → Swept
swept_by weigh P T = sweep_all_lem weigh (tests_of P T) (length P) (survivors P T) (swept 0 0 [])

unfoldable pub sweep_cost : List ℤ → List ℤ → ℕ
sweep_cost P T = (swept_by cost P T).total

unfoldable pub positions : List ℤ → List ℤ → List ℕ
positions P T = (swept_by cost P T).listed
