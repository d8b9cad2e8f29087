-- Which way a search goes: patterns that rise, fall or stay level throughout, and all others.
use Rattle.std.specs.Prelude.{ℕ, ◌-◌, ◌<◌, ◌≡◌, List, cond, ℤ, length, Option, Some}
use Rattle.std.specs.declared.cmp.Ordering.{Ordering}
use Rattle.order.specs.declared.steps.Tested.{Tested}
use Rattle.order.specs.declared.steps.Tested.TheVariants.{Passed, Failed}
use Rattle.order.specs.Sizes.{as_place}
use Rattle.order.specs.PlaceTest.{test_of}
use Rattle.order.specs.EntryTest.{told}

-- one comparison, of sample j of a list with the one before it
abbrev pub step_test : Ordering → List ℤ → ℕ → Tested
step_test way v j = cond (told v j (j - 1) way) (Passed 1) (Failed 1 (as_place (j - 1)))

-- each sample of the pattern compares with the one before it as `way` tells, and the test of a place is that one comparison
pub record Steady (P : List ℤ) (way : Ordering) : Type 0 where
  pub some : 0 < length P
  pub steps : (v : List ℤ) (j : ℕ) → 0 < j → j < length P → test_of P v j ≡ step_test way v j

-- the way that was chosen is the pattern's
pub record Chosen (P : List ℤ) (course : Option Ordering) : Type 0 where
  pub steady : (way : Ordering) → course ≡ Some way → Steady P way
