-- "Lost stitches": the one sample that is no tension, and the lists that hold it.
use Rattle.std.specs.Prelude.{ℕ, ◌<◌, ◌≡◌, List, Bool, not, ℤ, negsuc, length}
use Rattle.std.specs.declared.cmp.Ordering.TheVariants.{Equal}
use Rattle.order.specs.Sizes.{Spot, at, is_none, lowest}
use Rattle.order.specs.Relations.{rel, alike}

-- the sample that stands for a lost stitch, −2147483648
abbrev pub lost : ℤ
lost = negsuc 2147483647

unfoldable pub is_lost : ℤ → Bool
is_lost v = alike (rel v lost) Equal

-- the first lost stitch of a list
unfoldable pub first_lost_lem : List ℤ → Spot
first_lost_lem l = lowest (λ i. is_lost (at l i)) (length l)

-- none of a list's samples is lost
pub record NoneLost (l : List ℤ) : Type 0 where
  pub each : (i : ℕ) → i < length l → at l i ≡ lost → ⊥

-- the contrary, computed
unfoldable pub holds_lost_lem : List ℤ → Bool
holds_lost_lem l = not (is_none (first_lost_lem l))
