-- "Frames": grey levels as samples, over which the rules of the crate `order` speak.
use Rattle.std.specs.Prelude.{ℕ, List, ℤ, pos, get_or}
use Rattle.order.specs.Sizes.{each}

-- the first m grey levels of a buffer, as samples
unfoldable pub levels : List ℕ → ℕ → List ℤ
levels Q m = each (λ j. pos (get_or Q j 0)) m
