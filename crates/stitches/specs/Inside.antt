-- What functions of this crate, and of those above it that look for lost stitches themselves, tell each other; none of it is promised to a
-- caller.
use Rattle.std.specs.Prelude.{ℕ, ◌≤◌, ◌<◌, ◌≡◌, List, false, ℤ}
use Rattle.order.specs.Sizes.{at}
use Rattle.order.specs.Lost.{is_lost}

-- no sample from `from` up to `end` is lost
pub record FreeWithin (l : List ℤ) (from end : ℕ) : Type 0 where
  pub free : (i : ℕ) → from ≤ i → i < end → is_lost (at l i) ≡ false
