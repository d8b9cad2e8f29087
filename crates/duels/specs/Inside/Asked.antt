-- What the functions inside this crate ask of their callers, part by part.
use Rattle.std.specs.Prelude.{ℕ, ◌+◌, ◌≤◌, ◌<◌, ◌≡◌, List, true, ℤ, length}
use Rattle.order.specs.Sizes.{at}
use Rattle.order.specs.Relations.{rel}
use Rattle.order.specs.Lost.{is_lost}
use Rattle.stitches.specs.Inside.{FreeWithin}
use Rattle.duels.specs.declared.codes.Codes.{Codes}
use Rattle.duels.specs.Inside.Codes.{Coded}

-- a duel of window y with the one a before it, by the witness (i, j)
pub record Duelable (P T : List ℤ) (y a i j : ℕ) : Type 0 where
  pub i_inside : a + i < length P
  pub j_inside : a + j < length P
  pub i_reach : y + i < length T
  pub j_reach : y + j < length T
  pub differs : rel (at P i) (at P j) ≡ rel (at P (a + i)) (at P (a + j)) → ⊥

-- window x and a later window y of the trace
pub record Meetable (P : List ℤ) (wi wj : List ℕ) (codes : List Codes) (T : List ℤ) (x y : ℕ) : Type 0 where
  pub coded : Coded P wi wj codes (length P)
  pub later : x < y
  pub inside : y + length P ≤ length T

-- the first lost stitch from a sample on, or the trace's end
pub record LostFrom (T : List ℤ) (from end : ℕ) : Type 0 where
  pub onward : from ≤ end
  pub within : end ≤ length T
  pub before : FreeWithin T from end
  pub lost_there : end < length T → is_lost (at T end) ≡ true
