-- Shows: a table's entry tells the place that it was made of, where that place is one of a pattern's.
-- Assumes nothing.
use mathlib.Core.Path.{◌≡◌, refl}
use Prim.Native.Nat.{ℕ, ◌≤◌, ◌<◌}
use native.Mathlib.Omega.{arith}
use Rattle.order.specs.Sizes.{Spot, none, place, entry, no_place}

-- a spot that lies below n, if it is a place
pub record Below (n : ℕ) (s : Spot) : Type 0 where
  pub below : (i : ℕ) → s ≡ place i → i < n

pub entry_none : {n : ℕ} (s : Spot) → Below n s → n ≤ no_place → entry s ≡ no_place → s ≡ none
unfolding entry
entry_none none b h e = refl
entry_none (place i) b h e = let k : i < _ = b.below i refl in absurd (omega arith)

pub entry_place : (s : Spot) → (entry s ≡ no_place → ⊥) → s ≡ place (entry s)
unfolding entry
entry_place none f = absurd (f refl)
entry_place (place i) f = refl

pub entry_of_place : (i : ℕ) → entry (place i) ≡ i
unfolding entry
entry_of_place i = refl

pub entry_of_none : entry none ≡ no_place
unfolding entry
entry_of_none = refl
