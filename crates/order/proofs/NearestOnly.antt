-- Shows: a place has one neighbour on a side and no second, so a spot with the marks of a neighbour is the one that `nearest` finds.
-- Assumes nothing.
use Prim.Native.Nat.{ℕ, ◌<◌, ◌≤◌}
use mathlib.Core.Path.{◌≡◌, refl, ap}
use mathlib.Core.List.{List}
use mathlib.Core.Bool.{Bool, true, false}
use native.Mathlib.Omega.{arith}
use lib.Dec.{leb}
use lib.IntN.{ℤ}
use borrow.Author.Tests.{leb-true, leb-false}
use Rattle.order.specs.Sizes.{Spot, none, place}
use Rattle.order.specs.Neighbours.{nearest}
use Rattle.order.proofs.Tests.{clash}
use Rattle.order.proofs.Nearest.{Ordering, Neighbour, Near, nearest_is}

module _ (le : ℤ → ℤ → Bool) (P : List ℤ) (j n : ℕ) where
  -- of two such places the one before would not be the rightmost
  not_after : (k l : ℕ) → Near le P j n k → Near le P j n l → k < l → ⊥
  not_after k l f g h = clash (g.best k f.below f.side) (f.rightmost l g.below h g.side)

  same_neighbour : (s t : Spot) → Neighbour le P j n s → Neighbour le P j n t → s ≡ t
  same_neighbour none none f g = refl
  same_neighbour none (place l) f g = clash g.side (f l g.below)
  same_neighbour (place k) none f g = clash f.side (g k f.below)
  same_neighbour (place k) (place l) f g = ap place (go (leb k l) (leb l k) refl refl)
    where
      go : (a b : Bool) → leb k l ≡ a → leb l k ≡ b → k ≡ l
      go true true x y = let u : k ≤ l = leb-true k l x in let w : l ≤ k = leb-true l k y in omega arith
      go true false x y = absurd (not_after k l f g (leb-false l k y))
      go false b x y = absurd (not_after l k g f (leb-false k l x))

pub nearest_only : {le : ℤ → ℤ → Bool} → Ordering le → (P : List ℤ) (j n : ℕ) (s : Spot) → Neighbour le P j n s → s ≡ nearest le P j n
nearest_only {le} o P j n s f = same_neighbour le P j n s (nearest le P j n) f (nearest_is o P j n)
