-- "Isomorphic": two lists of one length whose samples stand in the same order. `Iso` says it, `is_iso` computes it by going
-- over all pairs of places.
use Rattle.std.specs.Prelude.{ℕ, zero, suc, ◌<◌, ◌≡◌, List, Bool, true, ◌&&◌, eqb, ℤ, length}
use Rattle.std.specs.Bool.{beq}
use Rattle.std.specs.Int.Signed.{le_z}
use Rattle.order.specs.Sizes.{at}

-- of any two places, the first's sample is at most the second's in u exactly if it is so in v
pub record Iso (u v : List ℤ) : Type 0 where
  pub lengths : length u ≡ length v
  pub order : (i j : ℕ) → i < length u → j < length u → le_z (at u i) (at u j) ≡ le_z (at v i) (at v j)

-- whether every number below n passes a test
unfoldable pub all_below : ℕ → (ℕ → Bool) → Bool
all_below zero p = true
all_below (suc n) p = all_below n p && p n

-- the same, computed
unfoldable pub is_iso : List ℤ → List ℤ → Bool
is_iso u v =
    eqb (length u) (length v) &&
    all_below (length u) (λ i. all_below (length u) (λ j. beq (le_z (at u i) (at u j)) (le_z (at v i) (at v j))))
