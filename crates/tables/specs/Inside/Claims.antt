-- What the functions that look at claimed neighbours ask of each other and tell, part by part.
use Rattle.std.specs.Prelude.{ℕ, ◌≤◌, ◌<◌, ◌≡◌, List, Bool, true, false, cond, ltb, ℤ, pos, negsuc}
use Rattle.std.specs.Int.Signed.{le_z}
use Rattle.order.specs.Sizes.{at, entry}
use Rattle.order.specs.Neighbours.{nearest, low_of, high_of}

-- the least and the greatest sample
abbrev pub least : ℤ
least = negsuc 2147483647

abbrev pub greatest : ℤ
greatest = pos 2147483647

-- x, a sample, lies below lo or above hi
pub record Outside (lo hi x : ℤ) : Type 0 where
  pub not_less : le_z least x ≡ true
  pub not_greater : le_z x greatest ≡ true
  pub beyond : le_z lo x ≡ true → le_z x hi ≡ false

-- so do the samples at the places from..to
pub record NoneWithin (P : List ℤ) (from to : ℕ) (lo hi : ℤ) : Type 0 where
  pub clear : (i : ℕ) → from ≤ i → i < to → Outside lo hi (at P i)

-- a limit at place i: one below `start`, another from there on
abbrev pub limit_at : ℕ → ℤ → ℤ → ℕ → ℤ
limit_at start before after i = cond (ltb i start) before after

-- what the neighbour k of place j, claimed on the side that le tells, forbids: if the earlier samples on that side keep clear of
-- the limits, k is right; edge is the sample that none lies beyond
pub record Limits (le : ℤ → ℤ → Bool) (edge : ℤ) (P : List ℤ) (j k start : ℕ) (before after : ℤ) : Type 0 where
  pub reach : start ≤ j
  pub beside : (i : ℕ) → le (limit_at start before after i) (at P j) ≡ true
  pub own : ((i : ℕ) → i < j → le (at P i) (at P j) ≡ true → (le edge (at P i) ≡ true) × (le (limit_at start before after i) (at P i) ≡ false)) → k ≡ entry (nearest le P j j)

abbrev pub Floor : List ℤ → ℕ → ℕ → ℕ → ℤ → ℤ → Type 0
Floor = Limits le_z least

abbrev pub Ceiling : List ℤ → ℕ → ℕ → ℕ → ℤ → ℤ → Type 0
Ceiling = Limits (λ a b. le_z b a) greatest

-- no sample before place j lies from one limit to the other
pub record NoneBetween (P : List ℤ) (j start : ℕ) (before after : ℤ) (start' : ℕ) (before' after' : ℤ) : Type 0 where
  pub clear : (i : ℕ) → i < j → Outside (limit_at start before after i) (limit_at start' before' after' i) (at P i)

-- l and h are the entries of place j
pub record OwnEntries (P : List ℤ) (j l h : ℕ) : Type 0 where
  pub low_own : l ≡ entry (low_of P j)
  pub high_own : h ≡ entry (high_of P j)
