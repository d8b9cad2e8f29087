-- What the functions that find a place's neighbours tell each other: first the neighbour's value, then the last place that has it.
use Rattle.std.specs.Prelude.{ℕ, zero, suc, ◌+◌, ◌≤◌, ◌<◌, ◌≡◌, List, Bool, true, cond, ℤ}
use Rattle.std.specs.Int.Signed.{le_z}
use Rattle.order.specs.Sizes.{Spot, none, place, at, entry}
use Rattle.tables.specs.Inside.Claims.{NoneWithin}

-- y where it is on le's side of x; otherwise edge, the sample that comes before all others
abbrev pub on_side : (ℤ → ℤ → Bool) → ℤ → ℤ → ℤ → ℤ
on_side le edge x y = cond (le y x) y edge

-- of two samples the later in le's order
abbrev pub later : (ℤ → ℤ → Bool) → ℤ → ℤ → ℤ
later le a b = cond (le b a) a b

-- of the samples below place n on le's side of x the value nearest to it, or edge
unfoldable pub nearest_value : (ℤ → ℤ → Bool) → ℤ → List ℤ → ℤ → ℕ → ℤ
nearest_value le edge P x zero = edge
nearest_value le edge P x (suc n) = later le (nearest_value le edge P x n) (on_side le edge x (at P n))

-- x lies from lo to hi
pub record Within (lo hi x : ℤ) : Type 0 where
  pub not_less : le_z lo x ≡ true
  pub not_greater : le_z x hi ≡ true

-- the values nearest to place j's; up to there no sample lies beyond lo and hi, which stand for no neighbour
pub record NearestValues (lo hi : ℤ) (P : List ℤ) (j : ℕ) (below above : ℤ) : Type 0 where
  pub within : (i : ℕ) → i ≤ j → Within lo hi (at P i)
  pub low_value : below ≡ nearest_value le_z lo P (at P j) j
  pub high_value : above ≡ nearest_value (λ a b. le_z b a) hi P (at P j) j

-- a spot is the last place below n whose sample is v
abbrev pub LastAt : List ℤ → ℕ → ℤ → Spot → Type 0
LastAt P n v none = NoneWithin P 0 n v v
LastAt P n v (place k) = (k < n) × (at P k ≡ v) × NoneWithin P (k + 1) n v v

-- an entry tells that spot
pub record LastEqual (P : List ℤ) (n : ℕ) (v : ℤ) (r : ℕ) : Type 0 where
  pub spot : Spot
  pub entry_is : r ≡ entry spot
  pub last : LastAt P n v spot
