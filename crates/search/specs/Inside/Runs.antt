-- Blocks of the sweep for a steady pattern: survivors that start one after the other, of which each has its last place alone left.
use Rattle.std.specs.Prelude.{ℕ, zero, suc, ◌+◌, ◌-◌, ◌*◌, ◌≤◌, ◌<◌, ◌≡◌, Bool, true, List, ℤ, length, get_or, drop, set}
use Rattle.std.specs.declared.cmp.Ordering.{Ordering}
use Rattle.order.specs.declared.steps.Tested.TheVariants.{Passed}
use Rattle.order.specs.PlaceTest.{test_of}
use Rattle.order.specs.EntryTest.{told}

-- the windows of a block
abbrev pub block : ℕ
block = 64

-- each of the count samples after sample e compares with the one before it as `way` tells
pub record GoesOn (T : List ℤ) (e count : ℕ) (way : Ordering) : Type 0 where
  pub each : (k : ℕ) → k < count → told T (e + 1 + k) (e + k) way ≡ true

-- so many survivors from survivor k on, the first of them window x, start one after the other, and the tests have come to the first's
-- last place; each passes there, at `total` in all
pub record RunOf (P T : List ℤ) (buffer : List ℕ) (kept k reach windows total : ℕ) : Type 0 where
  pub within : k + windows ≤ kept
  pub x : ℕ
  pub last : reach + 1 ≡ x + length P
  pub each : ℕ
  pub sum : total ≡ windows * each
  pub beside : (i : ℕ) → i < windows → get_or buffer (k + i) 0 ≡ x + i
  pub passes : (i : ℕ) → i < windows → test_of P (drop (x + i) T) (length P - 1) ≡ Passed each

-- there is a block to look at: of so many survivors from survivor k on the last starts one sample less after the first, and the tests have
-- come to the first's last place
pub record BlockAhead (P : List ℤ) (buffer : List ℕ) (kept k reach : ℕ) : Type 0 where
  pub within : k + block ≤ kept
  pub apart : get_or buffer (k + (block - 1)) 0 ≡ get_or buffer k 0 + (block - 1)
  pub last : reach + 1 ≡ get_or buffer k 0 + length P

-- what a look tells: a block that passes at what the look made; where there is one with something to compare that is a comparison a window,
-- and in no case more than there are survivors left
pub record LookOf (P T : List ℤ) (buffer : List ℕ) (kept k reach : ℕ) (whole : Bool) (made : ℕ) : Type 0 where
  pub passing : whole ≡ true → RunOf P T buffer kept k reach block made
  pub looked : BlockAhead P buffer kept k reach → 1 < length P → made ≡ block
  pub few : made ≤ block
  pub ahead : k + made ≤ kept

-- n entries of the survivors' buffer, from entry k on, listed from entry `found` on
unfoldable pub listed_run : List ℕ → ℕ → ℕ → ℕ → List ℕ → List ℕ
listed_run buffer k found zero l = l
listed_run buffer k found (suc n) l = set (listed_run buffer k found n l) (found + n) (get_or buffer (k + n) 0)
