-- How the pattern compares with itself at each offset's witness, kept beside the witness tables for each of the two windows.
use Rattle.std.specs.Prelude.{ℕ, ◌+◌, ◌≤◌, ◌<◌, ◌≡◌, List, true, false, ℤ, length, get_or, Option, None, Some, Result, Ok, Err}
use Rattle.std.specs.declared.cmp.Ordering.{Ordering}
use Rattle.std.specs.declared.cmp.Ordering.TheVariants.{Less, Equal, Greater}
use Rattle.order.specs.Sizes.{at, no_place, place, lowest}
use Rattle.order.specs.Relations.{rel}
use Rattle.duels.specs.declared.answers.Unfought.{Unfought}
use Rattle.duels.specs.declared.answers.Unfought.TheVariants.{Untold}
use Rattle.duels.specs.declared.codes.Codes.{Codes}
use Rattle.duels.specs.DuelPromise.{tells_witness, untold_at}

-- a relation as a number
abbrev pub code : Ordering → ℕ
code Less = 0
code Equal = 1
code Greater = 2

-- how places i and j of the pattern from offset a on compare: at the witness (i, j) of offset a so do the older window's
abbrev pub own_code_lem : List ℤ → ℕ → ℕ → ℕ → ℕ
own_code_lem P a i j = code (rel (at P (a + i)) (at P (a + j)))

-- and the newer's, from the pattern's start on
abbrev pub start_code : List ℤ → ℕ → ℕ → ℕ
start_code P i j = code (rel (at P i) (at P j))

-- the two codes of an offset whose entries are (i, j), which tell a witness; where the first is none they are not looked at
pub record CodesOf (P : List ℤ) (a i j : ℕ) (c : Codes) : Type 0 where
  pub told : (i ≡ no_place → ⊥) → (tells_witness P a i j ≡ true) × (c.older ≡ own_code_lem P a i j) × (c.newer ≡ start_code P i j)

-- what stands where nothing was written
abbrev pub unseen : Codes
unseen = record { older = 0; newer = 0 }

-- a list that has both for the offsets below n
pub record Coded (P : List ℤ) (wi wj : List ℕ) (codes : List Codes) (n : ℕ) : Type 0 where
  pub long : length P ≤ length codes
  pub each : (a : ℕ) → a < n → CodesOf P a (get_or wi a 0) (get_or wj a 0) (get_or codes a unseen)

-- what becomes of an offset: its codes, or that its entries name a place and tell no witness
abbrev pub Looked : List ℤ → ℕ → ℕ → ℕ → Option Codes → Type 0
Looked P a i j (Some c) = CodesOf P a i j c
Looked P a i j None = (i ≡ no_place → ⊥) × (tells_witness P a i j ≡ false)

-- the lowest offset whose entries name a place and tell no witness is told
pub record Stopped (P : List ℤ) (wi wj : List ℕ) (why : Unfought) : Type 0 where
  pub a : ℕ
  pub is : why ≡ Untold a
  pub first : lowest (untold_at P wi wj) (length P) ≡ place a

-- all offsets have codes, or one has none
abbrev pub CodedTo : List ℤ → List ℕ → List ℕ → List Codes → Result Unit Unfought → Type 0
CodedTo P wi wj codes (Ok u) = Coded P wi wj codes (length P)
CodedTo P wi wj codes (Err why) = Stopped P wi wj why

-- no offset below n has an entry that names a place
pub record NoneBelow (wi : List ℕ) (n : ℕ) : Type 0 where
  pub none : (a : ℕ) → a < n → get_or wi a 0 ≡ no_place
