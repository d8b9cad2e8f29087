-- "Agree": which two windows the witness tables let stand beside each other.
use Rattle.std.specs.Prelude.{ℕ, ◌+◌, ◌-◌, List, Bool, ◌||◌, leb, eqb, ℤ, length, get_or}
use Rattle.order.specs.Sizes.{no_place, is_none}
use Rattle.order.specs.Witnesses.{witness_j_of}

-- how far apart two windows start, whichever comes first
abbrev pub distance : ℕ → ℕ → ℕ
distance x y = (x - y) + (y - x)

-- windows x < y agree if they are m or more apart, or their offset has no witness
unfoldable pub agree : List ℤ → ℕ → ℕ → Bool
agree P x y = leb (length P) (y - x) || is_none (witness_j_of P (y - x))

-- the call on two windows, on a table of first entries as it stands: equal starts agree and read no entry
unfoldable pub agree_by_table : ℕ → List ℕ → ℕ → ℕ → Bool
agree_by_table m ws x y = eqb x y || (leb m (distance x y) || eqb (get_or ws (distance x y) 0) no_place)
