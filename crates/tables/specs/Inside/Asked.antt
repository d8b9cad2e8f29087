-- What the functions inside this crate ask of their callers and tell them, part by part.
use Rattle.std.specs.Prelude.{ℕ, ◌+◌, ◌-◌, ◌≤◌, ◌<◌, ◌≡◌, List, ℤ, length, get_or, drop}
use Rattle.order.specs.Sizes.{none, entry, pattern_limit}
use Rattle.order.specs.Neighbours.{low_of, high_of, low_table, high_table}
use Rattle.order.specs.Witnesses.{first_fail, witness_i_of, witness_j_of, witness_i_table, witness_j_table}
use Rattle.order.specs.Written.{over}

-- the pattern's four tables are written over what the buffers held
pub record TablesWritten (P : List ℤ) (low high wi wj low' high' wi' wj' : List ℕ) : Type 0 where
  pub low_written : low' ≡ over (low_table P) low
  pub high_written : high' ≡ over (high_table P) high
  pub witness_i_written : wi' ≡ over (witness_i_table P) wi
  pub witness_j_written : wj' ≡ over (witness_j_table P) wj

-- tables that hold the pattern's own neighbours
pub record OwnNeighbours (P : List ℤ) (low high : List ℕ) : Type 0 where
  pub limit : length P ≤ pattern_limit
  pub low_room : length P ≤ length low
  pub high_room : length P ≤ length high
  pub low_own : (j : ℕ) → j < length P → get_or low j 0 ≡ entry (low_of P j)
  pub high_own : (j : ℕ) → j < length P → get_or high j 0 ≡ entry (high_of P j)

-- i and j are the entries of offset a
pub record OwnWitness (P : List ℤ) (a i j : ℕ) : Type 0 where
  pub neighbour : i ≡ entry (witness_i_of P a)
  pub failing : j ≡ entry (witness_j_of P a)

-- at offset a the tests of the places below j are known to pass
pub record KnownBelow (P : List ℤ) (a j : ℕ) : Type 0 where
  pub inside : a + j ≤ length P
  pub known : first_fail P (drop a P) j ≡ none

-- the witness tables hold the pattern's own entries for the offsets below a
pub record OwnBelow (P : List ℤ) (wi wj : List ℕ) (a : ℕ) : Type 0 where
  pub inside : a < length P
  pub witness_i_room : length P ≤ length wi
  pub witness_j_room : length P ≤ length wj
  pub witness_i_own : (k : ℕ) → k < a → get_or wi k 0 ≡ entry (witness_i_of P k)
  pub witness_j_own : (k : ℕ) → k < a → get_or wj k 0 ≡ entry (witness_j_of P k)

-- the pattern's places from `start` up to `end` stand in the order of its first places, and start lies at a or before
pub record Stretched (P : List ℤ) (a start end : ℕ) : Type 0 where
  pub later : 0 < start
  pub reached : start ≤ a
  pub within : end ≤ length P
  pub in_order : first_fail P (drop start P) (end - start) ≡ none
