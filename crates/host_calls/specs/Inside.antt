-- What the functions inside this crate ask of their callers and leave behind, part by part. Lengths are in bytes where they are
-- the host's.
use Rattle.std.specs.Prelude.{ℕ, ◌/◌, ◌≤◌, ◌≡◌, List, ℤ, length}
use Rattle.order.specs.Sizes.{none, trace_limit, windows_of}
use Rattle.order.specs.Lost.{first_lost_lem}
use Rattle.order.specs.Neighbours.{low_table, high_table}
use Rattle.order.specs.Witnesses.{witness_i_table, witness_j_table}
use Rattle.order.specs.Written.{over}
use Rattle.sizes.specs.Lengths.{Room}
use Rattle.words.specs.Bytes.{bytes_of}
use Rattle.host_calls.specs.declared.lent.Buffers.{Buffers}
use Rattle.host_calls.specs.declared.lent.TableBuffers.{TableBuffers}

-- the pattern's four tables are written, as bytes, over what the host's held
pub record TablesPut (P : List ℤ) (low high wi wj low' high' wi' wj' : List ℕ) : Type 0 where
  pub low_put : low' ≡ over (bytes_of 2 (low_table P)) low
  pub high_put : high' ≡ over (bytes_of 2 (high_table P)) high
  pub witness_i_put : wi' ≡ over (bytes_of 2 (witness_i_table P)) wi
  pub witness_j_put : wj' ≡ over (bytes_of 2 (witness_j_table P)) wj

-- a pattern and lengths that a search accepts, and its number of windows
pub record Fits (P : List ℤ) (low high wi wj trace kept listed windows : ℕ) : Type 0 where
  pub unlost : first_lost_lem P ≡ none
  pub room : Room (length P) (low / 2) (high / 2) (wi / 2) (wj / 2)
  pub trace_bound : trace / 4 ≤ trace_limit
  pub number : windows ≡ windows_of (length P) (trace / 4)
  pub few : windows ≤ trace / 4
  pub kept_room : windows ≤ kept / 4
  pub listed_room : windows ≤ listed / 4

-- the same references, whatever stands behind them
abbrev pub SameTables : TableBuffers → TableBuffers → Type 0
SameTables old new =
    (new.low.ghost_name ≡ old.low.ghost_name) × (new.high.ghost_name ≡ old.high.ghost_name) × (new.witness_i.ghost_name ≡ old.witness_i.ghost_name)
    × (new.witness_j.ghost_name ≡ old.witness_j.ghost_name)

abbrev pub SameBuffers : Buffers → Buffers → Type 0
SameBuffers old new =
    (new.survivors.ghost_name ≡ old.survivors.ghost_name) × (new.positions.ghost_name ≡ old.positions.ghost_name) × (new.counts.ghost_name ≡ old.counts.ghost_name)
