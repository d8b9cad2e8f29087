-- What the functions inside this crate ask of their callers and tell them, part by part.
use Rattle.std.specs.Prelude.{ℕ, ◌≤◌, ◌<◌, ◌≡◌, List, ℤ, length, get_or, take}
use Rattle.order.specs.Sizes.{entry, pattern_limit, trace_limit, windows_of}
use Rattle.order.specs.Witnesses.{witness_i_of, witness_j_of}
use Rattle.order.specs.Written.{over, counts_of, filled}
use Rattle.order.specs.Duels.{struck, duels, survivors}
use Rattle.order.specs.Sweeping.{positions}
use Rattle.order.specs.declared.steps.Counts.{Counts}
use Rattle.tables.specs.Inside.Asked.{OwnNeighbours}
use Rattle.duels.specs.declared.answers.Duelled.{Duelled}

-- the witness tables are the pattern's own below its length
pub record OwnWitnesses (P : List ℤ) (wi wj : List ℕ) : Type 0 where
  pub limit : length P ≤ pattern_limit
  pub i_long : length P ≤ length wi
  pub j_long : length P ≤ length wj
  pub i_own : (a : ℕ) → a < length P → get_or wi a 0 ≡ entry (witness_i_of P a)
  pub j_own : (a : ℕ) → a < length P → get_or wj a 0 ≡ entry (witness_j_of P a)

-- what the duels leave: the survivors, with "unused" behind them
pub record SurvivorsOf (P T : List ℤ) (before after : List ℕ) (d : Duelled) : Type 0 where
  pub number : d.kept ≡ length (survivors P T)
  pub fought_is : d.fought ≡ duels P T
  pub struck_is : d.struck ≡ struck P T
  pub written : after ≡ over (filled (survivors P T) (windows_of (length P) (length T))) before

-- the survivors, in the first entries of their buffer
pub record Kept (P T : List ℤ) (buffer : List ℕ) (kept : ℕ) : Type 0 where
  pub trace : length T ≤ trace_limit
  pub held : take kept buffer ≡ survivors P T
  pub kept_long : kept ≤ length buffer

-- everything that a search checks before it stores, but for the room in its buffers
pub record Searchable (P : List ℤ) (low high wi wj : List ℕ) (T : List ℤ) (windows : ℕ) : Type 0 where
  pub some : 0 < length P
  pub number : windows ≡ windows_of (length P) (length T)
  pub neighbours : OwnNeighbours P low high
  pub witnesses : OwnWitnesses P wi wj
  pub trace : length T ≤ trace_limit

-- what a search leaves
pub record SearchedOf (P T : List ℤ) (kept listed kept' listed' : List ℕ) (c : Counts) : Type 0 where
  pub counts : c ≡ counts_of P T
  pub survivors_written : kept' ≡ over (filled (survivors P T) (windows_of (length P) (length T))) kept
  pub positions_written : listed' ≡ over (filled (positions P T) (windows_of (length P) (length T))) listed
