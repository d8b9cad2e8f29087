-- What the sweep leaves, of one survivor and of all.
use Rattle.std.specs.Prelude.{ℕ, ◌+◌, ◌*◌, ◌≤◌, ◌<◌, ◌≡◌, List, Bool, ◌⊎◌, ℤ, length, get_or, take, drop}
use Rattle.order.specs.Duels.{survivors}
use Rattle.order.specs.Sweeping.{tests_of, sweep_cost, positions}
use Rattle.sweep.specs.Inside.{SweptOne as WindowSwept, SweptTo as WindowsSwept}
use Rattle.search.specs.Inside.Runs.{block, BlockAhead}

-- the tests of one survivor, by the rules
pub record SweptOne (P T : List ℤ) (x from before reach spent : ℕ) (whole : Bool) : Type 0 where
  pub tested : WindowSwept (tests_of P T) (length P) x from before reach spent whole

-- the tests of one survivor of a steady pattern: no more comparisons than samples passed and one that fails
pub record Climbed (P T : List ℤ) (x from before reach spent : ℕ) (whole : Bool) : Type 0 where
  pub swept_one : SweptOne P T x from before reach spent whole
  pub cheap : spent + from ≤ before + reach + 1

-- the first k survivors have been swept, into a list with room for all, and not past the end of the next
pub record SweptTo (P T : List ℤ) (kept : ℕ) (before after : List ℕ) (k reach spent found : ℕ) : Type 0 where
  pub room : kept ≤ length before
  pub ahead : k < kept → reach ≤ get_or (survivors P T) k 0 + length P
  pub so_far : WindowsSwept (tests_of P T) (length P) (length T) (survivors P T) (drop k (survivors P T)) kept before after k reach spent found

-- a turn of the sweep for a steady pattern has gone from survivor k to survivor k', with `wasted` comparisons of a look that failed: no
-- more than one for each sample passed and two for each survivor done. Where there is a block to look at, either it passed at what it is
-- charged or its comparisons are wasted
pub record TurnOf (P T : List ℤ) (buffer : List ℕ) (kept : ℕ) (before after : List ℕ) (k reach spent k' reach' spent' found' wasted : ℕ) : Type 0 where
  pub swept_on : SweptTo P T kept before after k' reach' spent' found'
  pub onward : k < k'
  pub cheap : spent' + wasted + (reach + 2 * k) ≤ spent + (reach' + 2 * k')
  pub looked : BlockAhead P buffer kept k reach → 1 < length P → ((k' ≡ k + block) × (spent' ≡ spent + block)) ⊎ (wasted ≡ block)

-- such a sweep has come to survivor k, after one survivor or none by itself and then turn by turn, and all its turns have wasted so much
pub data Turned (P T : List ℤ) (buffer : List ℕ) (kept : ℕ) : ℕ → ℕ → ℕ → ℕ → Type 0 where
  first : {before after : List ℕ} {k reach spent found : ℕ} → SweptTo P T kept before after k reach spent found → k ≤ 1 → Turned P T buffer kept k reach spent 0
  turn : {before after : List ℕ} {k reach spent wasted k' reach' spent' found' more : ℕ} → Turned P T buffer kept k reach spent wasted
      → TurnOf P T buffer kept before after k reach spent k' reach' spent' found' more → Turned P T buffer kept k' reach' spent' (wasted + more)

-- and has come to the end
pub record TurnedAll (P T : List ℤ) (buffer : List ℕ) (kept spent wasted : ℕ) : Type 0 where
  pub k : ℕ
  pub reach : ℕ
  pub done : kept ≤ k
  pub turned : Turned P T buffer kept k reach spent wasted

-- all have been swept: `spent` is W, and with what was wasted on looks that failed it is at most 2(n + S)
pub record SweepOf (P T : List ℤ) (kept : ℕ) (before after : List ℕ) (spent wasted found : ℕ) : Type 0 where
  pub cost_is : spent ≡ sweep_cost P T
  pub bound : spent + wasted ≤ 2 * (length T + kept)
  pub listed : take found after ≡ positions P T
  pub few : found ≤ kept
  pub beyond : drop kept after ≡ drop kept before
  pub same_length : length after ≡ length before
