-- "Demands": what is promised of every accepted search of the pattern P in the trace T, said outright of its answer: the windows
-- kept, the windows listed, and the counts c.
use Rattle.std.specs.Prelude.{ℕ, ◌+◌, ◌-◌, ◌*◌, ◌≤◌, ◌<◌, ◌≡◌, ◌↔◌, ◌⊎◌, ℤ, length, take, drop}
use mathlib.Core.List.{List, Memᴰ}
use Rattle.order.specs.declared.steps.Counts.{Counts}
use Rattle.order.specs.Sizes.{windows_of, window}
use Rattle.order.specs.Lost.{NoneLost}
use Rattle.order.specs.Isomorphic.{Iso}
use Rattle.order.specs.Duels.{struck, duels, survivors}
use Rattle.order.specs.Sweeping.{sweep_cost}
use Rattle.order.specs.Written.{occurrences}

pub record Demands (P T : List ℤ) (kept listed : List ℕ) (c : Counts) : Type 0 where
  -- demand 2: the list is the list of the windows without a lost stitch that are isomorphic with the pattern, ascending, once each
  pub exact : listed ≡ occurrences P T
  pub each_listed : (x : ℕ) → Memᴰ x listed
      ↔ (x < windows_of (length P) (length T)) × NoneLost (window T x (length P)) × Iso P (window T x (length P))
  -- demand 3: the duels strike no such window
  pub unstruck : (x : ℕ) → x < windows_of (length P) (length T) → NoneLost (window T x (length P)) → Iso P (window T x (length P)) → Memᴰ x kept
  -- no survivor holds a lost stitch
  pub none_lost : (x : ℕ) → Memᴰ x kept → NoneLost (window T x (length P))
  -- any two survivors agree: they are m or more apart, or the pattern less its last values is isomorphic with it less its first
  pub agreeing : (x y : ℕ) → Memᴰ x kept → Memᴰ y kept → x < y
      → (length P ≤ y - x) ⊎ Iso (take (length P - (y - x)) P) (drop (y - x) P)
  -- D + S is at most N less the struck
  pub duelling : c.duels + c.survivors + c.struck ≤ c.windows
  -- W ≤ 2(n + S)
  pub sweeping : c.sweep ≤ 2 * (length T + c.survivors)
  -- N, D, the survivors, S, W, R and the number struck are the rules' own
  pub windows_are : c.windows ≡ windows_of (length P) (length T)
  pub duels_are : c.duels ≡ duels P T
  pub kept_are : kept ≡ survivors P T
  pub kept_number : c.survivors ≡ length kept
  pub sweep_is : c.sweep ≡ sweep_cost P T
  pub listed_number : c.found ≡ length listed
  pub struck_are : c.struck ≡ struck P T
