-- What the functions inside this crate ask of each other and leave behind.
use Rattle.std.specs.Prelude.{ℕ, ◌+◌, ◌-◌, ◌*◌, ◌≤◌, max, ◌≡◌, List, [], ◌∷◌, ◌++◌, Bool, cond, ℤ, length, take, drop}
use Rattle.order.specs.declared.steps.Tested.{Tested}
use Rattle.order.specs.PlaceTest.{cost}
use Rattle.order.specs.Written.{over}
use Rattle.order.specs.Sweeping.{swept, tests, sweep_all_lem}
use Rattle.sweep.specs.Sweeps.{swept_of}

-- no sweep of lists that a machine of 64 bits holds spends more; far from where a count would not fit
abbrev pub count_limit : ℕ
count_limit = 9223372036854775808

-- window x of m places lies in the trace, with so much spent before its tests begin at sample `from`
pub record Testable (m : ℕ) (T : List ℤ) (x from before : ℕ) : Type 0 where
  pub inside : x + m ≤ length T
  pub begun : x ≤ from
  pub reached : from ≤ length T
  pub small : before ≤ count_limit

-- the tests of window x from sample `from` on, of m places, have come to `reach`, and it passed all or failed there
pub record SweptOne (test : ℕ → ℕ → Tested) (m x from before reach spent : ℕ) (whole : Bool) : Type 0 where
  pub result : (l : List ℕ) → tests cost test x (x + m - from) from before l ≡ swept reach spent (l ++ cond whole (x ∷ []) [])
  pub onward : from ≤ reach
  pub until : reach ≤ max from (x + m)
  pub bound : spent ≤ before + 2 * (reach - from) + 2

-- of the windows `all`, in a trace of n, xs are left to be swept; k of the entries of their list, of `kept`, are done
pub record SweptTo (test : ℕ → ℕ → Tested) (m n : ℕ) (all xs : List ℕ) (kept : ℕ) (before after : List ℕ) (k reach spent found : ℕ) : Type 0 where
  pub within : k ≤ kept
  pub few : found ≤ k
  pub reached : reach ≤ n
  pub bound : spent ≤ 2 * (reach + k)
  pub long : length after ≡ length before
  pub beyond : drop kept after ≡ drop kept before
  pub state : sweep_all_lem cost test m xs (swept reach spent (take found after)) ≡ sweep_all_lem cost test m all (swept 0 0 [])

-- all have been swept
pub record SweptAll (low high : List ℕ) (T : List ℤ) (ws before after : List ℕ) (spent found : ℕ) : Type 0 where
  pub cost_is : spent ≡ (swept_of low high T ws).total
  pub bound : spent ≤ 2 * (length T + length ws)
  pub found_is : found ≡ length (swept_of low high T ws).listed
  pub listed : after ≡ over (swept_of low high T ws).listed before
