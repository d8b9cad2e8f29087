-- A buffer as a stack, and what the duels leave in it.
use Rattle.std.specs.Prelude.{ℕ, zero, suc, ◌+◌, ◌-◌, ◌≤◌, ◌<◌, ◌≡◌, List, [], ◌∷◌, reverse, Bool, true, false, not, ℤ, length, get_or, drop, set, Option, None, Some, Result, Ok}
use Rattle.order.specs.declared.steps.Meeting.{Meeting}
use Rattle.order.specs.declared.steps.Meeting.TheVariants.{Agree}
use Rattle.order.specs.Sizes.{lowest, those, windows_of}
use Rattle.order.specs.Duels.{stacked, arrive_all_lem, is_struck, struck}
use Rattle.order.specs.Refusals.{accepted}
use Rattle.order.specs.Written.{over, filled}
use Rattle.stitches.specs.Inside.{FreeWithin}
use Rattle.duels.specs.declared.arrivals.Arrived.{Arrived}
use Rattle.duels.specs.declared.codes.Codes.{Codes}
use Rattle.duels.specs.declared.answers.Duelled.{Duelled}
use Rattle.duels.specs.declared.answers.Unfought.{Unfought}
use Rattle.duels.specs.DuelPromise.{untold_at, meets_by, stack_by, duels_by, after_duels, duelled_of}
use Rattle.duels.specs.Inside.Codes.{Coded}

-- the first k entries of a buffer, the last one on top
unfoldable pub top : List ℕ → ℕ → List ℕ
top l zero = []
top l (suc k) = get_or l k 0 ∷ top l k

-- n windows from x on, written from entry k on
unfoldable pub pushed_run : List ℕ → ℕ → ℕ → ℕ → List ℕ
pushed_run l k x zero = l
pushed_run l k x (suc n) = set (pushed_run l k x n) (k + n) (x + n)

-- of the windows below y those that pass a test have arrived, a of them, of which k are kept and b fell together with another: the
-- buffer's first k entries are the rules' stack
pub record Standing (meet : ℕ → ℕ → Meeting) (enters : ℕ → Bool) (l : List ℕ) (y a k b : ℕ) : Type 0 where
  pub number : a ≡ length (those enters y)
  pub count : k + b ≤ a
  pub stack : arrive_all_lem meet (those enters y) (stacked [] 0) ≡ stacked (top l k) (a - k - b)

-- the windows that take part
abbrev pub enters : List ℤ → List ℤ → ℕ → Bool
enters P T x = not (is_struck P T x)

-- the same of the trace's windows, by these tables
abbrev pub ArrivedOf : List ℤ → List ℕ → List ℕ → List ℤ → List ℕ → ℕ → Arrived → Type 0
ArrivedOf P wi wj T l y w = Standing (meets_by P wi wj T) (enters P T) l y w.windows w.kept w.both

-- a buffer of which only the first n entries were written
pub record SameBehind (n : ℕ) (before after : List ℕ) : Type 0 where
  pub beyond : drop n after ≡ drop n before
  pub same_length : length after ≡ length before

-- the windows from `from` up to `past` all take part
pub record RunAhead (P T : List ℤ) (from past : ℕ) : Type 0 where
  pub within : from ≤ past
  pub inside : past ≤ windows_of (length P) (length T)
  pub entering : (x : ℕ) → from ≤ x → x < past → is_struck P T x ≡ false

-- and those behind them, up to `next`, are struck
pub record RunOf (P T : List ℤ) (from past next : ℕ) : Type 0 where
  pub ahead : RunAhead P T from past
  pub onward : from < next
  pub over : past ≤ next
  pub reached : next ≤ length T + 1
  pub held : (x : ℕ) → past ≤ x → x < next → x < windows_of (length P) (length T) → is_struck P T x ≡ true

-- any two windows agree
pub record AllAgree (meet : ℕ → ℕ → Meeting) : Type 0 where
  pub agreeing : (x y : ℕ) → meet x y ≡ Agree

-- no sample of the trace is lost, and all windows are written down
pub record AllFree (T : List ℤ) (windows : ℕ) (before after : List ℕ) : Type 0 where
  pub free : FreeWithin T 0 (length T)
  pub pushed : after ≡ pushed_run before 0 0 windows

-- how windows meet: the codes of their offset tell, or there are none and all agree
pub record Way {A : Type 0} (P : List ℤ) (wi wj : List ℕ) (T : List ℤ) (codes : Option A) (now : A → List Codes) : Type 0 where
  pub agreeing : codes ≡ None → AllAgree (meets_by P wi wj T)
  pub coded : (c : A) → codes ≡ Some c → Coded P wi wj (now c) (length P)

-- all have arrived, and "unused" follows the kept windows
pub record KeptOf (P : List ℤ) (wi wj : List ℕ) (T : List ℤ) (before after : List ℕ) (d : Duelled) : Type 0 where
  pub answer : d ≡ duelled_of (stack_by P wi wj T) (struck P T)
  pub count : d.fought + d.kept + d.struck ≤ windows_of (length P) (length T)
  pub written : after ≡ over (filled (reverse (stack_by P wi wj T).kept) (windows_of (length P) (length T))) before

-- the same, or the lowest offset is told whose entries name a place and tell no witness
pub record Fought (P : List ℤ) (wi wj : List ℕ) (T : List ℤ) (before after : List ℕ) (r : Result Duelled Unfought) : Type 0 where
  pub answer : r ≡ duels_by accepted (lowest (untold_at P wi wj) (length P)) (duelled_of (stack_by P wi wj T) (struck P T))
  pub written : after ≡ after_duels r (filled (reverse (stack_by P wi wj T).kept) (windows_of (length P) (length T))) before
  pub bound : (d : Duelled) → r ≡ Ok d → d.fought + d.kept + d.struck ≤ windows_of (length P) (length T)
