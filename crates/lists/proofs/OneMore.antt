-- Shows: how many windows are listed then, where there is room.
-- Assumes nothing.
use Prim.Native.Nat.{ℕ, ◌+◌, ◌<◌}
use mathlib.Core.Path.{◌≡◌, refl}
use mathlib.Core.List.{List}
use mathlib.Core.Bool.{Bool, true, false, cond}
use lib.ListN.{length}
use borrow.Author.Tests.{lt-ltb}
use Rattle.lists.specs.Lists.{listed_count}

-- where there is room the count goes by whether the window is listed alone
pub count-within : (l : List ℕ) (found : ℕ) (whole : Bool) → found < length l → listed_count l found whole ≡ cond whole (found + 1) found
count-within l found true h = rw (lt-ltb found (length l) h) refl
count-within l found false h = refl
