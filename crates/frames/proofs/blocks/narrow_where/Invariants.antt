-- `narrow_where` meets its contract. The loop's invariant: by any test that tells what the closure does, the entries passed are thinned out,
-- with their number.
use Prim.Native.Nat.{ℕ, ◌≤◌, ◌<◌}
use mathlib.Core.Path.{◌≡◌}
use mathlib.Core.Bool.{Bool}
use lib.ListN.{length}
use Rattle.frames.proofs.MaskLaws.{Thinned}
use Rattle.frames.proofs.blocks.narrow_where.Given as goal

abbrev pub invariant-loop-i : goal.invariant-loop-i
invariant-loop-i g l =
    (l.i ≤ length l.initial.mask) × (l.standing ≤ l.i)
    × ((t : ℕ → Bool) → ((i : ℕ) (r : Bool) → i < length l.initial.mask → goal.F-post g l.passes i r → r ≡ t i) → Thinned t l.initial.mask l.mask l.i l.standing)
