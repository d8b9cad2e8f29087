-- `goes_on` meets its contract. The loop's invariant: if the flag still stands, the samples passed go the pattern's way. The measure is
-- the samples left.
use Prim.Native.Nat.{◌-◌}
use mathlib.Core.Path.{◌≡◌}
use mathlib.Core.Bool.{true}
use Rattle.search.specs.Inside.Runs.{block, GoesOn}
use Rattle.search.proofs.steady.goes_on.Given as goal

abbrev pub invariant-loop-k : goal.invariant-loop-k
invariant-loop-k l = (l.all ≡ true → GoesOn l.trace l.e l.k l.way)

abbrev pub decreases-loop-k : goal.decreases-loop-k
decreases-loop-k l = block - l.k
