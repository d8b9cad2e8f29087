-- `list_block` meets its contract. The loop's invariant: the entries passed are listed.
use Prim.Native.Nat.{◌≤◌}
use mathlib.Core.Path.{◌≡◌}
use lib.ListN.{length}
use Rattle.search.specs.Inside.Runs.{block, listed_run}
use Rattle.search.proofs.steady.list_block.Given as goal

abbrev pub invariant-loop-i : goal.invariant-loop-i
invariant-loop-i l =
    (l.i ≤ block) × (length l.positions ≡ length l.initial.positions) × (l.positions ≡ listed_run l.survivors l.k l.found l.i l.initial.positions)
