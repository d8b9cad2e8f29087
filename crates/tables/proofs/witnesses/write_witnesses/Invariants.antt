-- `write_witnesses` meets its contract. The loop's invariant: the offsets passed are written in both tables, the rest is as
-- it was, and the stretch is known. The measure is the offsets left.
use mathlib.Core.Path.{◌≡◌}
use Prim.Native.Nat.{◌-◌}
use lib.ListN.{length}
use Rattle.tables.proofs.Turns.{Turn}
use Rattle.tables.proofs.witnesses.write_witnesses.Given as goal

abbrev pub invariant-loop-a : goal.invariant-loop-a
invariant-loop-a l =
    (l.a-end ≡ length l.pattern) × Turn l.pattern l.initial.witness_i l.initial.witness_j l.witness_i l.witness_j l.known.start l.known.end l.a

abbrev pub decreases-loop-a : goal.decreases-loop-a
decreases-loop-a l = l.a-end - l.a
