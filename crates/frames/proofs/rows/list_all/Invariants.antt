-- `list_all` meets its contract. The loop's invariant: the columns passed are written.
use Prim.Native.Nat.{◌+◌}
use Rattle.order.proofs.Filling.{Filled}
use Rattle.frames.proofs.rows.list_all.Given as goal

abbrev pub invariant-loop-i : goal.invariant-loop-i
invariant-loop-i l = Filled (λ i. l.base + i) l.i l.initial.entries l.entries
