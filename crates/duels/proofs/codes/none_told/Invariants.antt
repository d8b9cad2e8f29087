-- `none_told` meets its contract. The loop's invariant: if the flag still stands, the entries passed are none.
use mathlib.Core.Path.{◌≡◌}
use mathlib.Core.Bool.{true}
use Rattle.duels.specs.Inside.Codes.{NoneBelow}
use Rattle.duels.proofs.codes.none_told.Given as goal

abbrev pub invariant-loop-i : goal.invariant-loop-i
invariant-loop-i l = (l.all ≡ true → NoneBelow l.i-items l.i-index)
