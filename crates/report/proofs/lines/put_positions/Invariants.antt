-- The positions passed are put, one to a line.
use Prim.Native.Nat.{◌+◌, ◌*◌, ◌≤◌}
use mathlib.Core.Path.{◌≡◌}
use mathlib.Core.List.{◌++◌}
use lib.ListN.{length, take}
use Rattle.report.specs.Texts.{lines}
use Rattle.report.specs.Inside.{line_room}
use Rattle.report.proofs.lines.put_positions.Given as goal

abbrev pub invariant-loop-position : goal.invariant-loop-position
invariant-loop-position l =
    (l.text ≡ l.fn.text ++ lines (take l.position-index l.positions)) × (length l.text ≤ length l.fn.text + line_room * l.position-index)
