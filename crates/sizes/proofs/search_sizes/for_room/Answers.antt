-- `for_room` meets its contract, condition by condition.
use Rattle.sizes.proofs.VerdictRows.{room-long, room-survivors, room-positions, room_fine}
use Rattle.sizes.proofs.search_sizes.for_room.Goals as goal

pub returns-then-n-gt-TRACE_LIMIT : goal.returns-then-n-gt-TRACE_LIMIT
returns-then-n-gt-TRACE_LIMIT c = room-long _ _ _ _ c.if-n-gt-TRACE_LIMIT.true

pub returns-then-survivors-windows : goal.returns-then-survivors-windows
returns-then-survivors-windows c =
    room-survivors _ _ _ _ c.if-n-gt-TRACE_LIMIT.false c.count_windows-windows.ensures c.if-survivors-windows.true

pub returns-then-positions-windows : goal.returns-then-positions-windows
returns-then-positions-windows c =
    room-positions _ _ _ _ c.if-n-gt-TRACE_LIMIT.false c.count_windows-windows.ensures c.if-survivors-windows.false c.if-positions-windows.true

pub returns : goal.returns
returns c =
    room_fine _ _ _ _ c.if-n-gt-TRACE_LIMIT.false c.count_windows-windows.ensures c.if-survivors-windows.false c.if-positions-windows.false
