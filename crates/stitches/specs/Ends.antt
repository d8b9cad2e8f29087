-- A place of a list, or the list's end where there is none.
use Rattle.std.specs.Prelude.{ℕ}
use Rattle.order.specs.Sizes.{Spot, none, place}

abbrev pub or_end : Spot → ℕ → ℕ
or_end none end = end
or_end (place i) end = i
