-- `goes` meets its contract: one machine comparison tells whether two samples compare as told.
use mathlib.Core.Path.{sym, ◌∙◌, ap, ap₂}
use lib.Signed.{lt_z}
use mir.Facts.{to_z-of_z}
use Rattle.order.specs.Relations.{rel, alike}
use Rattle.order.proofs.Comparing.{less_told, equal_told, greater_told}
use Rattle.search.proofs.steady.goes.Goals as goal

pub returns-in-Less : goal.returns-in-Less
returns-in-Less c =
    ap₂ lt_z (to_z-of_z c.ranges.a) (to_z-of_z c.ranges.b) ∙ less_told c.args.a c.args.b ∙ ap (alike (rel c.args.a c.args.b)) (sym c.in-Less.is)

pub returns-in-Equal : goal.returns-in-Equal
returns-in-Equal c =
    equal_told c.args.a c.args.b c.ranges.a c.ranges.b ∙ ap (alike (rel c.args.a c.args.b)) (sym c.in-Equal.is)

pub returns-in-Greater : goal.returns-in-Greater
returns-in-Greater c =
    ap₂ lt_z (to_z-of_z c.ranges.b) (to_z-of_z c.ranges.a) ∙ greater_told c.args.a c.args.b ∙ ap (alike (rel c.args.a c.args.b)) (sym c.in-Greater.is)
