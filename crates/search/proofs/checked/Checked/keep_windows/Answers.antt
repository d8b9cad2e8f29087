-- `keep_windows` meets its contract: by the pattern's own tables the duels are the rules', and they are always fought.
use mathlib.Core.Path.{refl}
use Rattle.search.proofs.OwnDuels.{answered, survivors_out}
use Rattle.search.proofs.checked.Checked.keep_windows.Goals as goal

pub unwrap-requires : goal.unwrap-requires
unwrap-requires c = rw (answered c.args.self.own c.requires c.duel_windows.ensures) refl

pub returns : goal.returns
returns c = survivors_out c.args.self.own c.requires c.duel_windows.ensures c.unwrap.ensures
