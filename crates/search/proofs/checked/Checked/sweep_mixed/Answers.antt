-- `sweep_mixed` meets its contract: the sweep of the survivors by the pattern's own tables is the rules'.
use mathlib.Core.Path.{refl}
use Rattle.search.proofs.SweepSteps.{mixed_answer, mixed_swept}
use Rattle.search.proofs.checked.Checked.sweep_mixed.Goals as goal

pub unwrap-requires : goal.unwrap-requires
unwrap-requires c = rw (mixed_answer c.args.self.own.neighbours c.requires.0 _ c.requires.1 c.sweep.ensures) refl

pub returns : goal.returns
returns c = mixed_swept c.args.self.own.neighbours c.requires.0 _ c.requires.1 c.unwrap.ensures c.sweep.ensures
