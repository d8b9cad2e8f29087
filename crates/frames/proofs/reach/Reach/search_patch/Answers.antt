-- `search_patch` meets its contract: the neighbours that are written are those of the patch's own levels.
use native.Mathlib.Omega.{arith}
use Rattle.frames.proofs.PatchLaws.{patch_found}
use Rattle.frames.proofs.reach.Reach.search_patch.Goals as goal

pub returns : goal.returns
returns c = let i = c.args.self.inside in let w = c.level_neighbours in patch_found _ i (omega arith) c.requires.0 w.ensures i.few i.few (omega (arith, w.auto)) (omega (arith, w.auto)) c.search_by_neighbours.ensures
