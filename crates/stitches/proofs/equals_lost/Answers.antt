-- `equals_lost` meets its contract: two samples are one exactly if their bits are.
use Rattle.stitches.proofs.Looks.{lost-told}
use borrow.Author.Rules.{rules}
use Rattle.stitches.proofs.equals_lost.Goals as goal

pub returns : goal.returns
returns c = lost-told _ (search rules)
