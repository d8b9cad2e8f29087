-- `agree` meets its contract: the sizes' verdict, and then the table's at the offset of the two starts.
use mathlib.Core.Path.{sym, ◌∙◌}
use Rattle.order.proofs.Answered.{ok_accepted}
use Rattle.sizes.proofs.Verdicts.{agree-room}
use Rattle.agreement.proofs.Agreed.{agree_compared}
use Rattle.agreement.proofs.windows.agree.Goals as goal

pub agree_at-requires : goal.agree_at-requires
agree_at-requires c =
    agree-room _ _ _ (ok_accepted _ tt (sym c.in_ok-for_agreement.was ∙ c.for_agreement.ensures)).0

pub returns : goal.returns
returns c =
    agree_compared _ _ _ _ _ _ (sym c.in_ok-for_agreement.was ∙ c.for_agreement.ensures) c.between.ensures c.agree_at.ensures
