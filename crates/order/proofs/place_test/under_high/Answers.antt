-- `under_high` meets its contract: the machine's comparison of two samples tells how they compare.
use mathlib.Core.Bool.{true, false}
use borrow.Author.Rules.{rules}
use Rattle.order.proofs.Comparing.{less_there_lem}
use Rattle.order.proofs.EntrySteps.{no_high, high_told}
use Rattle.order.proofs.place_test.under_high.Goals as goal

pub returns-then-v-above : goal.returns-then-v-above
returns-then-v-above c = rw (← c.from-above.ensures) (no_high _ _ _ _ c.if-v-above.true)

pub returns-then-v-j : goal.returns-then-v-j
returns-then-v-j c =
    rw (← c.from-above.ensures)
    (high_told _ _ _ _ {t = true} c.if-v-above.false (less_there_lem c.args.v.now c.args.j c.from-above.result (search rules) (search rules)) c.if-v-j.true)

pub returns : goal.returns
returns c =
    rw (← c.from-above.ensures)
    (high_told _ _ _ _ {t = false} c.if-v-above.false (less_there_lem c.args.v.now c.args.j c.from-above.result (search rules) (search rules)) c.if-v-j.false)
