-- `test_place` meets its contract: each way through the code is one case of the test by the two entries, and the machine's comparison of
-- two samples tells how they compare.
use mathlib.Core.Path.{◌∙◌}
use mathlib.Core.Bool.{true, false}
use borrow.Author.Tests.{eq-eqb, ne_eqb}
use borrow.Author.Rules.{rules}
use Rattle.order.proofs.Comparing.{equal_there_lem, greater_there_lem}
use Rattle.order.proofs.EntrySteps.{past_end, no_low, one_told, low_passed, low_failed}
use Rattle.order.proofs.place_test.test_place.Goals as goal

pub returns-then-v-here : goal.returns-then-v-here
returns-then-v-here c = past_end _ _ _ _ c.if-v-here.true

pub returns-then-v-below : goal.returns-then-v-below
returns-then-v-below c = rw (← c.from-below.ensures) (no_low _ _ _ _ c.if-v-here.false c.if-v-below.true c.under_high.ensures)

pub returns-then-v-here-2 : goal.returns-then-v-here-2
returns-then-v-here-2 c =
    rw (← c.from-below.ensures)
    (one_told _ _ _ _ {t = true} c.if-v-here.false c.if-v-below.false (c.from-below.ensures ∙ c.if-low-high.true)
    (equal_there_lem c.args.v.now c.args.j.0 c.from-below.result (search rules) (search rules)) (eq-eqb _ _ c.if-v-here-2.true))

pub returns-then-low-high : goal.returns-then-low-high
returns-then-low-high c =
    rw (← c.from-below.ensures)
    (one_told _ _ _ _ {t = false} c.if-v-here.false c.if-v-below.false (c.from-below.ensures ∙ c.if-low-high.true)
    (equal_there_lem c.args.v.now c.args.j.0 c.from-below.result (search rules) (search rules)) (ne_eqb _ _ c.if-v-here-2.false))

pub returns-then-v-below-2 : goal.returns-then-v-below-2
returns-then-v-below-2 c =
    rw (← c.from-below.ensures)
    (low_passed _ _ _ _ c.if-v-here.false c.if-v-below.false (rw (← c.from-below.ensures) at c.if-low-high.false)
    (greater_there_lem c.args.v.now c.args.j.0 c.from-below.result (search rules) (search rules)) c.if-v-below-2.true c.under_high-then-v-below-2.ensures)

pub returns : goal.returns
returns c =
    rw (← c.from-below.ensures)
    (low_failed _ _ _ _ c.if-v-here.false c.if-v-below.false (rw (← c.from-below.ensures) at c.if-low-high.false)
    (greater_there_lem c.args.v.now c.args.j.0 c.from-below.result (search rules) (search rules)) c.if-v-below-2.false)
