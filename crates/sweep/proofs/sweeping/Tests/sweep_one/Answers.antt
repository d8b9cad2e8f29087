-- The goals of `sweep_one` that the check leaves.
use mathlib.Core.Path.{sym, ◌∙◌}
use Rattle.sweep.proofs.Testing.{passed_on, ended_there, came_through}
use Rattle.sweep.proofs.Promised.{entry-cheap, entry_test}
use Rattle.sweep.proofs.sweeping.Tests.sweep_one.Goals as goal

pub loop-j-preserved : goal.loop-j-preserved
loop-j-preserved c =
    let l = c.loop-j in
    let q = sym (entry_test c.args.self.low.now c.args.self.high.now c.args.self.trace.now c.args.x.0 l.j c.args.self.places) ∙ sym c.test_place.ensures ∙ c.in-Passed.is in
    passed_on (entry-cheap _ _ _) l.invariant c.loop-j-test.true _ q

pub returns-in-Failed : goal.returns-in-Failed
returns-in-Failed c =
    let l = c.loop-j in
    let q = sym (entry_test c.args.self.low.now c.args.self.high.now c.args.self.trace.now c.args.x.0 l.j c.args.self.places) ∙ sym c.test_place.ensures ∙ c.in-Failed.is in
    ended_there (entry-cheap _ _ _) l.invariant c.loop-j-test.true _ _ q

pub returns : goal.returns
returns c = came_through c.loop-j.invariant c.loop-j-test.false
