-- The goals of `last_equal` that the check leaves.
use Rattle.std.proofs.Common.{◌∙◌, sym, arith, length, ◌<◌, ◌-◌}
use Rattle.order.specs.Sizes.{none, place}
use Rattle.order.proofs.Entries.{entry_of_none, entry_of_place}
use Rattle.tables.proofs.NearestByValue.{within-back}
use Rattle.tables.proofs.Values.{at_values, eq_value, ne_value, outside}
use Rattle.tables.proofs.site.Site.last_equal.Goals as goal

pub returns-then-eq : goal.returns-then-eq
returns-then-eq g c =
    let value = g.T.Sample.value in
    let l = c.loop-i in
    let here : l.i - 1 < length c.args.self.now.pattern.now = omega arith in
    record {
      spot = place (l.i - 1);
      entry_is = sym (entry_of_place (l.i - 1));
      last = (
        omega arith,
        at_values value c.args.self.now.pattern.now (l.i - 1) here c.index-pattern-i.is ∙
            eq_value value g.met.T.Sample.ordered g.met.T.Ord.matches_eq (sym c.eq.ensures ∙ c.if-eq.true),
        record { clear = λ k a b. l.invariant.1.clear k (omega arith) b },
      );
    }

pub loop-i-preserved : goal.loop-i-preserved
loop-i-preserved g c =
    let value = g.T.Sample.value in
    let l = c.loop-i in
    let here : l.i - 1 < length c.args.self.now.pattern.now = omega arith in (
      omega arith,
      within-back c.loop-i-test.true
          (rw (at_values value c.args.self.now.pattern.now (l.i - 1) here c.index-pattern-i.is)
          (outside g.met.T.Sample.narrow c.lies_within.ensures (ne_value value g.met.T.Sample.ordered g.met.T.Ord.matches_eq (sym c.eq.ensures ∙ c.if-eq.false))))
          l.invariant.1,
    )

pub returns : goal.returns
returns g c = record { spot = none; entry_is = sym entry_of_none; last = record { clear = λ k a b. c.loop-i.invariant.1.clear k (omega arith) b } }
