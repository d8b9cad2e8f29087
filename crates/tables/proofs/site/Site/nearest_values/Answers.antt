-- The goals of `nearest_values` that the check leaves.
use Rattle.std.proofs.Common.{◌≡◌, ◌∙◌, sym, ap, arith, ℤ, List, Bool, map, cond, length, ◌<◌, below_more}
use Rattle.std.specs.Int.Signed.{le_z}
use lib.Seq.{length-take-le, get_or-take}
use Rattle.tables.specs.Inside.NearValues.{on_side}
use Rattle.tables.proofs.NearestByValue.{value_none}
use Rattle.tables.proofs.Values.{at_values, upto, next_value, le_value, max_value, min_value}
use Rattle.tables.proofs.site.Site.nearest_values.Goals as goal
use Rattle.tables.proofs.site.Site.nearest_values.Goals.{then-le, else-le, then-le-2, else-le-2}

pub loop-y-init : goal.loop-y-init
loop-y-init g c =
    record {
      low_value = ap g.T.Sample.value c.LEAST-below.ensures ∙ value_none _ _ _ _;
      high_value = ap g.T.Sample.value c.GREATEST-above.ensures ∙ value_none _ _ _ _;
      within = λ k h. absurd (omega arith);
    }

pub loop-y-preserved : goal.loop-y-preserved
loop-y-preserved g c =
    let s = g.T.Sample in
    let l = c.loop-y in
    let x = c.index-pattern-self.result in
    let y = c.y-item.result in
    let n = length-take-le c.args.self.now.j c.args.self.now.pattern.now (omega arith) in
    let t = c.loop-y-test.true in
    let here : l.y-index < length c.args.self.now.pattern.now = omega arith in
    let item = c.y-item.is ∙ get_or-take c.args.self.now.j c.args.self.now.pattern.now l.y-index y (omega arith) in
    let ordered = g.met.T.Sample.ordered in
    let low_test = sym (le_value s.value ordered g.met.T.Ord.matches_partial_cmp y x) ∙ sym c.le.ensures in
    let high_test = sym (le_value s.value ordered g.met.T.Ord.matches_partial_cmp x y) ∙ sym c.le-in-loop-y.ensures in
    let low : s.value c.if-le.low ≡ on_side le_z (s.value s.LEAST) (s.value x) (s.value y) =
    elim c.if-le.branch [
      | then-le w ↦ ap s.value w.low-is ∙ sym (ap (λ (t : Bool). cond t (s.value y) (s.value s.LEAST)) (low_test ∙ w.if-le.true))
      | else-le w ↦ ap s.value (w.low-is ∙ w.LEAST-low.ensures) ∙ sym (ap (λ (t : Bool). cond t (s.value y) (s.value s.LEAST)) (low_test ∙ w.if-le.false))
    ] in
    let high : s.value c.if-le-2.high ≡ on_side (λ a b. le_z b a) (s.value s.GREATEST) (s.value x) (s.value y) =
    elim c.if-le-2.branch [
      | then-le-2 w ↦ ap s.value w.high-is ∙ sym (ap (λ (t : Bool). cond t (s.value y) (s.value s.GREATEST)) (high_test ∙ w.if-le-2.true))
      | else-le-2 w ↦ ap s.value (w.high-is ∙ w.GREATEST-high.ensures) ∙ sym (ap (λ (t : Bool). cond t (s.value y) (s.value s.GREATEST)) (high_test ∙ w.if-le-2.false))
    ] in
    record {
      low_value = next_value s.value le_z c.args.self.now.pattern.now c.args.self.now.j l.y-index s.LEAST l.below c.if-le.low c.max-below.result c.args.self.now.inside here c.index-pattern-self.is item l.invariant.low_value low
          (ap s.value c.max-below.ensures ∙ max_value s.value ordered l.below c.if-le.low);
      high_value = next_value s.value (λ a b. le_z b a) c.args.self.now.pattern.now c.args.self.now.j l.y-index s.GREATEST l.above c.if-le-2.high c.min-above.result c.args.self.now.inside here c.index-pattern-self.is item l.invariant.high_value high
          (ap s.value c.min-above.ensures ∙ min_value s.value ordered l.above c.if-le-2.high);
      within = below_more _ _ l.invariant.within (rw (at_values s.value c.args.self.now.pattern.now l.y-index here item) c.lies_within-in-loop-y.ensures);
    }

pub returns : goal.returns
returns g c =
    let s = g.T.Sample in
    let l = c.loop-y in
    let P : List ℤ = map s.value c.args.self.now.pattern.now in
    let n = length-take-le c.args.self.now.j c.args.self.now.pattern.now (omega arith) in
    let end : l.y-index ≡ c.args.self.now.j = omega arith in
    record {
      within = upto _ _ (rw end at l.invariant.within) (rw (at_values s.value c.args.self.now.pattern.now c.args.self.now.j c.args.self.now.inside c.index-pattern-self.is) c.lies_within.ensures);
      low_value = rw end at l.invariant.low_value;
      high_value = rw end at l.invariant.high_value;
    }
