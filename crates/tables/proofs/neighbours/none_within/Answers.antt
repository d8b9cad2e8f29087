-- The goals of `none_within` that the check leaves.
use Rattle.std.proofs.Common.{◌∙◌, sym, ap₂, arith, Bool, ◌||◌, length, ◌<◌, ◌+◌, ◌-◌, below_more}
use lib.ListN.{drop, length-drop}
use lib.Seq.{length-take-le, get_or-take, get_or-drop}
use Rattle.order.proofs.Tests.{and_first, and_second}
use Rattle.tables.proofs.Values.{at_values, lt_value, outside, beyond_either}
use Rattle.tables.proofs.neighbours.none_within.Goals as goal

pub loop-x-preserved : goal.loop-x-preserved
loop-x-preserved g c = λ e k h f.
    let s = g.T.Sample in
    let l = c.loop-x in
    let x = c.x-item.result in
    let P = c.args.pattern.now in
    let start = c.min-start.result in
    let n = c.args.to - start in
    let inside = c.loop-x-test.true in
    let d = length-drop start P in
    let t = length-take-le n (drop start P) (omega arith) in
    let here : start + l.x-index < length P = omega arith in
    let item = c.x-item.is ∙ get_or-take n (drop start P) l.x-index x (omega arith) ∙ get_or-drop start P l.x-index x in
    let test = lt_value s.value g.met.T.Sample.ordered g.met.T.Ord.matches_partial_cmp in
    let either = sym (ap₂ (λ (a b : Bool). a || b) (c.lt.ensures ∙ test x c.args.lo) (c.lt-in-loop-x.ensures ∙ test c.args.hi x)) ∙ and_second l.clear _ e in
    below_more _ _ (l.invariant (and_first l.clear _ e))
    (λ h. rw (at_values s.value P (start + l.x-index) here item)
    (outside g.met.T.Sample.narrow c.lies_within.ensures (beyond_either (s.value x) (s.value c.args.lo) (s.value c.args.hi) either))) k (omega arith) f
