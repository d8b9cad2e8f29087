-- The goals of `witness_from` that the check leaves.
use mathlib.Core.Path.{◌≡◌, sym, ◌∙◌}
use Prim.Native.Nat.{◌-◌, ◌<◌}
use native.Mathlib.Omega.{arith}
use lib.ListN.{length}
use Rattle.order.specs.declared.steps.Tested.TheVariants.{Passed}
use Rattle.tables.proofs.Offsets.{rest_length, own_test, known_more, known_all, known_fails, failed_before}
use Rattle.tables.proofs.witnesses.witness_from.Goals as goal

pub overflow_cast-result : goal.overflow_cast-result
overflow_cast-result c =
    let n = rest_length c.args.own.pattern.now c.args.offset.0 in
    let k = c.loop-j-test.true in
    let i : c.loop-j.j < length c.args.own.pattern.now - c.args.offset.0 = omega arith in
    let h = failed_before _ _ _ (sym (own_test c.args.offset.0 c.loop-j.j c.args.own.neighbours i) ∙ sym c.test_place.ensures ∙ c.in-Failed.is) in
    let l = c.args.own.neighbours.limit in
    omega arith

pub returns-in-Failed : goal.returns-in-Failed
returns-in-Failed c =
    let n = rest_length c.args.own.pattern.now c.args.offset.0 in
    let k = c.loop-j-test.true in
    let i : c.loop-j.j < length c.args.own.pattern.now - c.args.offset.0 = omega arith in
    known_fails c.loop-j.invariant i (sym (own_test c.args.offset.0 c.loop-j.j c.args.own.neighbours i) ∙ sym c.test_place.ensures ∙ c.in-Failed.is)

pub loop-j-preserved : goal.loop-j-preserved
loop-j-preserved c =
    let t = c.test_place in
    let n = rest_length c.args.own.pattern.now c.args.offset.0 in
    let e : t.result ≡ Passed c.in-Passed.field-0 = cc in
    let h : c.loop-j.j < length c.args.own.pattern.now - c.args.offset.0 = let k = c.loop-j-test.true in omega arith in
    known_more c.loop-j.invariant h (sym (own_test c.args.offset.0 c.loop-j.j c.args.own.neighbours h) ∙ sym t.ensures ∙ e)

pub returns : goal.returns
returns c =
    let n = rest_length c.args.own.pattern.now c.args.offset.0 in
    let k = c.loop-j-test.false in
    known_all c.loop-j.invariant (omega arith)
