-- The goals of `write_witnesses` that the check leaves.
use mathlib.Core.Path.{refl}
use Rattle.tables.proofs.Turns.{turn-first, turn-own, turn_next, turn_last}
use Rattle.tables.proofs.witnesses.write_witnesses.Goals as goal

pub loop-a-init : goal.loop-a-init
loop-a-init c =
    let r = c.requires.room in
    (refl, turn-first _ c.args.witness_i.now c.args.witness_j.now r.0 r.1 r.2)

pub witness_at-w-requires-clause-earlier : goal.witness_at-w-requires-clause-earlier
witness_at-w-requires-clause-earlier c =
    let t = c.loop-a.invariant.1 in
    turn-own t c.loop-a-test.true

pub loop-a-preserved : goal.loop-a-preserved
loop-a-preserved c =
    (refl, turn_next c.loop-a.invariant.1 c.loop-a-test.true c.witness_at-w.ensures c.further-known.ensures)

pub returns : goal.returns
returns c = turn_last _ _ _ _ _ _ _ _ _ _ c.loop-a.invariant.1 c.requires.room.0 c.loop-a-test.false
