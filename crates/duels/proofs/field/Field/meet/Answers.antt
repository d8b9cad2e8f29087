-- `meet` meets its contract: the first entry of the windows' distance tells whether they agree, and who duels.
use Prim.Native.Nat.{◌-◌}
use mathlib.Core.Path.{sym, ◌∙◌, ap₂}
use native.Mathlib.Omega.{arith}
use lib.ListN.{get_or}
use Rattle.duels.specs.Inside.Codes.{own_code_lem, start_code}
use Rattle.duels.proofs.MeetingByEntries.{far_agree, none_agree, some-duel, duelable}
use Rattle.duels.proofs.field.Field.meet.Goals as goal

pub returns-then-self-a : goal.returns-then-self-a
returns-then-self-a c =
    let f = c.args.self in
    sym (far_agree f.pattern.now f.witness_i.now f.witness_j.now f.trace.now c.args.x.0 c.args.y.0 c.if-self-a.true)

pub returns-then-i : goal.returns-then-i
returns-then-i c =
    let f = c.args.self in
    sym (none_agree f.pattern.now f.witness_i.now f.witness_j.now f.trace.now c.args.x.0 c.args.y.0 c.if-self-a.false c.if-i.true)

pub duel-requires : goal.duel-requires
duel-requires c =
    let f = c.args.self in
    let P = f.pattern.now in
    let a = c.args.y.0 - c.args.x.0 in
    let i = c.from.ensures in
    let j = c.from-2.ensures in
    let t = (c.requires.coded.each a c.if-self-a.false).told c.if-i.false in (
      duelable P f.trace.now c.args.y.0 a (get_or f.witness_i.now a 0) (get_or f.witness_j.now a 0) t.0 i j (omega arith) c.requires.inside,
      t.1 ∙ ap₂ (own_code_lem P a) (sym i) (sym j),
      t.2 ∙ ap₂ (start_code P) (sym i) (sym j),
    )

pub returns : goal.returns
returns c =
    let f = c.args.self in
    some-duel f.pattern.now f.witness_i.now f.witness_j.now f.trace.now c.args.x.0 c.args.y.0 c.if-self-a.false c.if-i.false
    c.from.ensures c.from-2.ensures c.duel.ensures
