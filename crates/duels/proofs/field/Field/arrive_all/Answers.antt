-- `arrive_all` meets its contract: each way leaves the rules' stack.
use native.Mathlib.Omega.{arith}
use Rattle.duels.proofs.CodeLaws.{none_all_clear}
use Rattle.duels.proofs.MeetingByEntries.{none_apart, no_codes}
use Rattle.duels.proofs.Promised.{all_up, kept-over, fought}
use Rattle.duels.proofs.field.Field.arrive_all.Goals as goal

pub returns-then-all_kept : goal.returns-then-all_kept
returns-then-all_kept c =
    let n = c.none_told.ensures c.if-not-none_told.false in
    let r = c.requires in
    let e = c.args.self.all in
    fought (none_all_clear c.args.self.pattern.now c.args.self.witness_i.now c.args.self.witness_j.now n)
    (all_up c.args.self.pattern.now c.args.self.witness_i.now c.args.self.witness_j.now c.args.self.trace.now e (omega arith) (none_apart c.args.self.pattern.now c.args.self.witness_i.now c.args.self.witness_j.now c.args.self.trace.now n) (c.all_kept.ensures.0 c.if-all_kept.true))

pub invariant_of-agreed : goal.invariant_of-agreed
invariant_of-agreed c =
    record { way = no_codes (none_apart c.args.self.pattern.now c.args.self.witness_i.now c.args.self.witness_j.now c.args.self.trace.now (c.none_told.ensures c.if-not-none_told.false)) }

pub returns : goal.returns
returns c =
    let k = c.all_kept.ensures.1 in
    fought (none_all_clear c.args.self.pattern.now c.args.self.witness_i.now c.args.self.witness_j.now (c.none_told.ensures c.if-not-none_told.false))
    (kept-over c.args.self.pattern.now c.args.self.witness_i.now c.args.self.witness_j.now c.args.self.trace.now (rw c.args.self.all at k) c.keep.ensures)
