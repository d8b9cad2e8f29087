-- `duel_windows` meets its contract: lengths are refused before anything is stored, and otherwise it is what the arrivals leave.
use mathlib.Core.Path.{sym, ◌∙◌}
use Rattle.std.proofs.lemmas.Result.{err_from_is_err_and}
use Rattle.duels.proofs.Promised.{tables-refused, duels-refused, room_ready, field_ready, duels-done}
use Rattle.duels.proofs.dueling.duel_windows.Goals as goal

pub returns-in_err-for_agreement : goal.returns-in_err-for_agreement
returns-in_err-for_agreement c =
    let why = err_from_is_err_and c.from_residual.result c.from_residual.ensures.1 in
    rw (why.1, why.2) (tables-refused c.args.pattern.now c.args.witness_i.now c.args.witness_j.now c.args.trace.now c.args.survivors.now (sym c.in_err-for_agreement.was ∙ c.for_agreement.ensures))

pub returns-in_err-windows : goal.returns-in_err-windows
returns-in_err-windows c =
    let why = err_from_is_err_and c.from_residual-in_err-windows.result c.from_residual-in_err-windows.ensures.1 in
    rw (why.1, why.2)
    (duels-refused c.args.pattern.now c.args.witness_i.now c.args.witness_j.now c.args.trace.now c.args.survivors.now (sym c.in_ok-for_agreement.was ∙ c.for_agreement.ensures)
    (sym c.in_err-windows.was ∙ c.for_room.ensures))

pub invariant_of-field : goal.invariant_of-field
invariant_of-field c =
    let r = field_ready c.args.pattern.now c.args.witness_i.now c.args.witness_j.now c.args.trace.now c.args.survivors.now (sym c.in_ok-for_agreement.was ∙ c.for_agreement.ensures)
    (sym c.in_ok-windows.was ∙ c.for_room.ensures)
    in
    record { some = r.0; limit = r.1; i_long = r.2; j_long = r.3; short = r.4; all = r.5 }

pub arrive_all-requires : goal.arrive_all-requires
arrive_all-requires c =
    room_ready c.args.pattern.now c.args.witness_i.now c.args.witness_j.now c.args.trace.now c.args.survivors.now (sym c.in_ok-for_agreement.was ∙ c.for_agreement.ensures)
    (sym c.in_ok-windows.was ∙ c.for_room.ensures)

pub returns : goal.returns
returns c =
    duels-done c.args.pattern.now c.args.witness_i.now c.args.witness_j.now c.args.trace.now c.args.survivors.now (sym c.in_ok-for_agreement.was ∙ c.for_agreement.ensures)
    (sym c.in_ok-windows.was ∙ c.for_room.ensures) c.arrive_all.ensures
