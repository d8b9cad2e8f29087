-- `check_own` meets its contract: neighbours that fit are the pattern's own, and then a witness table decides.
use Rattle.tables.proofs.ForeignEntries.{own_pass, witnesses_decide}
use Rattle.tables.proofs.own_tables.check_own.Goals as goal

pub returns-then-neighbours_fit : goal.returns-then-neighbours_fit
returns-then-neighbours_fit c =
    let a = c.args.tables in
    let o = c.neighbours_fit.ensures c.if-neighbours_fit.true in
    witnesses_decide a.pattern.now a.low.now a.high.now a.witness_i.now a.witness_j.now (own_pass a.pattern.now a.low.now a.high.now o) c.check_witnesses.ensures
