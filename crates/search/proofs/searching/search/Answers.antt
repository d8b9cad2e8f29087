-- `search` meets its contract: refused before anything is stored, or what the work leaves.
use mathlib.Core.Path.{sym, ◌∙◌}
use lib.ListN.{length}
use Rattle.search.proofs.SearchLaws.{search_ready, search_room, search_done}
use Rattle.search.proofs.searching.search.Goals as goal

pub invariant_of-checked : goal.invariant_of-checked
invariant_of-checked c = record { own = search_ready _ _ _ _ _ _ (length c.args.survivors.now) (length c.args.positions.now) (sym c.in_ok-windows.was ∙ c.check_search.ensures) }

pub run-requires : goal.run-requires
run-requires c = search_room c.args.pattern.now _ _ _ _ c.args.trace.now _ _ (sym c.in_ok-windows.was ∙ c.check_search.ensures)

pub returns : goal.returns
returns c = search_done _ _ _ _ _ _ _ _ (sym c.in_ok-windows.was ∙ c.check_search.ensures) c.run.ensures
