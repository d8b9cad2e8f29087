-- `own_entries` meets its contract: the last place that has the nearest value on a side is the neighbour there.
use Rattle.tables.proofs.NearestByValue.{low_found, high_found}
use Rattle.tables.proofs.site.Site.own_entries.Goals as goal

pub returns : goal.returns
returns g c =
    let n = c.nearest_values-below.ensures in
    record { low_own = low_found _ _ n c.last_equal.ensures; high_own = high_found _ _ n c.last_equal-2.ensures }
