-- `place_fits` meets its contract: equal neighbours are one place, and two others have nothing between them.
use Rattle.tables.proofs.ClaimLaws.{between_entries}
use Rattle.tables.proofs.claimed.Site+i32.place_fits.Goals as goal

pub returns-in-Some-Some : goal.returns-in-Some-Some
returns-in-Some-Some c =
    λ e. between_entries c.args.self.now.pattern.now c.args.self.now.j c.args.l c.args.h c.in-Some-Some.ensures c.in-Some-Some.ensures' (c.none_between.ensures e)
