-- `pass_over` meets its contract. The loop's invariant is what it tells at the end: no sample passed is v. The measure is the place.
use Rattle.std.proofs.Common.{◌≤◌, map}
use Rattle.tables.specs.Inside.Claims.{NoneWithin}
use Rattle.tables.proofs.site.Site.pass_over.Given as goal

abbrev pub invariant-loop-i : goal.invariant-loop-i
invariant-loop-i g l = let value = g.T.Sample.value in (l.i ≤ l.self.j) × NoneWithin (map value l.self.pattern.now) l.i l.self.j (value l.v) (value l.v)

abbrev pub decreases-loop-i : goal.decreases-loop-i
decreases-loop-i g l = l.i
