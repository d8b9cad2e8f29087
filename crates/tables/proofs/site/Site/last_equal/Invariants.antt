-- `last_equal` meets its contract. The loop's invariant: no sample from the place on is v.
use Rattle.std.proofs.Common.{◌≤◌, map}
use Rattle.tables.specs.Inside.Claims.{NoneWithin}
use Rattle.tables.proofs.site.Site.last_equal.Given as goal

abbrev pub invariant-loop-i : goal.invariant-loop-i
invariant-loop-i g l = let value = g.T.Sample.value in (l.i ≤ l.self.j) × NoneWithin (map value l.self.pattern.now) l.i l.self.j (value l.v) (value l.v)
