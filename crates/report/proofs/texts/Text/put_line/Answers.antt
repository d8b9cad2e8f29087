-- `put_line` meets its contract.
use native.Mathlib.Omega.{arith}
use Rattle.std.proofs.lemmas.Grind.{common_steps}
use Rattle.report.proofs.Printing.{short_32}
use Rattle.report.proofs.texts.Text.put_line.Goals as goal

pub put_number-requires : goal.put_number-requires
put_number-requires c = omega (arith, c.requires, short_32 c.args.v c.ranges.v.fits)

pub put_byte-requires : goal.put_byte-requires
put_byte-requires c = grind (arith, common_steps, c.requires, c.put_number.ensures, short_32 c.args.v c.ranges.v.fits)

pub returns-clause-few : goal.returns-clause-few
returns-clause-few c = grind (arith, common_steps, c.put_number.ensures, c.put_byte.ensures, short_32 c.args.v c.ranges.v.fits)
