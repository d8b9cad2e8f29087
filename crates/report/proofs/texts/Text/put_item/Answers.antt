-- `put_item` meets its contract.
use native.Mathlib.Omega.{arith}
use Rattle.std.proofs.lemmas.Grind.{common_steps}
use Rattle.report.proofs.Printing.{short_64}
use Rattle.report.proofs.texts.Text.put_item.Goals as goal

pub put_number-requires : goal.put_number-requires
put_number-requires c = grind (arith, common_steps, c.requires, c.put_text.ensures, short_64 c.args.v c.ranges.v.fits)

pub returns-clause-few : goal.returns-clause-few
returns-clause-few c = grind (arith, common_steps, c.put_text.ensures, c.put_number.ensures, short_64 c.args.v c.ranges.v.fits)
