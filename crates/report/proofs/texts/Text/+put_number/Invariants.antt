-- `put_number` calls itself at a tenth of the number, as the digits go. The measure is the number.
use Rattle.report.proofs.texts.Text.+put_number.Given as goal

abbrev pub decreases-put_number : goal.decreases-put_number
decreases-put_number l = l.v
