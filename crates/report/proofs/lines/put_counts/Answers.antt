-- `put_counts` meets its contract: five items and a newline.
use Rattle.report.proofs.Printing.{counts_put}
use Rattle.report.proofs.lines.put_counts.Goals as goal

pub returns-clause-after : goal.returns-clause-after
returns-clause-after c =
    counts_put c.args.text.now c.args.counts
    c.put_item.ensures.after c.put_item-2.ensures.after c.put_item-3.ensures.after c.put_item-4.ensures.after c.put_item-5.ensures.after
    c.put_byte.ensures
