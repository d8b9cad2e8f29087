-- `all_samples` meets its contract: the list has room for all.
use mathlib.Core.Path.{refl}
use Rattle.words.proofs.Handing.{samples_taken_lem}
use Rattle.host_calls.proofs.reading.all_samples.Goals as goal

pub returns : goal.returns
returns c =
    samples_taken_lem c.args.bytes.now c.args.samples.now c.take_samples.ensures c.requires refl
