-- `write_codes` meets its contract. The loop's invariant: the offsets passed are written.
use Rattle.duels.specs.Inside.Codes.{Coded}
use Rattle.duels.proofs.codes.write_codes.Given as goal

abbrev pub invariant-loop-a : goal.invariant-loop-a
invariant-loop-a l = Coded l.field.pattern.now l.field.witness_i.now l.field.witness_j.now l.codes l.a
