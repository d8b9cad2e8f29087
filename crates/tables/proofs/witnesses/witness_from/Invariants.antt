-- `witness_from` meets its contract. The loop's invariant: the tests of the places passed are known to pass.
use Rattle.tables.specs.Inside.Asked.{KnownBelow}
use Rattle.tables.proofs.witnesses.witness_from.Given as goal

abbrev pub invariant-loop-j : goal.invariant-loop-j
invariant-loop-j l = KnownBelow l.own.pattern.now l.a l.j
