-- `witness_at` meets its contract: outside the stretch all places are tested; inside it the entries are those found that far
-- from its start, or testing starts at its end.
use native.Mathlib.Omega.{arith}
use Rattle.tables.proofs.Offsets.{known_none}
use Rattle.tables.proofs.Stretches.{earlier, settled, unsettled}
use Rattle.tables.proofs.witnesses.witness_at.Goals as goal

pub witness_from-requires : goal.witness_from-requires
witness_from-requires c =
    known_none _ _ (omega (arith, c.requires.earlier.inside))

pub returns-then-from-inside : goal.returns-then-from-inside
returns-then-from-inside c =
    settled c.requires.stretch c.if-end-a.false _ _ c.args.own.neighbours.limit
    (c.requires.earlier.witness_i_own _ (earlier c.requires.stretch))
    (c.requires.earlier.witness_j_own _ (earlier c.requires.stretch))
    (rw c.from.ensures at c.if-from-inside.true)

pub witness_from-requires-2 : goal.witness_from-requires-2
witness_from-requires-2 c =
    unsettled c.requires.stretch c.if-end-a.false _ (c.requires.earlier.witness_j_own _ (earlier c.requires.stretch)) (rw c.from.ensures at c.if-from-inside.false)
