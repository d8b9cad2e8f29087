-- The goals of `list_block` that the check leaves.
use Prim.Native.Nat.{ℕ, ◌+◌}
use mathlib.Core.Path.{refl, ◌∙◌, sym, ap}
use mathlib.Core.List.{List}
use native.Mathlib.Omega.{arith}
use lib.ListN.{length-set, get_or, set}
use Rattle.search.proofs.RunLaws.{listed_none, listed_more}
use Rattle.search.proofs.steady.list_block.Goals as goal

pub loop-i-init : goal.loop-i-init
loop-i-init c = (omega arith, refl, sym (listed_none _ _ _ _))

pub loop-i-preserved : goal.loop-i-preserved
loop-i-preserved c =
    let e = c.loop-i.invariant.2 in (
      omega arith,
      length-set c.loop-i.positions (c.args.found + c.loop-i.i) (get_or c.args.survivors.now (c.args.k + c.loop-i.i) 0) ∙ c.loop-i.invariant.1,
      ap (λ (ps : List ℕ). set ps (c.args.found + c.loop-i.i) (get_or c.args.survivors.now (c.args.k + c.loop-i.i) 0)) e ∙ sym (listed_more c.args.survivors.now c.args.k c.args.found c.loop-i.i c.args.positions.now),
    )
