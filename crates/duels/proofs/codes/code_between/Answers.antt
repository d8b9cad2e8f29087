-- `code_between` meets its contract: the machine's two tests tell how the samples compare.
use mathlib.Core.Path.{ap₂, ◌∙◌}
use Prim.Native.Nat.{◌+◌}
use Rattle.duels.proofs.CodeLaws.{told_by_tests}
use Rattle.duels.proofs.codes.code_between.Goals as goal

pub returns : goal.returns
returns c = ap₂ (λ m n. m + n) c.from.ensures c.from-2.ensures ∙ told_by_tests c.ranges.a c.ranges.b
