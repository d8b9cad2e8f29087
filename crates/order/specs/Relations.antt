-- "Relation": how one sample compares with another, which has three outcomes.
use Rattle.std.specs.Prelude.{Bool, true, false, cond, ℤ}
use Rattle.std.specs.Int.Signed.{le_z}
use Rattle.std.specs.declared.cmp.Ordering.{Ordering}
use Rattle.std.specs.declared.cmp.Ordering.TheVariants.{Less, Equal, Greater}

-- equal where each is at most the other, less where only the first is, greater otherwise
unfoldable pub rel : ℤ → ℤ → Ordering
rel a b = cond (le_z a b) (cond (le_z b a) Equal Less) Greater

-- whether two comparisons told the same
abbrev pub alike : Ordering → Ordering → Bool
alike Less Less = true
alike Less Equal = false
alike Less Greater = false
alike Equal Less = false
alike Equal Equal = true
alike Equal Greater = false
alike Greater Less = false
alike Greater Equal = false
alike Greater Greater = true
