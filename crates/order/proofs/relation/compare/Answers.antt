-- `compare` meets its contract: what the library's `cmp` tells of two numbers is their relation.
use mathlib.Core.Path.{◌≡◌, refl, sym}
use mathlib.Core.Bool.{Bool, true, false, cond}
use lib.IntN.{ℤ}
use Rattle.std.specs.Prelude.{int_lt}
use Rattle.std.proofs.Common.{rules}
use Rattle.std.specs.Ordering.{int_cmp}
use Rattle.std.specs.declared.cmp.Ordering.TheVariants.{Less, Equal, Greater}
use Rattle.order.specs.Relations.{rel}
use Rattle.order.proofs.Orders.{rel_less, rel_greater, rel_equal}
use Rattle.order.proofs.relation.compare.Goals as goal

as_rel : (a b : ℤ) → int_cmp a b ≡ rel a b
as_rel a b = go (int_lt a b) (int_lt b a) refl refl
  where
    go : (s t : Bool) → int_lt a b ≡ s → int_lt b a ≡ t → cond s Less (cond t Greater Equal) ≡ rel a b
    go true t e f = sym (rel_less a b e)
    go false true e f = sym (rel_greater a b f)
    go false false e f = sym (rel_equal a b e f)

pub returns : goal.returns
returns c = search (rules, as_rel)
