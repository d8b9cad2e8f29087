-- Shows: what one machine comparison of two samples tells of their relation.
-- Assumes nothing.
use mathlib.Core.Path.{◌≡◌, refl, sym, ◌∙◌, ap, ap₂}
use mathlib.Core.List.{List}
use mathlib.Core.Bool.{Bool, true, false, not, cond}
use Prim.Native.Nat.{ℕ, ◌≤◌}
use native.Mathlib.Omega.{arith}
use lib.Dec.{leb, eqb}
use lib.IntN.{ℤ, pos, negsuc}
use lib.Signed.{le_z, lt_z}
use mir.Syntax.{w32}
use mir.Val.{to_z, of_z, SFits}
use mir.Facts.{to_z-of_z}
use borrow.Author.Tests.{leb-true, eqb-true, eqb-false}
use Rattle.std.specs.declared.cmp.Ordering.TheVariants.{Less, Equal, Greater}
use Rattle.order.specs.Sizes.{at}
use Rattle.order.specs.Relations.{rel, alike}
use Rattle.order.specs.EntryTest.{told}
use Rattle.order.proofs.Tests.{clash, must_fail}
use Rattle.order.proofs.Orders.{lt_z_not_le_z, le_z_total, le_z_refl, alike_same}

-- ---- less and greater

less_cases : (t s : Bool) → (t ≡ false → s ≡ true) → not s ≡ alike (cond t (cond s Equal Less) Greater) Less
less_cases true true f = refl
less_cases true false f = refl
less_cases false true f = refl
less_cases false false f = clash (f refl) refl

pub less_told : (a b : ℤ) → lt_z a b ≡ alike (rel a b) Less
unfolding rel
less_told a b = lt_z_not_le_z a b ∙ less_cases (le_z a b) (le_z b a) (le_z_total a b)

greater_cases : (t s : Bool) → not t ≡ alike (cond t (cond s Equal Less) Greater) Greater
greater_cases true true = refl
greater_cases true false = refl
greater_cases false s = refl

pub greater_told : (a b : ℤ) → lt_z b a ≡ alike (rel a b) Greater
unfolding rel
greater_told a b = lt_z_not_le_z b a ∙ greater_cases (le_z a b) (le_z b a)

-- ---- equal

leb_antisym : (a b : ℕ) → leb a b ≡ true → leb b a ≡ true → a ≡ b
leb_antisym a b p q = let h : a ≤ b = leb-true a b p in let k : b ≤ a = leb-true b a q in omega arith

le_z_antisym : (a b : ℤ) → le_z a b ≡ true → le_z b a ≡ true → a ≡ b
le_z_antisym (pos a) (pos b) p q = ap pos (leb_antisym a b p q)
le_z_antisym (pos a) (negsuc b) p q = clash p refl
le_z_antisym (negsuc a) (pos b) p q = clash q refl
le_z_antisym (negsuc a) (negsuc b) p q = ap negsuc (leb_antisym a b q p)

pub equal_same : (a b : ℤ) → rel a b ≡ Equal → a ≡ b
unfolding rel
equal_same a b e = go (le_z a b) (le_z b a) refl refl e
  where
    go : (t s : Bool) → le_z a b ≡ t → le_z b a ≡ s → cond t (cond s Equal Less) Greater ≡ Equal → a ≡ b
    go true true p q e = le_z_antisym a b p q
    go true false p q e = cc
    go false s p q e = cc

pub same_equal : (a : ℤ) → rel a a ≡ Equal
unfolding rel
same_equal a = rw (le_z_refl a) refl

-- two samples are equal exactly if their bits are
pub equal_told : (a b : ℤ) → SFits w32 a → SFits w32 b → eqb (of_z w32 a) (of_z w32 b) ≡ alike (rel a b) Equal
equal_told a b fa fb = go (eqb (of_z w32 a) (of_z w32 b)) refl
  where
    go : (t : Bool) → eqb (of_z w32 a) (of_z w32 b) ≡ t → t ≡ alike (rel a b) Equal
    go true e =
        let same : a ≡ b = sym (to_z-of_z fa) ∙ ap (to_z w32) (eqb-true (of_z w32 a) (of_z w32 b) e) ∙ to_z-of_z fb in
        rw (same, same_equal b) refl
    go false e = sym (must_fail (alike (rel a b) Equal) (λ t. eqb-false (of_z w32 a) (of_z w32 b) e (ap (of_z w32) (equal_same a b (alike_same (rel a b) Equal t)))))

-- ---- places j and i of the list v

module _ (v : List ℤ) (j i : ℕ) (fj : SFits w32 (at v j)) (fi : SFits w32 (at v i)) where
  pub less_there_lem : lt_z (to_z w32 (of_z w32 (at v j))) (to_z w32 (of_z w32 (at v i))) ≡ told v j i Less
  less_there_lem = ap₂ lt_z (to_z-of_z fj) (to_z-of_z fi) ∙ less_told (at v j) (at v i)

  pub greater_there_lem : lt_z (to_z w32 (of_z w32 (at v i))) (to_z w32 (of_z w32 (at v j))) ≡ told v j i Greater
  greater_there_lem = ap₂ lt_z (to_z-of_z fi) (to_z-of_z fj) ∙ greater_told (at v j) (at v i)

  pub equal_there_lem : eqb (of_z w32 (at v j)) (of_z w32 (at v i)) ≡ told v j i Equal
  equal_there_lem = equal_told (at v j) (at v i) fj fi
