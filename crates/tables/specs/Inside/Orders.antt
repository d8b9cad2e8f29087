-- Levels compare as the numbers that they stand for. A trait's law is proved where its `impl` stands, which cites this.
use Rattle.std.specs.Prelude.{◌≡◌, ℕ, ◌≤◌, pos, Bool, true, false, cond}
use Rattle.std.specs.Ordering.{nat_cmp, int_cmp}
use Rattle.std.specs.declared.cmp.Ordering.TheVariants.{Less, Equal, Greater}
use Rattle.std.proofs.Common.{refl, arith, ltb, eqb}
use borrow.Author.Tests.{ltb-false, lt-ltb, le-ltb, eqb-true, eqb-false}

pub levels_compare : (x y : ℕ) → nat_cmp x y ≡ int_cmp (pos x) (pos y)
levels_compare x y = go (ltb x y) (eqb x y) refl refl
  where
    go : (t e : Bool) → ltb x y ≡ t → eqb x y ≡ e → cond t Less (cond e Equal Greater) ≡ cond t Less (cond (ltb y x) Greater Equal)
    go true e p q = refl
    go false true p q = let h : x ≡ y = eqb-true x y q in rw (le-ltb y x (omega arith)) refl
    go false false p q =
        let h : y ≤ x = ltb-false x y p in
        let n : x ≡ y → ⊥ = eqb-false x y q in
        rw (lt-ltb y x (omega arith)) refl
