-- Shows: each way through the code of a test by entries is one case of its definition.
-- Assumes nothing.
use mathlib.Core.Path.{◌≡◌, refl, sym, ◌∙◌}
use mathlib.Core.List.{List}
use mathlib.Core.Bool.{Bool, true, false, cond}
use Prim.Native.Nat.{ℕ, ◌+◌, ◌≤◌, ◌<◌}
use lib.IntN.{ℤ}
use lib.ListN.{length}
use borrow.Author.Tests.{eq-eqb, ne_eqb, lt-ltb, le-ltb}
use Rattle.std.specs.declared.cmp.Ordering.TheVariants.{Less, Equal, Greater}
use Rattle.order.specs.declared.steps.Tested.{Tested}
use Rattle.order.specs.declared.steps.Tested.TheVariants.{Passed, Failed}
use Rattle.order.specs.Sizes.{as_place}
use Rattle.order.specs.EntryTest.{told, under_high_lem, test_by}

module _ (v : List ℤ) (high j c : ℕ) where
  pub no_high : length v ≤ high → Passed c ≡ under_high_lem v high j c
  unfolding under_high_lem
  no_high h = rw (le-ltb high (length v) h) refl

  pub high_told : {b t : Bool} → high < length v → b ≡ told v j high Less → b ≡ t →
      cond t (Passed (c + 1)) (Failed (c + 1) (as_place high)) ≡ under_high_lem v high j c
  unfolding under_high_lem
  high_told {b} {t} h e q = let s : told v j high Less ≡ t = sym e ∙ q in rw (lt-ltb high (length v) h, s) refl

module _ (v : List ℤ) (low high j : ℕ) where
  pub past_end : length v ≤ j → Passed 0 ≡ test_by v low high j
  unfolding test_by
  past_end h = rw (le-ltb j (length v) h) refl

  pub no_low : {r : Tested} → j < length v → length v ≤ low → r ≡ under_high_lem v high j 0 → r ≡ test_by v low high j
  unfolding test_by
  no_low h l e = e ∙ rw (lt-ltb j (length v) h, le-ltb low (length v) l) refl

  pub one_told : {b t : Bool} → j < length v → low < length v → low ≡ high → b ≡ told v j low Equal → b ≡ t →
      cond t (Passed 1) (Failed 1 (as_place low)) ≡ test_by v low high j
  unfolding test_by
  one_told {b} {t} h l s e q =
      let g : told v j low Equal ≡ t = sym e ∙ q in
      rw (lt-ltb j (length v) h, lt-ltb low (length v) l, eq-eqb low high s, g) refl

  pub low_passed : {b : Bool} {r : Tested} → j < length v → low < length v → (low ≡ high → ⊥) → b ≡ told v j low Greater → b ≡ true →
      r ≡ under_high_lem v high j 1 → r ≡ test_by v low high j
  unfolding test_by
  low_passed h l s e q u =
      let g : told v j low Greater ≡ true = sym e ∙ q in
      u ∙ rw (lt-ltb j (length v) h, lt-ltb low (length v) l, ne_eqb low high s, g) refl

  pub low_failed : {b : Bool} → j < length v → low < length v → (low ≡ high → ⊥) → b ≡ told v j low Greater → b ≡ false →
      Failed 1 (as_place low) ≡ test_by v low high j
  unfolding test_by
  low_failed h l s e q =
      let g : told v j low Greater ≡ false = sym e ∙ q in
      rw (lt-ltb j (length v) h, lt-ltb low (length v) l, ne_eqb low high s, g) refl
