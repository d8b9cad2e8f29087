-- Shows: what the laws need of tests. Every fact about a test is an equation with `true` or `false`.
-- Assumes nothing.
use mathlib.Core.Path.{◌≡◌, refl, sym, ◌∙◌}
use mathlib.Core.Bool.{Bool, true, false, ◌&&◌, beq, true≢false}

-- a test that both passes and fails shows anything
pub clash {ℓ} : {X : Type ℓ} {b : Bool} → b ≡ true → b ≡ false → X
clash p q = absurd (true≢false (sym p ∙ q))

-- two tests that pass together are equal
pub same_test : (a b : Bool) → (a ≡ true → b ≡ true) → (b ≡ true → a ≡ true) → a ≡ b
same_test true true f g = refl
same_test true false f g = sym (f refl)
same_test false true f g = g refl
same_test false false f g = refl

-- a test that cannot fail passes, and one that cannot pass fails
pub must_fail : (b : Bool) → (b ≡ true → ⊥) → b ≡ false
must_fail true f = absurd (f refl)
must_fail false f = refl

pub and_both : (a b : Bool) → a ≡ true → b ≡ true → (a && b) ≡ true
and_both true true p q = refl
and_both true false p q = q
and_both false b p q = p

pub and_first : (a b : Bool) → (a && b) ≡ true → a ≡ true
and_first true b p = refl
and_first false b p = p

pub and_second : (a b : Bool) → (a && b) ≡ true → b ≡ true
and_second true b p = p
and_second false true p = refl
and_second false false p = p

pub beq_same : (a b : Bool) → beq a b ≡ true → a ≡ b
beq_same true true p = refl
beq_same true false p = sym p
beq_same false true p = p
beq_same false false p = refl

pub same_beq : (a b : Bool) → a ≡ b → beq a b ≡ true
same_beq true true p = refl
same_beq true false p = sym p
same_beq false true p = p
same_beq false false p = refl
