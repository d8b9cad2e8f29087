-- Shows: every sample lies from the least to the greatest; one more than a sample is the first value above it, one less the last
-- below it; and where a greater or a lesser sample is known that value is a sample too.
-- Assumes nothing.
use Prim.Native.Nat.{ℕ, zero, suc, ◌≤◌, ◌<◌}
use mathlib.Core.Path.{◌≡◌, refl, sym, ◌∙◌, ap, subst}
use mathlib.Core.Bool.{Bool, true, false, not}
use native.Mathlib.Omega.{arith}
use lib.Dec.{leb}
use lib.IntN.{ℤ, pos, negsuc, suc_ℤ, pred_ℤ, ◌+ℤ◌, ◌-ℤ◌, +ℤ_one, -ℤ_one, suc-pred}
use lib.Signed.{le_z}
use mir.Syntax.{w32}
use mir.Val.{SFits}
use borrow.Author.Tests.{leb-true, leb-false, le-leb, lt-leb}
use Rattle.order.proofs.Tests.{clash}
use Rattle.tables.specs.Inside.Claims.{least, greatest}

pub sample_least : (x : ℤ) → SFits w32 x → le_z least x ≡ true
sample_least (pos n) f = refl
sample_least (negsuc n) f = let h : n < 2147483648 = f.sfits in le-leb n 2147483647 (omega arith)

pub sample_greatest : (x : ℤ) → SFits w32 x → le_z x greatest ≡ true
sample_greatest (pos n) f = let h : n < 2147483648 = f.sfits in le-leb n 2147483647 (omega arith)
sample_greatest (negsuc n) f = refl

-- ---- one more, one less

more : (a b : ℕ) → leb (suc a) b ≡ not (leb b a)
more a b = go (leb b a) refl
  where
    go : (t : Bool) → leb b a ≡ t → leb (suc a) b ≡ not t
    go true e = let h : b ≤ a = leb-true b a e in lt-leb (suc a) b (omega arith)
    go false e = let h : a < b = leb-false b a e in le-leb (suc a) b (omega arith)

twice : (t : Bool) → not (not t) ≡ t
twice true = refl
twice false = refl

up : (y x : ℤ) → le_z (suc_ℤ y) x ≡ not (le_z x y)
up (pos a) (pos b) = more a b
up (pos a) (negsuc b) = refl
up (negsuc zero) (pos b) = le-leb 0 b (omega arith)
up (negsuc zero) (negsuc b) = ap not (sym (le-leb 0 b (omega arith)))
up (negsuc (suc a)) (pos b) = refl
up (negsuc (suc a)) (negsuc b) = sym (twice (leb b a)) ∙ ap not (sym (more a b))

pub one_up : (y x : ℤ) → le_z (y +ℤ pos 1) x ≡ not (le_z x y)
one_up y x = ap (λ z. le_z z x) (+ℤ_one y) ∙ up y x

pub one_down : (y x : ℤ) → le_z x (y -ℤ pos 1) ≡ not (le_z y x)
one_down y x =
    ap (le_z x) (-ℤ_one y) ∙ sym (twice (le_z x (pred_ℤ y))) ∙ ap not (sym (up (pred_ℤ y) x) ∙ ap (λ z. le_z z x) (suc-pred y))

up_fits : (y x : ℤ) → SFits w32 y → SFits w32 x → le_z x y ≡ false → SFits w32 (suc_ℤ y)
up_fits (pos a) (pos b) f g e =
    let h : b < 2147483648 = g.sfits in
    let k : a < b = leb-false b a e in
    record { sfits = omega arith }
up_fits (pos a) (negsuc b) f g e = clash refl e
up_fits (negsuc zero) x f g e = record { sfits = omega arith }
up_fits (negsuc (suc a)) x f g e = let h : suc a < 2147483648 = f.sfits in record { sfits = omega arith }

pub one_up_fits : (y x : ℤ) → SFits w32 y → SFits w32 x → le_z x y ≡ false → SFits w32 (y +ℤ pos 1)
one_up_fits y x f g e = subst (SFits w32) (sym (+ℤ_one y)) (up_fits y x f g e)

down_fits : (y x : ℤ) → SFits w32 y → SFits w32 x → le_z y x ≡ false → SFits w32 (pred_ℤ y)
down_fits (pos zero) x f g e = record { sfits = omega arith }
down_fits (pos (suc a)) x f g e = let h : suc a < 2147483648 = f.sfits in record { sfits = omega arith }
down_fits (negsuc a) (pos b) f g e = clash refl e
down_fits (negsuc a) (negsuc b) f g e =
    let h : b < 2147483648 = g.sfits in
    let k : a < b = leb-false b a e in
    record { sfits = omega arith }

pub one_down_fits : (y x : ℤ) → SFits w32 y → SFits w32 x → le_z y x ≡ false → SFits w32 (y -ℤ pos 1)
one_down_fits y x f g e = subst (SFits w32) (sym (-ℤ_one y)) (down_fits y x f g e)
