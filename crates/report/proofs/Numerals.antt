-- Shows: a number in decimal is the digits before its last one and then that one; it has as few digits as it needs; and it tells the
-- number.
-- Assumes nothing.
use Prim.Native.Nat.{ℕ, zero, suc, ◌+◌, ◌-◌, ◌*◌, ◌/◌, ◌%◌, ◌^◌, ◌≤◌, ◌<◌}
use mathlib.Core.Path.{◌≡◌, refl, ◌∙◌, ap}
use mathlib.Core.List.{List, [], ◌∷◌, ◌++◌}
use mathlib.Core.Bool.{Bool, true, false, cond}
use native.Mathlib.Omega.{arith}
use native.Mathlib.Nat.{pow-succ'}
use lib.Dec.{ltb}
use lib.ListN.{length, length-append}
use borrow.Author.Tests.{ltb-true, ltb-false, lt-ltb, le-ltb}
use Rattle.report.specs.Decimals.{digit, digits, decimal, value_of}

-- more digits than there are change nothing
digits-enough : (n k v : ℕ) → v < n → v < k → digits n v ≡ digits k v
unfolding digits
digits-enough zero k v h g = absurd (omega arith)
digits-enough (suc n) zero v h g = absurd (omega arith)
digits-enough (suc n) (suc k) v h g = go (ltb v 10) refl (digits-enough n k (v / 10))
  where
    go : (t : Bool) → ltb v 10 ≡ t → (v / 10 < n → v / 10 < k → digits n (v / 10) ≡ digits k (v / 10))
        → cond t (digit v ∷ []) (digits n (v / 10) ++ (digit (v % 10) ∷ [])) ≡ cond t (digit v ∷ []) (digits k (v / 10) ++ (digit (v % 10) ∷ []))
    go true e earlier = refl
    go false e earlier = let l = ltb-false v 10 e in ap (λ ds. ds ++ (digit (v % 10) ∷ [])) (earlier (omega arith) (omega arith))

pub decimal_low : (v : ℕ) → v < 10 → decimal v ≡ digit v ∷ []
unfolding decimal digits
decimal_low v h = rw (lt-ltb v 10 h) refl

pub decimal_high : (v : ℕ) → 10 ≤ v → decimal v ≡ decimal (v / 10) ++ (digit (v % 10) ∷ [])
unfolding decimal digits
decimal_high v h = rw (le-ltb v 10 h) (ap (λ ds. ds ++ (digit (v % 10) ∷ [])) (digits-enough v (suc (v / 10)) (v / 10) (omega arith) (omega arith)))

-- ---- how many digits

pub decimal-short : (k v : ℕ) → v < 10 ^ suc k → length (decimal v) ≤ suc k
decimal-short zero v h = rw (decimal_low v h) (omega arith)
decimal-short (suc k) v h = go (ltb v 10) refl (decimal-short k (v / 10))
  where
    go : (t : Bool) → ltb v 10 ≡ t → (v / 10 < 10 ^ suc k → length (decimal (v / 10)) ≤ suc k) → length (decimal v) ≤ suc (suc k)
    go true e earlier = rw (decimal_low v (ltb-true v 10 e)) (omega arith)
    go false e earlier =
        let p = pow-succ' 10 (suc k) in
        let f = earlier (omega arith) in
        rw (decimal_high v (ltb-false v 10 e), length-append) (omega arith)

-- ---- what they tell

value_more : (v : ℕ) (ds : List ℕ) (d : ℕ) → value_of v (ds ++ (d ∷ [])) ≡ 10 * value_of v ds + (d - 48)
unfolding value_of
value_more v [] d = refl
value_more v (e ∷ ds) d = value_more (10 * v + (e - 48)) ds d

value_one : (v : ℕ) → value_of 0 (digit v ∷ []) ≡ v
unfolding value_of
value_one v = omega arith

digits_tell : (n v : ℕ) → v < n → value_of 0 (digits n v) ≡ v
unfolding digits
digits_tell zero v h = absurd (omega arith)
digits_tell (suc n) v h = go (ltb v 10) refl (digits_tell n (v / 10))
  where
    go : (t : Bool) → ltb v 10 ≡ t → (v / 10 < n → value_of 0 (digits n (v / 10)) ≡ v / 10)
        → value_of 0 (cond t (digit v ∷ []) (digits n (v / 10) ++ (digit (v % 10) ∷ []))) ≡ v
    go true e earlier = value_one v
    go false e earlier =
        let l = ltb-false v 10 e in
        let f = earlier (omega arith) in
        value_more 0 (digits n (v / 10)) (digit (v % 10)) ∙ rw f (omega arith)

pub decimal_tells : (v : ℕ) → value_of 0 (decimal v) ≡ v
unfolding decimal
decimal_tells v = digits_tell (suc v) v (omega arith)
