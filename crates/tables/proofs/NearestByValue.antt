-- Shows: the nearest value, one sample more; that the last earlier place that has it is the neighbour on that side; and how far back a
-- value is not found.
-- Assumes nothing.
use Prim.Native.Nat.{ℕ, ◌+◌, ◌-◌, ◌≤◌, ◌<◌}
use mathlib.Core.Path.{◌≡◌, refl, ◌∙◌, ap₂, subst}
use mathlib.Core.List.{List}
use mathlib.Core.Bool.{Bool, true, false}
use native.Mathlib.Omega.{arith}
use native.Mathlib.Numerals.{add-one}
use lib.Dec.{ltb}
use lib.IntN.{ℤ}
use borrow.Author.Tests.{ltb-true, ltb-false}
use Rattle.order.specs.Sizes.{at, entry}
use Rattle.order.specs.Neighbours.{low_of, high_of}
use Rattle.order.proofs.Nearest.{upward, turned}
use Rattle.tables.specs.Inside.Claims.{Outside, NoneWithin}
use Rattle.tables.specs.Inside.NearValues.{on_side, later, nearest_value, NearestValues, LastEqual}
use Rattle.tables.proofs.LastNearest.{le_z_antisym, last-nearest}

-- ---- the nearest value

pub value_none : (le : ℤ → ℤ → Bool) (edge : ℤ) (P : List ℤ) (x : ℤ) → edge ≡ nearest_value le edge P x 0
unfolding nearest_value
value_none le edge P x = refl

pub value_more : (le : ℤ → ℤ → Bool) (edge : ℤ) (P : List ℤ) (x : ℤ) (n : ℕ) {v t r : ℤ}
    → v ≡ nearest_value le edge P x n → t ≡ on_side le edge x (at P n) → r ≡ later le v t → r ≡ nearest_value le edge P x (n + 1)
unfolding nearest_value
value_more le edge P x n p q e = rw add-one (e ∙ ap₂ (later le) p q)

-- ---- the last place that has it

pub low_found : {lo hi : ℤ} (P : List ℤ) (j : ℕ) {below above : ℤ} {r : ℕ} → NearestValues lo hi P j below above → LastEqual P j below r → r ≡ entry (low_of P j)
unfolding low_of
low_found {lo} P j n l = last-nearest upward le_z_antisym lo P j (λ i h. (n.within i h).not_less) n.low_value l

pub high_found : {lo hi : ℤ} (P : List ℤ) (j : ℕ) {below above : ℤ} {r : ℕ} → NearestValues lo hi P j below above → LastEqual P j above r → r ≡ entry (high_of P j)
unfolding high_of
high_found {hi = hi} P j n l = last-nearest (turned upward) (λ a b s t. le_z_antisym a b t s) hi P j (λ i h. (n.within i h).not_greater) n.high_value l

-- ---- stretches that v is not in

pub within_joined : {P : List ℤ} {from mid to : ℕ} {lo hi : ℤ} → NoneWithin P from mid lo hi → NoneWithin P mid to lo hi → NoneWithin P from to lo hi
within_joined {P} {from} {mid} {to} {lo} {hi} a b = record { clear = λ i g h. go i g h (ltb i mid) refl }
  where
    go : (i : ℕ) → from ≤ i → i < to → (t : Bool) → ltb i mid ≡ t → Outside lo hi (at P i)
    go i g h true e = a.clear i g (ltb-true i mid e)
    go i g h false e = b.clear i (ltb-false i mid e) h

pub within-back : {P : List ℤ} {i to : ℕ} {lo hi : ℤ} → 0 < i → Outside lo hi (at P (i - 1)) → NoneWithin P i to lo hi → NoneWithin P (i - 1) to lo hi
within-back {P} {i} {to} {lo} {hi} p w b =
    within_joined (record { clear = λ k g h. let e : i - 1 ≡ k = omega arith in subst (λ n. Outside lo hi (at P n)) e w }) b
