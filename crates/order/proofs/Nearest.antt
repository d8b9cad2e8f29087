-- Shows: `nearest` finds, of the earlier places on one side of place j's value, the one with the nearest value, the rightmost
-- of equals, and none exactly if there is no such place; so `low_of` and `high_of` are the neighbours of the rules. Where an earlier
-- value is equal the two are one place. One proof serves both sides.
-- Assumes nothing beyond what the section names: a total, transitive test.
use Prim.Native.Nat.{ℕ, zero, suc, ◌<◌, ◌≤◌}
use mathlib.Core.Path.{◌≡◌, refl, ap}
use mathlib.Core.List.{List}
use mathlib.Core.Bool.{Bool, true, false, cond}
use native.Mathlib.Omega.{arith}
use lib.Dec.{leb}
use lib.IntN.{ℤ}
use lib.Signed.{le_z}
use borrow.Author.Tests.{leb-true, leb-false}
use Rattle.order.specs.Sizes.{Spot, none, place, at}
use Rattle.order.specs.Neighbours.{nearer, nearest, low_of, high_of}
use Rattle.order.proofs.Tests.{clash}
use Rattle.order.proofs.Orders.{le_z_total, le_z_trans}
use Rattle.order.proofs.Lists.{below_suc}

-- a test that tells, of any two samples, which comes first
pub record Ordering (le : ℤ → ℤ → Bool) : Type 0 where
  pub total : (a b : ℤ) → le a b ≡ false → le b a ≡ true
  pub trans : (a b c : ℤ) → le a b ≡ true → le b c ≡ true → le a c ≡ true

pub upward : Ordering le_z
upward = record { total = le_z_total; trans = le_z_trans }

abbrev pub flipped : (ℤ → ℤ → Bool) → ℤ → ℤ → Bool
flipped le a b = le b a

pub turned : {le : ℤ → ℤ → Bool} → Ordering le → Ordering (flipped le)
turned o = record { total = λ a b. o.total b a; trans = λ a b c p q. o.trans c b a q p }

-- place k is the neighbour of place j among the places below n
pub record Near (le : ℤ → ℤ → Bool) (P : List ℤ) (j n k : ℕ) : Type 0 where
  pub below : k < n
  pub side : le (at P k) (at P j) ≡ true
  pub best : (i : ℕ) → i < n → le (at P i) (at P j) ≡ true → le (at P i) (at P k) ≡ true
  pub rightmost : (i : ℕ) → i < n → k < i → le (at P i) (at P j) ≡ true → le (at P k) (at P i) ≡ false

-- what a spot says: the neighbour, or that no place below n is on that side
abbrev pub Neighbour : (ℤ → ℤ → Bool) → List ℤ → ℕ → ℕ → Spot → Type 0
Neighbour le P j n none = (i : ℕ) → i < n → le (at P i) (at P j) ≡ false
Neighbour le P j n (place k) = Near le P j n k

module _ {le : ℤ → ℤ → Bool} (o : Ordering le) (P : List ℤ) (j : ℕ) where
  pub le_refl : (a : ℤ) → le a a ≡ true
  le_refl a = go (le a a) refl
    where
      go : (t : Bool) → le a a ≡ t → le a a ≡ true
      go true e = e
      go false e = o.total a a e

  -- a place on the other side changes nothing
  passed_over : (n : ℕ) (s : Spot) → le (at P n) (at P j) ≡ false → Neighbour le P j n s → Neighbour le P j (suc n) s
  passed_over n none e f = below_suc (λ i. le (at P i) (at P j) ≡ false) n f e
  passed_over n (place k) e f =
      record {
        below = let h : k < n = f.below in omega arith;
        side = f.side;
        best = below_suc (λ i. le (at P i) (at P j) ≡ true → le (at P i) (at P k) ≡ true) n f.best (λ t. clash t e);
        rightmost = below_suc (λ i. k < i → le (at P i) (at P j) ≡ true → le (at P k) (at P i) ≡ false) n f.rightmost (λ h t. clash t e);
      }

  -- a place on this side is the neighbour unless the one before is strictly nearer
  taken_in : (n : ℕ) (s : Spot) → le (at P n) (at P j) ≡ true → Neighbour le P j n s → Neighbour le P j (suc n) (nearer le P n s)
  unfolding nearer
  taken_in n none e f =
      record {
        below = omega arith;
        side = e;
        best = below_suc (λ i. le (at P i) (at P j) ≡ true → le (at P i) (at P n) ≡ true) n (λ i h t. clash t (f i h)) (λ t. le_refl (at P n));
        rightmost = λ i h k t. absurd (omega arith);
      }
  taken_in n (place k) e f = go (le (at P k) (at P n)) refl
    where
      go : (t : Bool) → le (at P k) (at P n) ≡ t → Neighbour le P j (suc n) (cond t (place n) (place k))
      go true u =
          record {
            below = omega arith;
            side = e;
            best = below_suc (λ i. le (at P i) (at P j) ≡ true → le (at P i) (at P n) ≡ true) n
                (λ i h t. o.trans (at P i) (at P k) (at P n) (f.best i h t) u) (λ t. le_refl (at P n));
            rightmost = λ i h k t. absurd (omega arith);
          }
      go false u =
          record {
            below = let h : k < n = f.below in omega arith;
            side = f.side;
            best = below_suc (λ i. le (at P i) (at P j) ≡ true → le (at P i) (at P k) ≡ true) n f.best (λ t. o.total (at P k) (at P n) u);
            rightmost = below_suc (λ i. k < i → le (at P i) (at P j) ≡ true → le (at P k) (at P i) ≡ false) n f.rightmost (λ h t. u);
          }

  nearest-step : (n : ℕ) (s : Spot) (t : Bool) → le (at P n) (at P j) ≡ t → Neighbour le P j n s → Neighbour le P j (suc n) (cond t (nearer le P n s) s)
  nearest-step n s true e f = taken_in n s e f
  nearest-step n s false e f = passed_over n s e f

  -- what `nearest` finds
  pub nearest_is : (n : ℕ) → Neighbour le P j n (nearest le P j n)
  unfolding nearest
  nearest_is zero = λ i h. absurd (omega arith)
  nearest_is (suc n) = nearest-step n (nearest le P j n) (le (at P n) (at P j)) refl (nearest_is n)

-- the two neighbours of the rules
pub low_is : (P : List ℤ) (j : ℕ) → Neighbour le_z P j j (low_of P j)
unfolding low_of
low_is P j = nearest_is upward P j j

pub high_is : (P : List ℤ) (j : ℕ) → Neighbour (flipped le_z) P j j (high_of P j)
unfolding high_of
high_is P j = nearest_is (turned upward) P j j

-- where an earlier value is equal the two are one place
same_spot : (P : List ℤ) (j i : ℕ) → i < j → le_z (at P i) (at P j) ≡ true → le_z (at P j) (at P i) ≡ true
    → (low high : Spot) → Neighbour le_z P j j low → Neighbour (flipped le_z) P j j high → low ≡ high
same_spot P j i h p q none high f g = clash p (f i h)
same_spot P j i h p q (place k) none f g = clash q (g i h)
same_spot P j i h p q (place k) (place l) f g = ap place (go (leb k l) (leb l k) refl refl)
  where
    -- the low neighbour's value is place j's, and so is the high one's
    k_up : le_z (at P j) (at P k) ≡ true
    k_up = le_z_trans (at P j) (at P i) (at P k) q (f.best i h p)

    l_down : le_z (at P l) (at P j) ≡ true
    l_down = le_z_trans (at P l) (at P i) (at P j) (g.best i h q) p

    go : (a b : Bool) → leb k l ≡ a → leb l k ≡ b → k ≡ l
    go true true x y = let u : k ≤ l = leb-true k l x in let w : l ≤ k = leb-true l k y in omega arith
    go true false x y =
        let u : k < l = leb-false l k y in
        clash (le_z_trans (at P k) (at P j) (at P l) f.side g.side) (f.rightmost l g.below u l_down)
    go false b x y =
        let u : l < k = leb-false k l x in
        clash (le_z_trans (at P k) (at P j) (at P l) f.side g.side) (g.rightmost k f.below u k_up)

pub equal_earlier : (P : List ℤ) (j i : ℕ) → i < j → le_z (at P i) (at P j) ≡ true → le_z (at P j) (at P i) ≡ true → low_of P j ≡ high_of P j
equal_earlier P j i h p q = same_spot P j i h p q (low_of P j) (high_of P j) (low_is P j) (high_is P j)
