-- Shows: the nearest value on a side is the neighbour's, or the edge where there is none; so the last earlier place that has it is the
-- neighbour, and the edge, which only a sample on that side could equal, is found nowhere. One proof serves both sides and any edge.
-- Assumes nothing beyond what the section names: a total order, and no sample beyond its edge.
use Prim.Native.Nat.{ℕ, zero, suc, ◌≤◌, ◌<◌}
use mathlib.Core.Path.{◌≡◌, refl, ◌∙◌, ap}
use mathlib.Core.List.{List}
use mathlib.Core.Bool.{Bool, true, false, not, cond}
use native.Mathlib.Omega.{arith}
use lib.Dec.{leb}
use lib.IntN.{ℤ}
use lib.Signed.{le_z}
use borrow.Author.Tests.{leb-true, leb-false}
use Rattle.order.specs.Sizes.{Spot, none, place, at, entry}
use Rattle.order.specs.Neighbours.{nearer, nearest}
use Rattle.order.proofs.Tests.{clash}
use Rattle.order.proofs.Orders.{le_z_refl, lt_z_not_le_z, rel_equal}
use Rattle.order.proofs.Comparing.{equal_same}
use Rattle.order.proofs.Nearest.{Ordering, Neighbour, le_refl, nearest_is}
use Rattle.tables.specs.Inside.Claims.{Outside}
use Rattle.tables.specs.Inside.NearValues.{later, nearest_value, LastAt, LastEqual}

pub le_z_antisym : (a b : ℤ) → le_z a b ≡ true → le_z b a ≡ true → a ≡ b
le_z_antisym a b p q = equal_same a b (rel_equal a b (lt_z_not_le_z a b ∙ ap not q) (lt_z_not_le_z b a ∙ ap not p))

-- nothing keeps clear of itself
not_outside : {X : Type 0} (v : ℤ) → Outside v v v → X
not_outside v w = clash (le_z_refl v) (w.beyond (le_z_refl v))

module _ {le : ℤ → ℤ → Bool} (o : Ordering le) (anti : (a b : ℤ) → le a b ≡ true → le b a ≡ true → a ≡ b) (edge : ℤ) (P : List ℤ) (j : ℕ)
    (within : (i : ℕ) → i ≤ j → le edge (at P i) ≡ true) where
  abbrev value : Spot → ℤ
  value none = edge
  value (place k) = at P k

  -- which of two equal samples is taken makes no difference
  later_of : (a b : ℤ) → later le a b ≡ cond (le a b) b a
  later_of a b = go (le b a) (le a b) refl refl
    where
      go : (t s : Bool) → le b a ≡ t → le a b ≡ s → cond t a b ≡ cond s b a
      go true true p q = anti a b q p
      go true false p q = refl
      go false true p q = refl
      go false false p q = clash (o.total a b q) p

  later_edge : (a : ℤ) → le edge a ≡ true → later le edge a ≡ a
  later_edge a e = later_of edge a ∙ ap (λ t. cond t a edge) e

  one_more : (n : ℕ) → n < j → (s : Spot) → Neighbour le P j n s → (t : Bool) → later le (value s) (cond t (at P n) edge) ≡ value (cond t (nearer le P n s) s)
  unfolding nearer
  one_more n h none f true = later_edge (at P n) (within n (omega arith))
  one_more n h none f false = later_edge edge (le_refl o P j edge)
  one_more n h (place k) f true = later_of (at P k) (at P n) ∙ go (le (at P k) (at P n))
    where
      go : (t : Bool) → cond t (at P n) (at P k) ≡ value (cond t (place n) (place k))
      go true = refl
      go false = refl
  one_more n h (place k) f false = let b : k < n = f.below in ap (λ t. cond t (at P k) edge) (within k (omega arith))

  value_is : (n : ℕ) → n ≤ j → nearest_value le edge P (at P j) n ≡ value (nearest le P j n)
  unfolding nearest_value nearest
  value_is zero h = refl
  value_is (suc n) h =
      ap (λ v. later le v (cond (le (at P n) (at P j)) (at P n) edge)) (value_is n (omega arith)) ∙
      one_more n (omega arith) (nearest le P j n) (nearest_is o P j n) (le (at P n) (at P j))

  last_is : (s t : Spot) → Neighbour le P j j s → LastAt P j (value s) t → t ≡ s
  last_is none none f l = refl
  last_is none (place i) f l = clash (ap (λ z. le z (at P j)) l.1 ∙ within j (omega arith)) (f i l.0)
  last_is (place k) none f l = not_outside (at P k) (l.clear k (omega arith) f.below)
  last_is (place k) (place i) f l = ap place (go (leb k i) (leb i k) refl refl)
    where
      go : (a b : Bool) → leb k i ≡ a → leb i k ≡ b → i ≡ k
      go true true x y = let u : k ≤ i = leb-true k i x in let w : i ≤ k = leb-true i k y in omega arith
      go true false x y =
          clash (ap (le (at P k)) l.1 ∙ le_refl o P j (at P k))
          (f.rightmost i l.0 (leb-false i k y) (ap (λ z. le z (at P j)) l.1 ∙ f.side))
      go false b x y = let u : i < k = leb-false k i x in not_outside (at P k) (l.2.clear k (omega arith) f.below)

  pub last-nearest : {v : ℤ} {r : ℕ} → v ≡ nearest_value le edge P (at P j) j → LastEqual P j v r → r ≡ entry (nearest le P j j)
  last-nearest e l =
      l.entry_is ∙ ap entry (last_is (nearest le P j j) l.spot (nearest_is o P j j) (rw (e ∙ value_is j (omega arith)) at l.last))
