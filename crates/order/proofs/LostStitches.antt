-- Shows: a sample is lost exactly if it is that one number; `holds_lost_lem` tells whether a list has such a sample; and which windows of a trace
-- hold one, by the trace's samples.
-- Assumes nothing.
use Prim.Native.Nat.{ℕ, ◌+◌, ◌-◌, ◌≤◌, ◌<◌, min}
use mathlib.Core.Path.{◌≡◌, refl, ◌∙◌, ap}
use mathlib.Core.List.{List}
use mathlib.Core.Bool.{true, false, not}
use native.Mathlib.Omega.{arith}
use lib.IntN.{ℤ}
use lib.ListN.{length, length-take, length-drop}
use Rattle.std.specs.declared.cmp.Ordering.TheVariants.{Equal}
use Rattle.order.specs.Sizes.{Spot, none, place, at, is_none, window}
use Rattle.order.specs.Relations.{rel}
use Rattle.order.specs.Lost.{lost, is_lost, first_lost_lem, NoneLost, holds_lost_lem}
use Rattle.order.proofs.Tests.{clash, must_fail}
use Rattle.order.proofs.Orders.{alike_same}
use Rattle.order.proofs.Comparing.{equal_same, same_equal}
use Rattle.order.proofs.Lists.{Finds, lowest_finds, finds_lowest}
use Rattle.order.proofs.Isomorphisms.{at_part}

-- ---- one sample

pub lost_same : (v : ℤ) → is_lost v ≡ true → v ≡ lost
unfolding is_lost
lost_same v e = equal_same v lost (alike_same (rel v lost) Equal e)

pub lost_is : is_lost lost ≡ true
unfolding is_lost
lost_is = rw (same_equal lost) refl

-- ---- a list

-- what the first lost stitch is: none is, or one that is lost and none before it
abbrev pub Found : List ℤ → Spot → Type 0
Found l s = Finds (λ i. is_lost (at l i)) (length l) s

pub first_found : (l : List ℤ) → Found l (first_lost_lem l)
unfolding first_lost_lem
first_found l = lowest_finds (λ i. is_lost (at l i)) (length l)

pub found_first : (l : List ℤ) (s : Spot) → Found l s → first_lost_lem l ≡ s
unfolding first_lost_lem
found_first l s f = finds_lowest (λ i. is_lost (at l i)) (length l) s f

pub none_holds : (l : List ℤ) → ((i : ℕ) → i < length l → is_lost (at l i) ≡ false) → holds_lost_lem l ≡ false
unfolding holds_lost_lem is_none
none_holds l f = ap (λ s. not (is_none s)) (found_first l none f)

pub holds_none : (l : List ℤ) → holds_lost_lem l ≡ false → (i : ℕ) → i < length l → is_lost (at l i) ≡ false
unfolding holds_lost_lem is_none
holds_none l e = go (first_lost_lem l) (first_found l) e
  where
    go : (s : Spot) → Found l s → not (is_none s) ≡ false → (i : ℕ) → i < length l → is_lost (at l i) ≡ false
    go none f e = f
    go (place k) f e = clash refl e

pub one_holds : (l : List ℤ) (i : ℕ) → i < length l → is_lost (at l i) ≡ true → holds_lost_lem l ≡ true
unfolding holds_lost_lem is_none
one_holds l i h t = go (first_lost_lem l) (first_found l)
  where
    go : (s : Spot) → Found l s → not (is_none s) ≡ true
    go none f = clash t (f i h)
    go (place k) f = refl

-- `holds_lost_lem` decides `NoneLost`
pub none_lost_computed : (l : List ℤ) → NoneLost l → holds_lost_lem l ≡ false
none_lost_computed l c = none_holds l (λ i h. must_fail (is_lost (at l i)) (λ t. c.each i h (lost_same (at l i) t)))

pub computed_none_lost : (l : List ℤ) → holds_lost_lem l ≡ false → NoneLost l
computed_none_lost l e = record { each = λ i h s. clash (ap is_lost s ∙ lost_is) (holds_none l e i h) }

-- ---- a window

module _ (T : List ℤ) (x m : ℕ) where
  within : (i : ℕ) → i < length (window T x m) → (i < m) × (x + i < length T)
  within i h =
      let k : i < min m (length T - x) = rw (length-take, length-drop) at h in
      ((omega arith), (omega arith))

  -- one with no lost stitch in it
  pub window-free : ((i : ℕ) → x ≤ i → i < x + m → i < length T → is_lost (at T i) ≡ false) → holds_lost_lem (window T x m) ≡ false
  window-free f =
      none_holds (window T x m) λ i h.
      let b = within i h in
      let c : i < m = b.0 in
      ap is_lost (at_part m x T i c) ∙ f (x + i) (omega arith) (omega arith) b.1

  -- one with a lost stitch in it
  pub window-holds : (q : ℕ) → x ≤ q → q < x + m → q < length T → is_lost (at T q) ≡ true → holds_lost_lem (window T x m) ≡ true
  window-holds q h k l t =
      let here : x + (q - x) ≡ q = omega arith in
      let i : q - x < m = omega arith in
      one_holds (window T x m) (q - x) (rw (length-take, length-drop) (omega arith)) (ap is_lost (at_part m x T (q - x) i ∙ ap (at T) here) ∙ t)
