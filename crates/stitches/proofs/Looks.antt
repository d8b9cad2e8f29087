-- Shows: what the two looks for a lost stitch have found after so many samples, one more, and all of them; how stretches without one go
-- together; and what the machine's comparison of a sample with the lost one tells.
-- Assumes nothing.
use Prim.Native.Nat.{ℕ, ◌+◌, ◌-◌, ◌≤◌, ◌<◌}
use mathlib.Core.Path.{◌≡◌, refl, sym, ◌∙◌, ap}
use mathlib.Core.List.{List}
use mathlib.Core.Bool.{Bool, true, false, not, cond, ◌||◌}
use native.Mathlib.Omega.{arith}
use native.Mathlib.Numerals.{add-one}
use lib.Dec.{leb, eqb, lit<}
use lib.IntN.{ℤ}
use lib.ListN.{length, take, drop, length-take, length-drop}
use borrow.Author.Tests.{leb-true, leb-false}
use mir.Syntax.{w32}
use mir.Val.{of_z, SFits}
use Rattle.order.specs.Sizes.{Spot, none, place, is_none, at, lowest, or_else}
use Rattle.order.specs.Lost.{lost, is_lost, first_lost_lem, holds_lost_lem}
use Rattle.order.proofs.Comparing.{equal_told}
use Rattle.order.proofs.Isomorphisms.{at_part}
use Rattle.order.proofs.LostStitches.{found_first, holds_none}
use Rattle.stitches.specs.Ends.{or_end}
use Rattle.stitches.specs.Inside.{FreeWithin}

-- a sample is lost exactly if its bits are the lost one's
pub lost-told : (v : ℤ) → SFits w32 v → eqb (of_z w32 v) (of_z w32 lost) ≡ is_lost v
unfolding is_lost
lost-told v f = equal_told v lost f (record { sfits = lit< tt })

-- ---- whether there is one among the first n samples

pub lost_below : List ℤ → ℕ → Bool
lost_below l n = not (is_none (lowest (λ i. is_lost (at l i)) n))

pub none_below : (l : List ℤ) → lost_below l 0 ≡ false
unfolding lost_below lowest is_none
none_below l = refl

pub one_below : (l : List ℤ) (n : ℕ) → lost_below l (n + 1) ≡ (lost_below l n || is_lost (at l n))
unfolding lost_below lowest is_none or_else
one_below l n = rw add-one (go (lowest (λ i. is_lost (at l i)) n) (is_lost (at l n)))
  where
    go : (s : Spot) (t : Bool) → not (is_none (or_else s (cond t (place n) none))) ≡ (not (is_none s) || t)
    go none true = refl
    go none false = refl
    go (place i) t = refl

pub all_below_lem : (l : List ℤ) → lost_below l (length l) ≡ holds_lost_lem l
unfolding lost_below holds_lost_lem first_lost_lem
all_below_lem l = refl

-- ---- stretches without one

pub free_none : (l : List ℤ) (from : ℕ) → FreeWithin l from from
free_none l from = record { free = λ i h k. absurd (omega arith) }

pub free_then : {l : List ℤ} {a b c : ℕ} → FreeWithin l a b → FreeWithin l b c → FreeWithin l a c
free_then {l} {a} {b} {c} f g = record { free = λ i h k. go i h k (leb b i) refl }
  where
    go : (i : ℕ) → a ≤ i → i < c → (t : Bool) → leb b i ≡ t → is_lost (at l i) ≡ false
    go i h k true e = g.free i (leb-true b i e) k
    go i h k false e = f.free i h (leb-false b i e)

free_one : (l : List ℤ) (n : ℕ) → is_lost (at l n) ≡ false → FreeWithin l n (n + 1)
free_one l n e = record { free = λ i h k. let same : i ≡ n = omega arith in ap (λ j. is_lost (at l j)) same ∙ e }

pub free_more : {l : List ℤ} {from n : ℕ} → FreeWithin l from n → is_lost (at l n) ≡ false → FreeWithin l from (n + 1)
free_more {l} {n = n} f e = free_then f (free_one l n e)

-- a part that holds none
pub free_part : (l : List ℤ) (s e : ℕ) → s ≤ e → e ≤ length l → false ≡ holds_lost_lem (take (e - s) (drop s l)) → FreeWithin l s e
free_part l s e h k f =
    record {
      free = λ i g j.
          let same : s + (i - s) ≡ i = omega arith in
          let a = length-take (e - s) (drop s l) in
          let b = length-drop s l in
          ap is_lost (ap (at l) (sym same) ∙ sym (at_part (e - s) s l (i - s) (omega arith))) ∙ holds_none (take (e - s) (drop s l)) (sym f) (i - s) (omega arith);
    }

-- and one behind a stretch without one
pub free_part_more : {l : List ℤ} {s e : ℕ} → FreeWithin l 0 s → s ≤ e → e ≤ length l → false ≡ holds_lost_lem (take (e - s) (drop s l)) → FreeWithin l 0 e
free_part_more {l} {s} {e} b h k f = free_then b (free_part l s e h k f)

-- ---- where the first is

pub found_there : {l : List ℤ} {n : ℕ} → FreeWithin l 0 n → n < length l → is_lost (at l n) ≡ true → n ≡ or_end (first_lost_lem l) (length l)
found_there {l} {n} f h e = sym (ap (λ s. or_end s (length l)) (found_first l (place n) (record { below = h; here = e; earlier = λ i k. f.free i (omega arith) k })))

pub found_none : {l : List ℤ} {n : ℕ} → FreeWithin l 0 n → n ≤ length l → length l ≤ n → n ≡ or_end (first_lost_lem l) (length l)
found_none {l} {n} f w h =
    let same : n ≡ length l = omega arith in
    same ∙ sym (ap (λ s. or_end s (length l)) (found_first l none (λ i k. f.free i (omega arith) (omega arith))))
