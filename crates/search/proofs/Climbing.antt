-- Shows: what the tests of one survivor of a steady pattern leave is what the rules' sweep leaves, at one comparison for each sample after
-- the first.
-- Assumes nothing.
use Prim.Native.Nat.{ℕ, zero, suc, ◌+◌, ◌-◌, ◌≤◌, ◌<◌, max}
use mathlib.Core.Path.{◌≡◌, refl, sym, ◌∙◌, ap, ap₂, subst}
use mathlib.Core.List.{List}
use mathlib.Core.Bool.{Bool, true, false, cond}
use native.Mathlib.Omega.{arith}
use lib.Dec.{eqb}
use lib.IntN.{ℤ, pos}
use lib.ListN.{length, drop}
use lib.Seq.{get_or-drop}
use borrow.Author.Tests.{eqb-true, eqb-false}
use Rattle.std.specs.declared.cmp.Ordering.{Ordering}
use Rattle.order.specs.declared.steps.Tested.TheVariants.{Passed, Failed}
use Rattle.order.specs.Sizes.{as_place, at}
use Rattle.order.specs.Relations.{rel, alike}
use Rattle.order.specs.PlaceTest.{test_of}
use Rattle.order.specs.EntryTest.{told}
use Rattle.order.proofs.PlaceTests.{first_place_free}
use Rattle.search.specs.Inside.Courses.{Steady}
use Rattle.search.specs.Inside.Sweeps.{SweptOne, Climbed}
use Rattle.search.proofs.SweepSteps.{Sweeping, begin_at, passed_on, ended_there, came_through}

-- the tests of window x have come to sample e, past its first
pub record Climbs (P T : List ℤ) (x from before e spent : ℕ) : Type 0 where
  pub sweeping : Sweeping P T x from before e spent
  pub past : x < e
  pub cheap : spent + from ≤ before + e

-- place 0 is free
pub climb_begins : (P T : List ℤ) (x from before : ℕ) → 0 < length P → x ≤ from → Climbs P T x from before (max from (x + 1)) before
climb_begins P T x from before some h = go (eqb from x) refl
  where
    go : (t : Bool) → eqb from x ≡ t → Climbs P T x from before (max from (x + 1)) before
    go true t =
        let same : from ≡ x = eqb-true from x t in
        let next : max from (x + 1) ≡ x + (0 + 1) = omega arith in
        let none : before + 0 ≡ before = omega arith in
        record {
          sweeping = rw next (subst (Sweeping P T x from before (x + (0 + 1))) none (passed_on (begin_at P T x from before 0 (omega arith)) some 0 (first_place_free P (drop x T))));
          past = omega arith;
          cheap = omega arith;
        }
    go false t =
        let other : from ≡ x → ⊥ = eqb-false from x t in
        let here : max from (x + 1) ≡ x + (from - x) = omega (arith, other) in
        record { sweeping = rw here (begin_at P T x from before (from - x) (omega arith)); past = omega arith; cheap = omega arith }

module _ {P T : List ℤ} {way : Ordering} {x from before e spent : ℕ} (s : Steady P way) (c : Climbs P T x from before e spent) where
  place_of : e ≡ x + (e - x)
  place_of = let p = c.past in omega arith

  placed : Sweeping P T x from before (x + (e - x)) spent
  placed = subst (λ (r : ℕ). Sweeping P T x from before r spent) place_of c.sweeping

  -- the test there compares sample e with the one before it
  test_there : {t : Bool} → e < x + length P → told T e (e - 1) way ≡ t → test_of P (drop x T) (e - x) ≡ cond t (Passed 1) (Failed 1 (as_place (e - x - 1)))
  test_there {t} h q =
      let p = c.past in
      let a : x + (e - x) ≡ e = omega arith in
      let b : x + (e - x - 1) ≡ e - 1 = omega arith in
      s.steps (drop x T) (e - x) (omega arith) (omega arith) ∙
      ap (λ b. cond b (Passed 1) (Failed 1 (as_place (e - x - 1))))
      (ap₂ (λ p q. alike (rel p q) way) (get_or-drop x T (e - x) (pos 0) ∙ ap (at T) a) (get_or-drop x T (e - x - 1) (pos 0) ∙ ap (at T) b) ∙ q)

  pub climbs_on : e < x + length P → told T e (e - 1) way ≡ true → Climbs P T x from before (e + 1) (spent + 1)
  climbs_on h q =
      let p = c.past in
      let g = c.cheap in
      let next : x + (e - x + 1) ≡ e + 1 = omega arith in
      record {
        sweeping = subst (λ (r : ℕ). Sweeping P T x from before r (spent + 1)) next (passed_on placed (omega arith) 1 (test_there h q));
        past = omega arith;
        cheap = omega arith;
      }

  pub climb_fails : e < x + length P → told T e (e - 1) way ≡ false → Climbed P T x from before e (spent + 1) false
  climb_fails h q =
      let p = c.past in
      let g = c.cheap in
      record {
        swept_one = subst (λ (r : ℕ). SweptOne P T x from before r (spent + 1) false) (sym place_of) (ended_there placed (omega arith) 1 (as_place (e - x - 1)) (test_there h q));
        cheap = omega arith;
      }

  pub climb_ends : x + length P ≤ e → Climbed P T x from before e spent true
  climb_ends h =
      let p = c.past in
      let g = c.cheap in
      record {
        swept_one = subst (λ (r : ℕ). SweptOne P T x from before r spent true) (sym place_of) (came_through placed (omega arith));
        cheap = omega arith;
      }

-- and so on, as far as the samples go the pattern's way
pub climbs_far : {P T : List ℤ} {way : Ordering} {x from before e spent : ℕ} → Steady P way → Climbs P T x from before e spent
    → (n : ℕ) → n ≤ x + length P - e → ((k : ℕ) → k < n → told T (e + k) (e + k - 1) way ≡ true) → Climbs P T x from before (e + n) (spent + n)
climbs_far {e = e} {spent = spent} s c zero h g =
    let a : e + 0 ≡ e = omega arith in
    let b : spent + 0 ≡ spent = omega arith in
    rw (a, b) c
climbs_far {e = e} {spent = spent} s c (suc n) h g =
    let a : e + suc n ≡ e + n + 1 = omega arith in
    let b : spent + suc n ≡ spent + n + 1 = omega arith in
    rw (a, b) (climbs_on s (climbs_far s c n (omega arith) (λ k l. g k (omega arith))) (omega arith) (g n (omega arith)))
