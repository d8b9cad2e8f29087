-- Shows: what each turn of the tests of one window leaves is what the rules' tests leave, for any test that costs at most 2.
-- Assumes nothing.
use Prim.Native.Nat.{ℕ, suc, ◌+◌, ◌-◌, ◌*◌, ◌≤◌, ◌<◌, max}
use mathlib.Core.Path.{◌≡◌, refl, sym, ◌∙◌, ap, subst}
use mathlib.Core.List.{List, append-nil}
use mathlib.Core.Bool.{true, false}
use native.Mathlib.Omega.{arith}
use Rattle.order.specs.declared.kinds.Place.{Place}
use Rattle.order.specs.declared.steps.Tested.{Tested}
use Rattle.order.specs.declared.steps.Tested.TheVariants.{Passed, Failed}
use Rattle.order.specs.PlaceTest.{cost}
use Rattle.order.specs.Sweeping.{swept, on_test, tests}
use Rattle.sweep.specs.Inside.{SweptOne}

-- a test costs at most 2
abbrev pub Cheap : (ℕ → ℕ → Tested) → Type 0
Cheap test = (x j : ℕ) → cost (test x j) ≤ 2

module _ (test : ℕ → ℕ → Tested) (cheap : Cheap test) {x j : ℕ} where
  pub cheap_pass : {c : ℕ} → test x j ≡ Passed c → c ≤ 2
  unfolding cost
  cheap_pass q = subst (λ (r : Tested). cost r ≤ 2) q (cheap x j)

  pub cheap_fail : {c : ℕ} {n : Place} → test x j ≡ Failed c n → c ≤ 2
  unfolding cost
  cheap_fail q = subst (λ (r : Tested). cost r ≤ 2) q (cheap x j)

-- the tests from `from` on have come to `reach`
pub record Sweeping (test : ℕ → ℕ → Tested) (m x from before reach spent : ℕ) : Type 0 where
  pub same : (l : List ℕ) → tests cost test x (x + m - from) from before l ≡ tests cost test x (x + m - reach) reach spent l
  pub onward : from ≤ reach
  pub until : reach ≤ max from (x + m)
  pub bound : spent ≤ before + 2 * (reach - from)

-- they begin at some place of x
pub begin_at : (test : ℕ → ℕ → Tested) (m x from before j : ℕ) → from ≡ x + j → Sweeping test m x from before (x + j) before
begin_at test m x from before j e =
    subst (λ (r : ℕ). Sweeping test m x from before r before) e (record { same = λ l. refl; onward = omega arith; until = omega arith; bound = omega arith })

-- one test more
a_test : (test : ℕ → ℕ → Tested) (m x e w f : ℕ) (l : List ℕ) (t : Tested) → test x (e - x) ≡ t → x + m - e ≡ suc f
    → tests cost test x (x + m - e) e w l ≡ on_test t e (w + cost t) l (tests cost test x f (e + 1) (w + cost t) l)
unfolding tests
a_test test m x e w f l t h k = rw (k, h) refl

module _ {test : ℕ → ℕ → Tested} {m x from before j w : ℕ} (cheap : Cheap test) (i : Sweeping test m x from before (x + j) w) (h : j < m) where
  left : x + m - (x + j) ≡ suc (x + m - (x + (j + 1)))
  left = omega arith

  next : x + j + 1 ≡ x + (j + 1)
  next = omega arith

  here : {t : Tested} → test x j ≡ t → test x (x + j - x) ≡ t
  here q = let same : x + j - x ≡ j = omega arith in ap (test x) same ∙ q

  pub passed_on : (c : ℕ) → test x j ≡ Passed c → Sweeping test m x from before (x + (j + 1)) (w + c)
  unfolding on_test cost
  passed_on c q =
      record {
        same = λ l. i.same l ∙ a_test test m x (x + j) w (x + m - (x + (j + 1))) l (Passed c) (here q) left ∙ ap (λ (e : ℕ). tests cost test x (x + m - (x + (j + 1))) e (w + c) l) next;
        onward = let o = i.onward in omega arith;
        until = let u = i.until in omega arith;
        bound = let b = i.bound in let o = i.onward in let k = cheap_pass test cheap q in omega arith;
      }

  pub ended_there : (c : ℕ) (n : Place) → test x j ≡ Failed c n → SweptOne test m x from before (x + j) (w + c) false
  unfolding on_test cost
  ended_there c n q =
      record {
        result = λ l. i.same l ∙ a_test test m x (x + j) w (x + m - (x + (j + 1))) l (Failed c n) (here q) left ∙ ap (swept (x + j) (w + c)) (sym (append-nil l));
        onward = i.onward;
        until = i.until;
        bound = let b = i.bound in let k = cheap_fail test cheap q in omega arith;
      }

pub came_through : {test : ℕ → ℕ → Tested} {m x from before j w : ℕ} → Sweeping test m x from before (x + j) w → m ≤ j → SweptOne test m x from before (x + j) w true
unfolding tests
came_through {m = m} {x = x} {j = j} i h =
    let none : x + m - (x + j) ≡ 0 = omega arith in
    record {
      result = λ l. i.same l ∙ rw none refl;
      onward = i.onward;
      until = i.until;
      bound = let b = i.bound in omega arith;
    }
