-- Shows: where a run of windows without a lost stitch ends, and that the windows behind it, up to the stitch that ends it, all hold that
-- stitch.
-- Assumes nothing.
use Prim.Native.Nat.{ℕ, ◌+◌, ◌-◌, ◌≤◌, ◌<◌, min}
use mathlib.Core.Path.{◌≡◌, refl, sym, ◌∙◌, ap}
use mathlib.Core.List.{List}
use mathlib.Core.Bool.{Bool, true, false, not, ◌||◌}
use native.Mathlib.Omega.{arith}
use lib.IntN.{ℤ}
use lib.ListN.{length, take, drop, length-take, length-drop}
use Rattle.order.specs.declared.steps.Meeting.{Meeting}
use Rattle.order.specs.Sizes.{Spot, none, place, at, windows_of}
use Rattle.order.specs.Lost.{is_lost, first_lost_lem, holds_lost_lem}
use Rattle.order.specs.Duels.{is_struck}
use Rattle.order.proofs.Tests.{clash}
use Rattle.order.proofs.Lists.{windows_of_as}
use Rattle.order.proofs.Isomorphisms.{at_part}
use Rattle.order.proofs.LostStitches.{Found, first_found, holds_none, window-free, window-holds}
use Rattle.stitches.specs.Ends.{or_end}
use Rattle.stitches.specs.Inside.{FreeWithin}
use Rattle.duels.specs.Inside.Asked.{LostFrom}
use Rattle.duels.specs.Inside.Stacks.{Standing, enters, RunOf}
use Rattle.duels.proofs.StackLaws.{skipped_to}

-- ---- the next lost stitch

module _ (T : List ℤ) (from : ℕ) (h : from ≤ length T) where
  pub none_from : false ≡ holds_lost_lem T → LostFrom T from (length T)
  none_from e =
      record {
        onward = h;
        within = omega arith;
        before = record { free = λ i g k. holds_none T (sym e) i k };
        lost_there = λ k. absurd (omega arith);
      }

  -- the trace from there on
  abbrev rest : List ℤ
  rest = take (length T - from) (drop from T)

  rest_long : length rest ≡ length T - from
  rest_long = let a = length-take (length T - from) (drop from T) in let b = length-drop from T in omega arith

  at_rest : (i : ℕ) → from ≤ i → i < length T → at T i ≡ at rest (i - from)
  at_rest i g k =
      let same : from + (i - from) ≡ i = omega arith in
      sym (at_part (length T - from) from T (i - from) (omega arith) ∙ ap (at T) same)

  pub some-from : {r : ℕ} → r ≡ or_end (first_lost_lem rest) (length rest) → LostFrom T from (from + r)
  some-from {r} e = go (first_lost_lem rest) (first_found rest) e
    where
      go : (s : Spot) → Found rest s → r ≡ or_end s (length rest) → LostFrom T from (from + r)
      go none f e =
          let l = rest_long in
          record {
            onward = omega arith;
            within = omega arith;
            before = record { free = λ i g k. ap is_lost (at_rest i g (omega arith)) ∙ f (i - from) (omega arith) };
            lost_there = λ k. absurd (omega arith);
          }
      go (place k) f e =
          let l = rest_long in
          let b = f.below in
          let same : from + r - from ≡ k = omega arith in
          record {
            onward = omega arith;
            within = omega arith;
            before = record { free = λ i g j. ap is_lost (at_rest i g (omega arith)) ∙ f.earlier (i - from) (omega arith) };
            lost_there = λ j. ap is_lost (at_rest (from + r) (omega arith) j ∙ ap (at rest) same) ∙ f.here;
          }

-- ---- the run before it

module _ (P T : List ℤ) {from end : ℕ} (n : LostFrom T from end) (h : from < windows_of (length P) (length T)) where
  -- windows that reach the stitch hold it; there is none past the trace's end
  reach : (x : ℕ) → from ≤ x → x ≤ end → end < x + length P → x < windows_of (length P) (length T) → is_struck P T x ≡ true
  unfolding is_struck
  reach x f g k i =
      let w = windows_of_as (length P) (length T) in
      window-holds T x (length P) end g k (omega arith) (n.lost_there (omega arith))

  pub no_run : end < from + length P → RunOf P T from from (end + 1)
  no_run k =
      let o = n.onward in
      let w = n.within in
      record {
        ahead = record { within = omega arith; inside = omega arith; entering = λ x f g. absurd (omega arith) };
        onward = omega arith;
        over = omega arith;
        reached = omega arith;
        held = λ x f g i. reach x f (omega arith) (omega arith) i;
      }

  pub some_run : from + length P ≤ end → RunOf P T from (end - length P + 1) (end + 1)
  unfolding is_struck
  some_run k =
      let w = n.within in
      let v = windows_of_as (length P) (length T) in
      record {
        ahead =
            record {
              within = omega arith;
              inside = omega arith;
              entering = λ x f g. window-free T x (length P) (λ i p q r. n.before.free i (omega arith) (omega arith));
            };
        onward = omega arith;
        over = omega arith;
        reached = omega arith;
        held = λ x f g i. reach x (omega arith) (omega arith) (omega arith) i;
      }

-- ---- from run to run

-- the windows behind a run do not arrive
pub run_over : {P T : List ℤ} {from past next : ℕ} {meet : ℕ → ℕ → Meeting} {l : List ℕ} {a k b : ℕ} → RunOf P T from past next → Standing meet (enters P T) l past a k b
    → Standing meet (enters P T) l (min next (windows_of (length P) (length T))) a k b
run_over {P} {T} {past = past} {next} r s =
    let i = r.ahead.inside in
    let o = r.over in
    skipped_to s (min next (windows_of (length P) (length T))) (omega arith) (λ x h g. ap not (r.held x h (omega arith) (omega arith)))

-- ---- a trace without any

pub or_none : (a b : Bool) → (a || b) ≡ false → (a ≡ false) × (b ≡ false)
or_none true b e = (e, clash refl e)
or_none false b e = (refl, e)

pub none_struck : (P T : List ℤ) → FreeWithin T 0 (length T) → (x : ℕ) → is_struck P T x ≡ false
unfolding is_struck
none_struck P T f x = window-free T x (length P) (λ i p q r. f.free i (omega arith) r)
