-- Shows: a test by entries costs at most 2; the parts of the sweep's promise follow from what its loop leaves; and no second answer, nor
-- other content of the list, satisfies it.
-- Assumes nothing.
use Prim.Native.Nat.{ℕ, ◌+◌, ◌-◌, ◌*◌, ◌≤◌, ◌<◌}
use mathlib.Core.Path.{◌≡◌, refl, sym, ◌∙◌, ap, ap₂, subst}
use mathlib.Core.List.{List, [], ◌∷◌, ◌++◌}
use mathlib.Core.Bool.{Bool, true, false, cond}
use native.Mathlib.Omega.{arith}
use native.Mathlib.Numerals.{add-one}
use Rattle.std.specs.Prelude.{Result, Ok, Err}
use lib.Dec.{ltb, eqb}
use lib.IntN.{ℤ}
use lib.ListN.{length, get_or, take, drop, take-append-drop, drop_of_length-le}
use lib.Seq.{length-take-le, drop-cons}
use borrow.Author.Tests.{lt-ltb, le-ltb, le-leb, lt-leb}
use Rattle.std.specs.declared.cmp.Ordering.TheVariants.{Less, Equal, Greater}
use Rattle.order.specs.declared.steps.Tested.TheVariants.{Passed, Failed}
use Rattle.order.specs.declared.refusal.Refusal.{Refusal}
use Rattle.order.specs.declared.refusal.Refusal.TheVariants.{ShortPositions}
use Rattle.order.specs.Sizes.{as_place, window, passing}
use Rattle.order.specs.PlaceTest.{cost}
use Rattle.order.specs.EntryTest.{told, under_high_lem, test_by}
use Rattle.order.specs.Sweeping.{Swept, swept, sweep_all_lem}
use Rattle.sweep.specs.declared.answers.Swept.{Swept as Spent}
use Rattle.sweep.specs.Sweeps.{places_of, entry_tests, inside_part, swept_of, list_verdict, SweepPromise}
use Rattle.sweep.specs.Inside.{SweptTo, SweptAll}
use Rattle.sweep.proofs.Testing.{Cheap}

-- ---- a test

-- the high neighbour's part
under-cheap : (v : List ℤ) (high j c : ℕ) → c ≤ 1 → cost (under_high_lem v high j c) ≤ 2
unfolding under_high_lem cost
under-cheap v high j c h = go (ltb high (length v)) (told v j high Less)
  where
    go : (a b : Bool) → cost (cond a (cond b (Passed (c + 1)) (Failed (c + 1) (as_place high))) (Passed c)) ≤ 2
    go true true = omega arith
    go true false = omega arith
    go false b = omega arith

by_entries_cheap : (v : List ℤ) (low high j : ℕ) → cost (test_by v low high j) ≤ 2
unfolding test_by cost
by_entries_cheap v low high j = go (ltb j (length v)) (ltb low (length v)) (eqb low high) (told v j low Equal) (told v j low Greater)
  where
    go : (a b c d e : Bool)
        → cost (cond a (cond b (cond c (cond d (Passed 1) (Failed 1 (as_place low))) (cond e (under_high_lem v high j 1) (Failed 1 (as_place low)))) (under_high_lem v high j 0)) (Passed 0)) ≤ 2
    go true true true true e = omega arith
    go true true true false e = omega arith
    go true true false d true = under-cheap v high j 1 (omega arith)
    go true true false d false = omega arith
    go true false c d e = under-cheap v high j 0 (omega arith)
    go false b c d e = omega arith

pub entry-cheap : (low high : List ℕ) (T : List ℤ) → Cheap (entry_tests low high T)
unfolding entry_tests
entry-cheap low high T x j = by_entries_cheap (window T x (places_of low high)) (get_or low j 0) (get_or high j 0) j

-- on the window as the code has it
pub entry_test : (low high : List ℕ) (T : List ℤ) (x : ℕ) {m : ℕ} (j : ℕ) → m ≡ places_of low high
    → test_by (take (x + m - x) (drop x T)) (get_or low j 0) (get_or high j 0) j ≡ entry_tests low high T x j
unfolding entry_tests
entry_test low high T x {m} j e =
    let size : x + m - x ≡ m = omega arith in
    ap (λ n. test_by (take n (drop x T)) (get_or low j 0) (get_or high j 0) j) (size ∙ e)

-- ---- the windows in the trace

-- one more window of the list, in the trace or not
pub one_inside : (m n : ℕ) (ws : List ℕ) (k : ℕ) → k < length ws → get_or ws k 0 + m ≤ n → inside_part m n (drop k ws) ≡ get_or ws k 0 ∷ inside_part m n (drop (k + 1) ws)
unfolding inside_part passing
one_inside m n ws k h i = ap (inside_part m n) (drop-cons ws k 0 h) ∙ rw (le-leb (get_or ws k 0 + m) n i, add-one k) refl

pub one_outside : (m n : ℕ) (ws : List ℕ) (k : ℕ) → k < length ws → n < get_or ws k 0 + m → inside_part m n (drop k ws) ≡ inside_part m n (drop (k + 1) ws)
unfolding inside_part passing
one_outside m n ws k h i = ap (inside_part m n) (drop-cons ws k 0 h) ∙ rw (lt-leb (get_or ws k 0 + m) n i, add-one k) refl

-- ---- the end

pub all_swept : {low high : List ℕ} {T : List ℤ} {ws before after : List ℕ} {k reach spent found : ℕ}
    → SweptTo (entry_tests low high T) (places_of low high) (length T) (inside_part (places_of low high) (length T) ws) (inside_part (places_of low high) (length T) (drop k ws)) (length ws) before after k reach spent found
    → drop found after ≡ drop found before → length ws ≤ k → length ws ≤ length before → SweptAll low high T ws before after spent found
unfolding swept_of inside_part passing sweep_all_lem
all_swept {low} {high} {T} {ws} {before} {after} {k} {reach} {spent} {found} i behind h room =
    let v = i.within in
    let f = i.few in
    let b = i.bound in
    let r = i.reached in
    let g = i.long in
    let count : length (take found after) ≡ found = length-take-le found after (omega arith) in
    record {
      cost_is = ap (λ (s : Swept). s.total) done;
      bound = omega arith;
      found_is = sym count ∙ ap (λ (s : Swept). length s.listed) done;
      listed = sym (take-append-drop found after) ∙ ap₂ ◌++◌ (ap (λ (s : Swept). s.listed) done) (behind ∙ ap (λ n. drop n before) (sym count ∙ ap (λ (s : Swept). length s.listed) done));
    }
  where
    none : drop k ws ≡ []
    none = drop_of_length-le ws h

    done : swept reach spent (take found after) ≡ swept_of low high T ws
    done = sym (ap (λ xs. sweep_all_lem cost (entry_tests low high T) (places_of low high) (inside_part (places_of low high) (length T) xs) (swept reach spent (take found after))) none) ∙ i.state

-- ---- the promise

module _ (low high : List ℕ) (T : List ℤ) (ws before : List ℕ) where
  pub sweep_refused : length before < length ws → SweepPromise low high T ws before (Err (ShortPositions (length ws))) before
  unfolding list_verdict
  sweep_refused h =
      let v = lt-ltb (length before) (length ws) h in
      record { number = rw v refl; place = rw v refl; answer = rw v refl; positions_after = rw v refl; bound = λ s e. absurd (let z : ◌≡◌ {A = ℕ} 0 1 = cc in omega arith) }

  pub sweep_done : {s : Spent} {after : List ℕ} → length ws ≤ length before → SweptAll low high T ws before after s.spent s.found → SweepPromise low high T ws before (Ok s) after
  unfolding list_verdict
  sweep_done {s} h a =
      let v = le-ltb (length before) (length ws) h in
      record {
        number = rw v refl;
        place = rw v refl;
        answer = rw v (ap Ok (ap₂ (λ p q. record { spent = p; found = q }) a.cost_is a.found_is));
        positions_after = rw v a.listed;
        bound = λ t e. let same : s ≡ t = cc in subst (λ (u : Spent). u.spent ≤ 2 * (length T + length ws)) same a.bound;
      }

  -- no second answer, and no other content of the list
  pub sweep_only_answer : {r s : Result Spent Refusal} {after₁ after₂ : List ℕ} → SweepPromise low high T ws before r after₁ → SweepPromise low high T ws before s after₂ → (r ≡ s) × (after₁ ≡ after₂)
  sweep_only_answer p q = (p.answer ∙ sym q.answer, p.positions_after ∙ sym q.positions_after)
