-- Shows: what each step of the sweep's code leaves is what the rules' sweep leaves.
-- Assumes nothing.
use Prim.Native.Nat.{ℕ, zero, suc, ◌+◌, ◌-◌, ◌*◌, ◌≤◌, ◌<◌, max}
use mathlib.Core.Path.{◌≡◌, refl, sym, ◌∙◌, ap, ap₂, subst}
use mathlib.Core.List.{List, [], ◌∷◌, Memᴰ}
use mathlib.Core.Bool.{Bool, true, false, cond}
use native.Mathlib.Omega.{arith}
use native.Mathlib.Numerals.{add-one}
use Rattle.std.specs.Prelude.{Result, Ok}
use lib.IntN.{ℤ, pos}
use lib.ListN.{length, get_or, take, drop, set, length-append, length-drop, drop_of_length-le}
use lib.Seq.{drop-cons, get_or-take, take-length, length-take-le, take-append_seam, drop-append-add, drop-drop}
use Rattle.order.specs.declared.kinds.Place.{Place}
use Rattle.order.specs.declared.steps.Tested.{Tested}
use Rattle.order.specs.declared.steps.Tested.TheVariants.{Passed, Failed}
use Rattle.order.specs.Sizes.{at}
use Rattle.order.specs.Relations.{rel}
use Rattle.order.specs.PlaceTest.{test_of, cost}
use Rattle.order.specs.EntryTest.{test_by}
use Rattle.order.specs.Duels.{survivors}
use Rattle.order.specs.Sweeping.{Swept, swept, sweep_all_lem, tests_of, swept_by, sweep_cost, positions}
use Rattle.order.specs.declared.refusal.Refusal.{Refusal}
use Rattle.order.specs.Refusals.{accepted}
use Rattle.order.specs.Written.{over, after_verdict}
use Rattle.order.proofs.Lists.{Ascending, windows_of_as}
use Rattle.order.proofs.Whole.{survivors_ascend}
use Rattle.order.proofs.SweepLaws.{sweep_fails, sweep_lists_same}
use borrow.Author.Tests.{le-ltb}
use Rattle.order.proofs.PlaceTests.{test_cost, test_depends}
use Rattle.order.proofs.TestByEntries.{test_by_own}
use Rattle.tables.specs.Inside.Asked.{OwnNeighbours}
use Rattle.order.proofs.Dueling.{survivors-below, duels-and-survivors}
use Rattle.search.specs.Inside.Asked.{Kept}
use Rattle.sweep.specs.declared.answers.Swept.{Swept as Spent}
use Rattle.order.specs.Answers.{answer_by}
use Rattle.sweep.specs.Sweeps.{places_of, entry_tests, inside_part, swept_of, list_verdict, spent_of, SweepPromise}
use Rattle.sweep.proofs.Testing.{Cheap, Sweeping as TestedTo, begin_at as tests-begin, passed_on as test-passed, ended_there as test-failed, came_through as tests-passed}
use Rattle.sweep.proofs.Listing.{none_swept as no-window-swept, from_here as seen-from-here, from_there as seen-from-there, rest_as, next_swept as next-window-swept, swept_as as window-swept-as}
use Rattle.sweep.proofs.Same.{all_inside, all_same}
use Rattle.search.specs.Inside.Sweeps.{SweptOne, SweptTo, SweepOf}

-- ---- a test by the pattern's own entries, on the window's samples alone

pub own_test : {P : List ℤ} {low high : List ℕ} (T : List ℤ) (x j : ℕ) → OwnNeighbours P low high → x + length P ≤ length T → j < length P
    → test_by (take (x + length P - x) (drop x T)) (get_or low j 0) (get_or high j 0) j ≡ test_of P (drop x T) j
own_test {P} {low} {high} T x j own h k =
    let l = own.limit in
    test_by_own P (take (x + length P - x) (drop x T)) j (omega (arith, long)) (omega (arith, long)) (own.low_own j k) (own.high_own j k) ∙
    test_depends P (take (x + length P - x) (drop x T)) (drop x T) j (λ i e. ap₂ rel (same j (omega arith)) (same i (omega arith)))
  where
    long : length (take (x + length P - x) (drop x T)) ≡ length P
    long = let n = length-drop x T in let t : x + length P - x ≤ length (drop x T) = omega arith in length-take-le (x + length P - x) (drop x T) t ∙ omega arith

    same : (i : ℕ) → i < length P → at (take (x + length P - x) (drop x T)) i ≡ at (drop x T) i
    same i e = get_or-take (x + length P - x) (drop x T) i (pos 0) (omega arith)

-- ---- the tests of one survivor

pub rules-cheap : (P T : List ℤ) → Cheap (tests_of P T)
unfolding tests_of
rules-cheap P T x j = test_cost P (drop x T) j

-- a test of the sweep's is the test on the samples from the window's start on
as_test : (P T : List ℤ) (x j : ℕ) {t : Tested} → test_of P (drop x T) j ≡ t → tests_of P T x j ≡ t
unfolding tests_of
as_test P T x j q = q

-- the tests from `from` on have come to `reach`
pub record Sweeping (P T : List ℤ) (x from before reach spent : ℕ) : Type 0 where
  pub tested_to : TestedTo (tests_of P T) (length P) x from before reach spent

module _ {P T : List ℤ} {x from before j w : ℕ} (i : Sweeping P T x from before (x + j) w) where
  pub passed_on : j < length P → (c : ℕ) → test_of P (drop x T) j ≡ Passed c → Sweeping P T x from before (x + (j + 1)) (w + c)
  passed_on h c q = record { tested_to = test-passed (rules-cheap P T) i.tested_to h c (as_test P T x j q) }

  pub ended_there : j < length P → (c : ℕ) (n : Place) → test_of P (drop x T) j ≡ Failed c n → SweptOne P T x from before (x + j) (w + c) false
  ended_there h c n q = record { tested = test-failed (rules-cheap P T) i.tested_to h c n (as_test P T x j q) }

  pub came_through : length P ≤ j → SweptOne P T x from before (x + j) w true
  came_through h = record { tested = tests-passed i.tested_to h }

-- the tests begin at some place of x
pub begin_at : (P T : List ℤ) (x from before j : ℕ) → from ≡ x + j → Sweeping P T x from before (x + j) before
begin_at P T x from before j e = record { tested_to = tests-begin (tests_of P T) (length P) x from before j e }

-- the last place alone is left
module _ (P T : List ℤ) {x from : ℕ} (before : ℕ) (begun : x ≤ from) (last : from + 1 ≡ x + length P) where
  start : Sweeping P T x from before (x + (length P - 1)) before
  start = begin_at P T x from before (length P - 1) (omega arith)

  pub last_passed : (c : ℕ) → test_of P (drop x T) (length P - 1) ≡ Passed c → SweptOne P T x from before (x + length P) (before + c) true
  last_passed c q =
      let end : x + (length P - 1 + 1) ≡ x + length P = omega arith in
      subst (λ (e : ℕ). SweptOne P T x from before e (before + c) true) end (came_through (passed_on start (omega arith) c q) (omega arith))

-- ---- all survivors

pub mem_at : (xs : List ℕ) (k : ℕ) → k < length xs → Memᴰ (get_or xs k 0) xs
mem_at [] k h = absurd (omega arith)
mem_at (x ∷ xs) zero h = Memᴰ.head refl
mem_at (x ∷ xs) (suc k) h = Memᴰ.tail (mem_at xs k (omega arith))

-- entries of a list that ascends are at least as far apart as their numbers
pub spaced : (xs : List ℕ) → Ascending xs → (i n : ℕ) → i + n < length xs → get_or xs i 0 + n ≤ get_or xs (i + n) 0
spaced xs a i zero h = let same : i + 0 ≡ i = omega arith in rw same (omega arith)
spaced xs a i (suc n) h =
    let less = step xs a (i + n) (omega arith) in
    let so_far = spaced xs a i n (omega arith) in
    let same : i + suc n ≡ suc (i + n) = omega arith in
    rw same (omega arith)
  where
    step : (xs : List ℕ) → Ascending xs → (i : ℕ) → suc i < length xs → get_or xs i 0 < get_or xs (suc i) 0
    step [] a i h = absurd (omega arith)
    step (x ∷ xs) a zero h = a.0 (get_or xs 0 0) (mem_at xs 0 (omega arith))
    step (x ∷ xs) a (suc i) h = step xs a.1 i (omega arith)

pub none_swept : (P T : List ℤ) (kept : ℕ) (before : List ℕ) → kept ≤ length before → SweptTo P T kept before before 0 0 0 0
none_swept P T kept before h = record { room = h; ahead = λ g. omega arith; so_far = no-window-swept (tests_of P T) (length P) (length T) (survivors P T) kept before }

-- seen from where it has come to, and from where it began
pub from_here : {P T : List ℤ} {kept : ℕ} {before l : List ℕ} {k reach spent found : ℕ} → SweptTo P T kept before l k reach spent found → SweptTo P T kept l l k reach spent found
from_here s = record { room = let h = s.room in let l = s.so_far.long in omega arith; ahead = s.ahead; so_far = seen-from-here s.so_far }

pub from_there : {P T : List ℤ} {kept : ℕ} {before l l' : List ℕ} {k reach spent found k' reach' spent' found' : ℕ} → SweptTo P T kept before l k reach spent found
    → SweptTo P T kept l l' k' reach' spent' found' → SweptTo P T kept before l' k' reach' spent' found'
from_there s t = record { room = s.room; ahead = t.ahead; so_far = seen-from-there s.so_far t.so_far }

pub next_swept : {P T : List ℤ} {kept : ℕ} {before after : List ℕ} {k reach spent found x e w : ℕ} {whole : Bool} → SweptTo P T kept before after k reach spent found → k < kept
    → kept ≡ length (survivors P T) → x ≡ get_or (survivors P T) k 0 → SweptOne P T x (max reach x) spent e w whole → x + length P ≤ length T
    → SweptTo P T kept before (cond whole (set after found x) after) (k + 1) e w (cond whole (found + 1) found)
next_swept {P} {T} {k = k} i h number ex r inside =
    let here : k < length (survivors P T) = omega arith in
    let rest = drop-cons (survivors P T) k 0 here ∙ ap₂ (λ y n. y ∷ drop n (survivors P T)) (sym ex) (sym (add-one k)) in
    record {
      room = i.room;
      ahead = λ g.
          let a = i.ahead h in
          let u = r.tested.until in
          let n = spaced (survivors P T) (survivors_ascend P T) k 1 (omega arith) in
          omega arith;
      so_far = next-window-swept (rest_as rest i.so_far) h i.room r.tested inside;
    }

pub all_swept : {P T : List ℤ} {kept : ℕ} {before after : List ℕ} {k reach spent wasted found : ℕ} → SweptTo P T kept before after k reach spent found → kept ≤ k → kept ≡ length (survivors P T)
    → spent + wasted ≤ 2 * (length T + kept) → SweepOf P T kept before after spent wasted found
unfolding sweep_all_lem swept_by sweep_cost positions
all_swept {P} {T} {kept} {before} {after} {k} {reach} {spent} {wasted} {found} i h number few =
    record {
      cost_is = ap (λ (s : Swept). s.total) done;
      bound = few;
      listed = ap (λ (s : Swept). s.listed) done;
      few = let f = i.so_far.few in let w = i.so_far.within in omega arith;
      beyond = i.so_far.beyond;
      same_length = i.so_far.long;
    }
  where
    empty : drop k (survivors P T) ≡ []
    empty = let short : length (survivors P T) ≤ k = omega arith in drop_of_length-le (survivors P T) short

    done : swept reach spent (take found after) ≡ swept_by cost P T
    done = ap (λ xs. sweep_all_lem cost (tests_of P T) (length P) xs (swept reach spent (take found after))) (sym empty) ∙ i.so_far.state

-- ---- the survivors' buffer

pub entry_of : (P T : List ℤ) (kept : ℕ) (buffer : List ℕ) (k : ℕ) → take kept buffer ≡ survivors P T → k < kept → get_or buffer k 0 ≡ get_or (survivors P T) k 0
entry_of P T kept buffer k e h = sym (get_or-take kept buffer k 0 h) ∙ ap (λ l. get_or l k 0) e

pub kept_number : (P T : List ℤ) (kept : ℕ) (buffer : List ℕ) → take kept buffer ≡ survivors P T → kept ≤ length buffer → kept ≡ length (survivors P T)
kept_number P T kept buffer e h = sym (length-take-le kept buffer h) ∙ ap length e

pub survivor_inside : (P T : List ℤ) (k : ℕ) → k < length (survivors P T) → get_or (survivors P T) k 0 + length P ≤ length T
survivor_inside P T k h =
    let b = survivors-below P T (get_or (survivors P T) k 0) (mem_at (survivors P T) k h) in
    let w = windows_of_as (length P) (length T) in
    omega arith

module _ {P T : List ℤ} {buffer : List ℕ} {kept : ℕ} (rows : Kept P T buffer kept) where
  pub rows-number : kept ≡ length (survivors P T)
  rows-number = kept_number P T kept buffer rows.held rows.kept_long

  -- there are at most as many as the trace has windows
  pub rows_few : kept ≤ length T + 1
  rows_few =
      let d = duels-and-survivors P T in
      let w = windows_of_as (length P) (length T) in
      let n = rows-number in
      omega arith

  -- each lies within the trace
  pub rows_inside : (k : ℕ) → k < kept → get_or buffer k 0 + length P ≤ length T
  rows_inside k h =
      let n = rows-number in
      let e = entry_of P T kept buffer k rows.held h in
      let i = survivor_inside P T k (omega arith) in
      omega arith

-- the same under the code's names
pub swept_as : {P T : List ℤ} {start from x spent e w : ℕ} {whole : Bool} (reach : ℕ) → start ≡ x → from ≡ max reach start → SweptOne P T start from spent e w whole → SweptOne P T x (max reach x) spent e w whole
swept_as reach p q r = record { tested = window-swept-as reach refl p q r.tested }

-- ---- a sweep by the pattern's own tables

survivors_in : (P T : List ℤ) (x : ℕ) → Memᴰ x (survivors P T) → x + length P ≤ length T
survivors_in P T x h =
    let b = survivors-below P T x h in
    let w = windows_of_as (length P) (length T) in
    omega arith

-- is the rules'
module _ {P : List ℤ} {low high : List ℕ} (T : List ℤ) (own : OwnNeighbours P low high) where
  places : places_of (take (length P) low) (take (length P) high) ≡ length P
  places =
      let l = own.low_room in
      let h = own.high_room in
      let a = length-take-le (length P) low (omega arith) in
      let b = length-take-le (length P) high (omega arith) in
      omega arith

  entry-own : (x : ℕ) → x + length P ≤ length T → (j : ℕ) → j < length P → entry_tests (take (length P) low) (take (length P) high) T x j ≡ tests_of P T x j
  unfolding entry_tests tests_of
  entry-own x h j k =
      let size : x + length P - x ≡ length P = omega arith in
      ap (λ n. test_by (take n (drop x T)) (get_or (take (length P) low) j 0) (get_or (take (length P) high) j 0) j) (places ∙ sym size) ∙
      ap₂ (λ l u. test_by (take (x + length P - x) (drop x T)) l u j) (get_or-take (length P) low j 0 (omega arith)) (get_or-take (length P) high j 0 (omega arith)) ∙
      own_test T x j own h k

  own-swept : swept_of (take (length P) low) (take (length P) high) T (survivors P T) ≡ swept_by cost P T
  unfolding swept_of swept_by
  own-swept =
      ap (λ n. sweep_all_lem cost (entry_tests (take (length P) low) (take (length P) high) T) n (inside_part n (length T) (survivors P T)) (swept 0 0 [])) places ∙
      ap (λ xs. sweep_all_lem cost (entry_tests (take (length P) low) (take (length P) high) T) (length P) xs (swept 0 0 [])) (all_inside (length P) (length T) (survivors P T) (survivors_in P T)) ∙
      all_same (entry_tests (take (length P) low) (take (length P) high) T) (tests_of P T) (length P) (survivors P T) (λ x h. entry-own x (survivors_in P T x h)) (swept 0 0 [])

-- the listed are no more than the survivors
listed-few : (P T : List ℤ) → length (positions P T) ≤ length (survivors P T)
listed-few P T =
    let f = sweep_fails P T in
    let e = ap length (sweep_lists_same P T) in
    omega arith

module _ {P : List ℤ} {low high : List ℕ} {T : List ℤ} {buffer : List ℕ} (own : OwnNeighbours P low high) (rows : Kept P T buffer (length buffer))
    (before : List ℕ) (fits : length buffer ≤ length before) where
  held : buffer ≡ survivors P T
  held = sym (take-length buffer) ∙ rows.held

  room : list_verdict buffer before ≡ accepted
  unfolding list_verdict
  room = rw (le-ltb (length before) (length buffer) fits) refl

  all : swept_of (take (length P) low) (take (length P) high) T buffer ≡ swept_by cost P T
  all = ap (swept_of (take (length P) low) (take (length P) high) T) held ∙ own-swept T own

  -- it is never refused
  pub mixed_answer : {r : Result Spent Refusal} {after : List ℕ} → SweepPromise (take (length P) low) (take (length P) high) T buffer before r after → r ≡ Ok (spent_of (swept_by cost P T))
  mixed_answer p = p.answer ∙ ap₂ (λ v t. answer_by v (spent_of t)) room all

  -- and leaves the rules' sweep
  pub mixed_swept : {s : Spent} {r : Result Spent Refusal} {after : List ℕ} → r ≡ Ok s → SweepPromise (take (length P) low) (take (length P) high) T buffer before r after
      → SweepOf P T (length buffer) before after s.spent 0 s.found
  unfolding sweep_cost positions
  mixed_swept {s} {r} {after} g p =
      let few = listed-few P T in
      let number = rows-number rows in
      let b = p.bound s g in
      record {
        cost_is = ap (λ (t : Spent). t.spent) told;
        bound = omega arith;
        listed = ap₂ take found_is written ∙ take-append_seam (positions P T) (drop (length (positions P T)) before);
        few = let f = found_is in omega arith;
        beyond =
            let more : length buffer ≡ length (positions P T) + (length buffer - length (positions P T)) = omega arith in
            let less : length buffer - length (positions P T) + length (positions P T) ≡ length buffer = omega arith in
            let back : length (positions P T) + (length buffer - length (positions P T)) ≡ length buffer = omega arith in
            ap (drop (length buffer)) written ∙ ap (λ n. drop n (over (positions P T) before)) more ∙ drop-append-add (positions P T) (drop (length (positions P T)) before) (length buffer - length (positions P T)) ∙
            drop-drop (length buffer - length (positions P T)) (length (positions P T)) before ∙ ap (λ n. drop n before) back;
        same_length = ap length written ∙ length-append (positions P T) (drop (length (positions P T)) before) ∙ (let d = length-drop (length (positions P T)) before in omega arith);
      }
    where
      same : {t : Spent} → ◌≡◌ {A = Result Spent Refusal} (Ok s) (Ok t) → s ≡ t
      same e = cc

      told : s ≡ spent_of (swept_by cost P T)
      told = same (sym g ∙ mixed_answer p)

      found_is : s.found ≡ length (positions P T)
      found_is = ap (λ (t : Spent). t.found) told

      written : after ≡ over (positions P T) before
      written = p.positions_after ∙ ap₂ (λ v (t : Swept). after_verdict v t.listed before) room all
