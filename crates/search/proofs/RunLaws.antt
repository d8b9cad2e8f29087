-- Shows: what the sweep's look at a block tells. Survivors whose starts lie as far apart as their numbers start one after the other;
-- where the samples go on the pattern's way each of them passes its last place; and a block listed leaves what the rules' sweep of its
-- windows, one by one, does.
-- Assumes nothing.
use Prim.Native.Nat.{ℕ, zero, suc, ◌+◌, ◌-◌, ◌*◌, ◌≤◌, ◌<◌, max}
use mathlib.Core.Path.{◌≡◌, refl, sym, ◌∙◌, ap, ap₂, subst}
use mathlib.Core.List.{List}
use mathlib.Core.Bool.{true}
use native.Mathlib.Omega.{arith}
use native.Mathlib.Numerals.{add-one}
use native.Mathlib.Nat.{zero-mul, suc-mul}
use borrow.Author.Count.{below_more}
use lib.IntN.{ℤ, pos}
use lib.ListN.{length, get_or, drop, set}
use lib.Seq.{get_or-drop}
use Rattle.std.specs.declared.cmp.Ordering.{Ordering}
use Rattle.order.specs.declared.steps.Tested.TheVariants.{Passed}
use Rattle.order.specs.Sizes.{at}
use Rattle.order.specs.Relations.{rel, alike}
use Rattle.order.specs.PlaceTest.{test_of}
use Rattle.order.specs.EntryTest.{told}
use Rattle.order.specs.Duels.{survivors}
use Rattle.order.proofs.PlaceTests.{first_place_free}
use Rattle.order.proofs.Whole.{survivors_ascend}
use Rattle.search.specs.Inside.Asked.{Kept}
use Rattle.search.specs.Inside.Courses.{Steady}
use Rattle.search.specs.Inside.Runs.{GoesOn, RunOf, listed_run}
use Rattle.search.specs.Inside.Sweeps.{SweptOne, SweptTo}
use Rattle.search.proofs.SweepSteps.{spaced, last_passed, next_swept, entry_of, rows-number, survivor_inside}

-- ---- samples that go on

pub goes_further : {T : List ℤ} {e count : ℕ} {way : Ordering} → GoesOn T e count way → told T (e + 1 + count) (e + count) way ≡ true → GoesOn T e (count + 1) way
goes_further g h = record { each = below_more _ _ g.each h }

-- ---- a run in the list

pub listed_none : (buffer : List ℕ) (k found : ℕ) (l : List ℕ) → listed_run buffer k found 0 l ≡ l
unfolding listed_run
listed_none buffer k found l = refl

pub listed_more : (buffer : List ℕ) (k found n : ℕ) (l : List ℕ) → listed_run buffer k found (n + 1) l ≡ set (listed_run buffer k found n l) (found + n) (get_or buffer (k + n) 0)
unfolding listed_run
listed_more buffer k found n l = rw add-one refl

-- ---- survivors beside each other

module _ {P T : List ℤ} {buffer : List ℕ} {kept : ℕ} (rows : Kept P T buffer kept) where
  -- as far apart in the buffer
  apart : (i n : ℕ) → i + n < kept → get_or buffer i 0 + n ≤ get_or buffer (i + n) 0
  apart i n h =
      let number = rows-number rows in
      let s = spaced (survivors P T) (survivors_ascend P T) i n (omega arith) in
      rw (entry_of P T kept buffer i rows.held (omega arith), entry_of P T kept buffer (i + n) rows.held h) s

  -- survivor k is window x, and the one `count` after it starts that far on
  module _ (k x count : ℕ) (here : get_or buffer k 0 ≡ x) (far : k + count < kept) (there : get_or buffer (k + count) 0 ≡ x + count) where
    side : (i : ℕ) → i ≤ count → get_or buffer (k + i) 0 ≡ x + i
    side i h =
        let before = apart k i (omega arith) in
        let after = apart (k + i) (count - i) (omega arith) in
        let f : k + i + (count - i) ≡ k + count = omega arith in
        let q : get_or buffer (k + i) 0 + (count - i) ≤ get_or buffer (k + count) 0 = rw f at after in
        omega arith

    -- the last of them lies within the trace, and so do all
    pub all_inside : x + count + length P ≤ length T
    all_inside =
        let number = rows-number rows in
        let e = entry_of P T kept buffer (k + count) rows.held far in
        let i = survivor_inside P T (k + count) (omega arith) in
        omega arith

    -- each passes its last place where that is free, or where the samples go on
    free : length P ≡ 1 → (i : ℕ) → test_of P (drop (x + i) T) (length P - 1) ≡ Passed 0
    free one i = let none : length P - 1 ≡ 0 = omega arith in rw none (first_place_free P (drop (x + i) T))

    stepped : {way : Ordering} {e : ℕ} → Steady P way → 1 < length P → e + 1 + 1 ≡ x + length P → GoesOn T e (count + 1) way
        → (i : ℕ) → i ≤ count → test_of P (drop (x + i) T) (length P - 1) ≡ Passed 1
    stepped {way} {e} s some last goes i h =
        s.steps (drop (x + i) T) (length P - 1) (omega arith) (omega arith) ∙ rw (stands) refl
      where
        stands : told (drop (x + i) T) (length P - 1) (length P - 1 - 1) way ≡ true
        stands =
            let a : x + i + (length P - 1) ≡ e + 1 + i = omega arith in
            let b : x + i + (length P - 1 - 1) ≡ e + i = omega arith in
            ap₂ (λ p q. alike (rel p q) way) (get_or-drop (x + i) T (length P - 1) (pos 0) ∙ ap (at T) a) (get_or-drop (x + i) T (length P - 1 - 1) (pos 0) ∙ ap (at T) b) ∙
            goes.each i (omega arith)

    pub free-block : {reach : ℕ} → reach + 1 ≡ x + length P → length P ≡ 1 → RunOf P T buffer kept k reach (count + 1) 0
    free-block last one =
        record {
          within = omega arith;
          x = x;
          last = last;
          each = 0;
          sum = omega arith;
          beside = λ i h. side i (omega arith);
          passes = λ i h. free one i;
        }

    pub stepped_block : {way : Ordering} {reach e : ℕ} → Steady P way → 1 < length P → reach + 1 ≡ x + length P → reach ≡ e + 1 → GoesOn T e (count + 1) way
        → RunOf P T buffer kept k reach (count + 1) (count + 1)
    stepped_block s some last from goes =
        record {
          within = omega arith;
          x = x;
          last = last;
          each = 1;
          sum = omega arith;
          beside = λ i h. side i (omega arith);
          passes = λ i h. stepped s some (omega arith) goes i (omega arith);
        }

-- ---- a block swept

-- the same under other names of its numbers
swept_to_as : {P T : List ℤ} {kept : ℕ} {before l l' : List ℕ} {k k' reach reach' spent spent' found found' : ℕ} → l ≡ l' → k ≡ k' → reach ≡ reach' → spent ≡ spent' → found ≡ found'
    → SweptTo P T kept before l' k' reach' spent' found' → SweptTo P T kept before l k reach spent found
swept_to_as a b c d e s = rw (a, b, c, d, e) s

module _ {P T : List ℤ} {buffer : List ℕ} {kept k reach windows total : ℕ} (r : RunOf P T buffer kept k reach windows total) (rows : Kept P T buffer kept)
    (some : 0 < length P) {before after : List ℕ} {spent found : ℕ} (s : SweptTo P T kept before after k reach spent found) where
  -- window n of the run is swept by its last place's test alone
  one_swept : (n : ℕ) → n < windows → SweptOne P T (r.x + n) (max (reach + n) (r.x + n)) (spent + n * r.each) (r.x + n + length P) (spent + n * r.each + r.each) true
  one_swept n h =
      let there = r.last in
      let from : reach + n ≡ max (reach + n) (r.x + n) = omega arith in
      subst (λ (e : ℕ). SweptOne P T (r.x + n) e (spent + n * r.each) (r.x + n + length P) (spent + n * r.each + r.each) true) from
      (last_passed P T (spent + n * r.each) (omega arith) (omega arith) r.each (r.passes n h))

  first-swept : (n : ℕ) → n ≤ windows → SweptTo P T kept before (listed_run buffer k found n after) (k + n) (reach + n) (spent + n * r.each) (found + n)
  first-swept zero h =
      let no-cost = zero-mul r.each in
      swept_to_as (listed_none buffer k found after) (omega arith) (omega arith) (omega arith) (omega arith) s
  first-swept (suc n) h =
      let here : n < windows = omega arith in
      let inside = r.within in
      let there = r.last in
      let more = suc-mul n r.each in
      let e = r.beside n here in
      let x = sym e ∙ entry_of P T kept buffer (k + n) rows.held (omega arith) in
      swept_to_as
      (ap (λ (m : ℕ). listed_run buffer k found m after) (sym (add-one n)) ∙ listed_more buffer k found n after ∙ ap (set (listed_run buffer k found n after) (found + n)) e)
      (omega arith) (omega arith) (omega arith) (omega arith)
      (next_swept (first-swept n (omega arith)) (omega arith) (rows-number rows) x (one_swept n here)
      (let i = survivor_inside P T (k + n) (let m = rows-number rows in omega arith) in omega arith))

  pub run_swept : SweptTo P T kept before (listed_run buffer k found windows after) (k + windows) (reach + windows) (spent + total) (found + windows)
  run_swept = rw r.sum (first-swept windows (omega arith))
