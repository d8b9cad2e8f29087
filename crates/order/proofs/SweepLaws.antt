-- Shows: of the sweep, over any outcome of tests: what was tested of a survivor carries over to the later ones, so each listed
-- window has passed all its tests and each that ends has failed one; E never passes the trace's end; and any count kept of
-- the tests by E, the windows listed and the survivors done holds at the end. Then, of the rules' own sweep: W is at most
-- 2(n + S), the passes are at most n, failed and listed together are S, and the list is the survivors that occur.
-- Assumes nothing beyond the records `Carries` and `Tallies`.
use Prim.Native.Nat.{ℕ, zero, suc, ◌+◌, ◌-◌, ◌*◌, ◌≤◌, ◌<◌, max}
use mathlib.Core.Path.{◌≡◌, refl, sym, ◌∙◌, ap, subst}
use mathlib.Core.List.{List, [], ◌∷◌, ◌++◌, append_assoc, append-nil, Memᴰ}
use mathlib.Core.Bool.{Bool, true, false, cond}
use native.Mathlib.Omega.{arith}
use lib.IntN.{ℤ}
use lib.ListN.{length, take, drop, length-append, length-drop}
use lib.Seq.{take_all}
use Rattle.order.specs.declared.steps.Tested.{Tested}
use Rattle.order.specs.declared.steps.Tested.TheVariants.{Passed, Failed}
use Rattle.order.specs.Sizes.{window, passing}
use Rattle.order.specs.Isomorphic.{Iso}
use Rattle.order.specs.PlaceTest.{passes, cost}
use Rattle.order.specs.Duels.{survivors}
use Rattle.order.specs.Sweeping.{Swept, swept, Weight, on_pass, on_fail, on_test, tests, sweep_one_lem, sweep_all_lem, tests_of, swept_by, sweep_cost, positions}
use Rattle.order.proofs.Tests.{clash, must_fail}
use Rattle.order.proofs.Lists.{below_suc, passing_one, windows_of_as}
use Rattle.order.proofs.Equivalences.{carry_over}
use Rattle.order.proofs.Isomorphisms.{iso_inherits, iso_computed, computed_iso}
use Rattle.order.proofs.PlaceTests.{tests_iso, iso_tests, test_cost}
use Rattle.order.proofs.Meetings.{occurs, Agrees}
use Rattle.order.proofs.Dueling.{Agreeing, survivors-below, survivors-agreeing}

-- the tests of window x below k have passed
abbrev pub Known : (ℕ → ℕ → Tested) → ℕ → ℕ → Type 0
Known test x k = (j : ℕ) → j < k → passes (test x j) ≡ true

-- what is asked of the tests: they carry over between agreeing windows, and together they decide which windows are listed
pub record Carries (test : ℕ → ℕ → Tested) (m : ℕ) (q : ℕ → Bool) (A : ℕ → ℕ → Type 0) (n : ℕ) : Type 0 where
  pub over : (x y k : ℕ) → x < y → x + m ≤ n → y + m ≤ n → A x y → k ≤ m → Known test x k → Known test y (k - (y - x))
  pub yes : (x : ℕ) → x + m ≤ n → Known test x m → q x ≡ true
  pub nay : (x j : ℕ) → j < m → passes (test x j) ≡ false → q x ≡ false

-- a tally of E, the total, the windows listed and the survivors done, kept up by every step of the sweep
pub record Tallies (test : ℕ → ℕ → Tested) (weigh : Weight) (K : ℕ → ℕ → ℕ → ℕ → Type 0) : Type 0 where
  pub pass : (x j e w r k : ℕ) → passes (test x j) ≡ true → K e w r k → K (e + 1) (w + weigh (test x j)) r k
  pub fail : (x j e w r k : ℕ) → passes (test x j) ≡ false → K e w r k → K e (w + weigh (test x j)) r (k + 1)
  pub list : (e w r k : ℕ) → K e w r k → K e w (r + 1) (k + 1)
  pub raise : (e f w r k : ℕ) → e ≤ f → K e w r k → K f w r k

module _ {test : ℕ → ℕ → Tested} {m : ℕ} {q : ℕ → Bool} {A : ℕ → ℕ → Type 0} {n : ℕ} (C : Carries test m q A n)
    {weigh : Weight} {K : ℕ → ℕ → ℕ → ℕ → Type 0} (Y : Tallies test weigh K) where
  -- what the tests of one survivor leave
  record Ended (x e k : ℕ) (l : List ℕ) (s : Swept) : Type 0 where
    pub from : e ≤ s.reach
    pub to : s.reach ≤ x + m
    pub known : Known test x (s.reach - x)
    pub listing : s.listed ≡ l ++ passing q (x ∷ [])
    pub tally : K s.reach s.total (length s.listed) (k + 1)

  one_test : (x f e w k : ℕ) (l : List ℕ) (t : Tested) → test x (e - x) ≡ t → (next : Swept)
      → x ≤ e → x + m ≤ n → e + suc f ≡ x + m → Known test x (e - x) → K e w (length l) k
      → (passes t ≡ true → Ended x (e + 1) k l next) → Ended x e k l (on_test t e (w + weigh t) l next)
  unfolding on_test passes
  one_test x f e w k l (Passed c) eq next xe xm ef kn tl go =
      let r = go refl in
      record { from = let h = r.from in omega arith; to = r.to; known = r.known; listing = r.listing; tally = r.tally }
  one_test x f e w k l (Failed c i) eq next xe xm ef kn tl go =
      let fails : passes (test x (e - x)) ≡ false = ap passes eq in
      record {
        from = omega arith;
        to = omega arith;
        known = kn;
        listing = sym (ap (λ r. l ++ r) (passing_one q x ∙ ap (λ t. cond t (x ∷ []) []) (C.nay x (e - x) (omega arith) fails)) ∙ append-nil l);
        tally = subst (λ t. K e (w + weigh t) (length l) (k + 1)) eq (Y.fail x (e - x) e w (length l) k fails tl);
      }

  ends : (x f e w k : ℕ) (l : List ℕ) → x ≤ e → x + m ≤ n → e + f ≡ x + m → Known test x (e - x) → K e w (length l) k → Ended x e k l (tests weigh test x f e w l)
  unfolding tests
  ends x zero e w k l xe xm ef kn tl =
      record {
        from = omega arith;
        to = omega arith;
        known = kn;
        listing = sym (ap (λ r. l ++ r) (passing_one q x ∙ ap (λ t. cond t (x ∷ []) []) (C.yes x xm (λ j h. kn j (omega arith)))));
        tally = rw length-append (Y.list e w (length l) k tl);
      }
  ends x (suc f) e w k l xe xm ef kn tl =
      one_test x f e w k l (test x (e - x)) refl (tests weigh test x f (e + 1) (w + weigh (test x (e - x))) l) xe xm ef kn tl
      (λ p. ends x f (e + 1) (w + weigh (test x (e - x))) k l (omega arith) xm (omega arith) (one_more p) (Y.pass x (e - x) e w (length l) k p tl))
    where
      one_more : passes (test x (e - x)) ≡ true → Known test x (e + 1 - x)
      one_more p =
          let same : e + 1 - x ≡ suc (e - x) = omega arith in
          rw same (below_suc (λ j. passes (test x j) ≡ true) (e - x) kn p)

  -- what the sweep of the survivors xs leaves
  pub record Done (k : ℕ) (xs l : List ℕ) (s : Swept) : Type 0 where
    pub reach : s.reach ≤ n
    pub listing : s.listed ≡ l ++ passing q xs
    pub tally : K s.reach s.total (length s.listed) (k + length xs)

  -- what holds before the survivors xs are swept
  pub record Ready (k : ℕ) (xs : List ℕ) (s : Swept) : Type 0 where
    pub reach : s.reach ≤ n
    pub known : (z : ℕ) → Memᴰ z xs → (s.reach ≤ z + m) × Known test z (s.reach - z)
    pub tally : K s.reach s.total (length s.listed) k

  one_survivor : (x k : ℕ) (xs : List ℕ) (s : Swept) → x + m ≤ n → Ready k (x ∷ xs) s → Ended x (max s.reach x) k s.listed (sweep_one_lem weigh test m x s)
  unfolding sweep_one_lem
  one_survivor x k xs s xm d =
      let here = d.known x (Memᴰ.head refl) in
      let h : s.reach ≤ x + m = here.0 in
      let same : max s.reach x - x ≡ s.reach - x = omega arith in
      ends x (x + m - max s.reach x) (max s.reach x) s.total k s.listed (omega arith) xm (omega arith)
      (rw same here.1) (Y.raise s.reach (max s.reach x) s.total (length s.listed) k (omega arith) d.tally)

  next_ready : (x k : ℕ) (xs l : List ℕ) (e : ℕ) (s : Swept) → Agreeing A (x ∷ xs) → ((z : ℕ) → Memᴰ z (x ∷ xs) → z + m ≤ n) → Ended x e k l s → Ready (k + 1) xs s
  next_ready x k xs l e s g f r =
      record {
        reach = let a : s.reach ≤ x + m = r.to in let b : x + m ≤ n = f x (Memᴰ.head refl) in omega arith;
        known = λ z h.
            let a : s.reach ≤ x + m = r.to in
            let b : x < z = (g.0 z h).0 in
            let same : s.reach - x - (z - x) ≡ s.reach - z = omega arith in (
              (omega arith),
              subst (Known test z) same
                  (C.over x z (s.reach - x) b (f x (Memᴰ.head refl)) (f z (Memᴰ.tail h)) (g.0 z h).1 (omega arith) r.known),
            );
        tally = r.tally;
      }

  joined : (x k : ℕ) (xs l : List ℕ) (e : ℕ) (s t : Swept) → Ended x e k l s → Done (k + 1) xs s.listed t → Done k (x ∷ xs) l t
  unfolding passing
  joined x k xs l e s t r d =
      record {
        reach = d.reach;
        listing =
            d.listing ∙ ap (λ l. l ++ passing q xs) (r.listing ∙ ap (λ c. l ++ c) (passing_one q x)) ∙
            append_assoc l (cond (q x) (x ∷ []) []) (passing q xs);
        tally = let same : k + 1 + length xs ≡ k + length (x ∷ xs) = omega arith in rw same at d.tally;
      }

  pub sweeps : (xs : List ℕ) (k : ℕ) (s : Swept) → Agreeing A xs → ((z : ℕ) → Memᴰ z xs → z + m ≤ n) → Ready k xs s → Done k xs s.listed (sweep_all_lem weigh test m xs s)
  unfolding sweep_all_lem passing
  sweeps [] k s g f d =
      let same : k ≡ k + 0 = omega arith in
      record { reach = d.reach; listing = sym (append-nil s.listed); tally = rw (← same) d.tally }
  sweeps (x ∷ xs) k s g f d =
      let r = one_survivor x k xs s (f x (Memᴰ.head refl)) d in
      joined x k xs s.listed (max s.reach x) (sweep_one_lem weigh test m x s) (sweep_all_lem weigh test m xs (sweep_one_lem weigh test m x s)) r
      (sweeps xs (k + 1) (sweep_one_lem weigh test m x s) g.1 (λ z h. f z (Memᴰ.tail h))
      (next_ready x k xs s.listed (max s.reach x) (sweep_one_lem weigh test m x s) g f r))

-- ---- the rules' own sweep

-- the tests of a window are its isomorphism, as far as they go
known_iso : (P T : List ℤ) (x k : ℕ) → k ≤ length P → x + length P ≤ length T → Known (tests_of P T) x k → Iso (take k P) (take k (drop x T))
unfolding tests_of
known_iso P T x k h xm f = tests_iso P (drop x T) k h (rw length-drop (omega arith)) f

iso_known : (P T : List ℤ) (x k : ℕ) → k ≤ length P → Iso (take k P) (take k (drop x T)) → Known (tests_of P T) x k
unfolding tests_of
iso_known P T x k h e = iso_tests P (drop x T) k h e

whole : (P : List ℤ) → take (length P) P ≡ P
whole P = take_all (length P) P (omega arith)

pub rules_carry : (P T : List ℤ) → Carries (tests_of P T) (length P) (occurs P T) (Agrees P) (length T)
rules_carry P T =
    record {
      over = λ x y k h xm ym a km f.
          let same : x + (y - x) ≡ y = omega arith in
          iso_known P T y (k - (y - x)) (omega arith)
          (subst (λ (z : ℕ). Iso (take (k - (y - x)) P) (take (k - (y - x)) (drop z T))) same
          (carry_over iso_inherits P T x (y - x) k km (known_iso P T x k km xm f) a));
      yes = λ x xm f.
          iso_computed P (window T x (length P)) (subst (λ (u : List ℤ). Iso u (window T x (length P))) (whole P) (known_iso P T x (length P) (omega arith) xm f));
      nay = λ x j h f.
          must_fail (occurs P T x) λ t.
          clash
          (iso_known P T x (length P) (omega arith) (subst (λ (u : List ℤ). Iso u (window T x (length P))) (sym (whole P)) (computed_iso P (window T x (length P)) t)) j h)
          f;
    }

-- the sweep of a search, with any tally
pub rules-swept : (P T : List ℤ) {weigh : Weight} {K : ℕ → ℕ → ℕ → ℕ → Type 0} (Y : Tallies (tests_of P T) weigh K) → K 0 0 0 0
    → Done (rules_carry P T) Y 0 (survivors P T) [] (swept_by weigh P T)
unfolding swept_by
rules-swept P T Y z =
    sweeps (rules_carry P T) Y (survivors P T) 0 (swept 0 0 []) (survivors-agreeing P T) inside
    (record { reach = omega arith; known = λ x h. (omega arith, λ j k. absurd (omega arith)); tally = z })
  where
    inside : (z : ℕ) → Memᴰ z (survivors P T) → z + length P ≤ length T
    inside x h = let b : x < length T + 1 - length P = rw windows_of_as at (survivors-below P T x h) in omega arith

-- ---- the tallies

module _ (P T : List ℤ) where
  -- comparisons: two for each sample passed and for each survivor
  costs : Tallies (tests_of P T) cost (λ e w r k. w ≤ 2 * (e + k))
  unfolding tests_of
  costs =
      record {
        pass = λ x j e w r k p h. let c = test_cost P (drop x T) j in omega arith;
        fail = λ x j e w r k p h. let c = test_cost P (drop x T) j in omega arith;
        list = λ e w r k h. omega arith;
        raise = λ e f w r k h g. omega arith;
      }

  on_pass_lem : (t : Tested) → passes t ≡ true → on_pass t ≡ 1
  unfolding passes on_pass
  on_pass_lem (Passed c) e = refl
  on_pass_lem (Failed c i) e = clash e refl

  off_pass : (t : Tested) → passes t ≡ false → on_pass t ≡ 0
  unfolding passes on_pass
  off_pass (Passed c) e = clash refl e
  off_pass (Failed c i) e = refl

  off_fail : (t : Tested) → passes t ≡ true → on_fail t ≡ 0
  unfolding passes on_fail
  off_fail (Passed c) e = refl
  off_fail (Failed c i) e = clash e refl

  on_fail_lem : (t : Tested) → passes t ≡ false → on_fail t ≡ 1
  unfolding passes on_fail
  on_fail_lem (Passed c) e = clash refl e
  on_fail_lem (Failed c i) e = refl

  -- passes: one for each sample
  passings : Tallies (tests_of P T) on_pass (λ e w r k. w ≤ e)
  passings =
      record {
        pass = λ x j e w r k p h. let c = on_pass_lem (tests_of P T x j) p in omega arith;
        fail = λ x j e w r k p h. let c = off_pass (tests_of P T x j) p in omega arith;
        list = λ e w r k h. h;
        raise = λ e f w r k h g. omega arith;
      }

  -- failures and windows listed: one of them for each survivor
  failings : Tallies (tests_of P T) on_fail (λ e w r k. w + r ≡ k)
  failings =
      record {
        pass = λ x j e w r k p h. let c = off_fail (tests_of P T x j) p in omega arith;
        fail = λ x j e w r k p h. let c = on_fail_lem (tests_of P T x j) p in omega arith;
        list = λ e w r k h. omega arith;
        raise = λ e f w r k h g. g;
      }

  -- W ≤ 2(n + S)
  pub sweep_cost_lem : sweep_cost P T ≤ 2 * (length T + length (survivors P T))
  unfolding sweep_cost
  sweep_cost_lem = let d = rules-swept P T costs (omega arith) in let r = d.reach in let t = d.tally in omega arith

  -- the passes are at most n, and E never passes it
  pub sweep_passes : (swept_by on_pass P T).total ≤ length T
  sweep_passes = let d = rules-swept P T passings (omega arith) in let r = d.reach in let t = d.tally in omega arith

  pub sweep_reach : (swept_by cost P T).reach ≤ length T
  sweep_reach = (rules-swept P T costs (omega arith)).reach

  -- failed plus listed is S
  pub sweep_fails : (swept_by on_fail P T).total + length (swept_by on_fail P T).listed ≡ length (survivors P T)
  sweep_fails = let t = (rules-swept P T failings refl).tally in omega arith

  -- whatever is counted, the list is the survivors that occur
  pub sweep_lists : positions P T ≡ passing (occurs P T) (survivors P T)
  unfolding positions
  sweep_lists = (rules-swept P T costs (omega arith)).listing

  pub sweep_lists_same : (swept_by on_fail P T).listed ≡ positions P T
  sweep_lists_same = (rules-swept P T failings refl).listing ∙ sym sweep_lists
