-- Shows: of the duels, over any outcome of meetings that strikes no window of a set and keeps only windows that agree, where
-- agreement passes along a chain: no window of the set is struck; the survivors ascend, are entrants, and any two agree; the
-- duels and the survivors together are at most as many as the entrants. Then the same of the rules' own duels.
-- Assumes nothing beyond the record `Fair`.
use Prim.Native.Nat.{ℕ, zero, suc, ◌+◌, ◌≤◌, ◌<◌}
use mathlib.Core.Path.{◌≡◌, refl, sym, ◌∙◌, ap, ap₂, subst}
use mathlib.Core.Logic.{⊎_elim}
use mathlib.Core.List.Memᴰ
use mathlib.Core.List.{List, [], ◌∷◌, ◌++◌, reverse, append-nil, Memᴰ}
use mathlib.Core.Bool.{Bool, true, false, not, cond}
use native.Mathlib.Omega.{arith}
use lib.IntN.{ℤ}
use lib.ListN.{length, length-append, length-reverse}
use borrow.Author.Tests.{not-true}
use Rattle.order.specs.declared.steps.Meeting.{Meeting}
use Rattle.order.specs.declared.steps.Meeting.TheVariants.{Agree, OlderFalls, NewerFalls, BothFall}
use Rattle.order.specs.Sizes.{those, windows_of, passing}
use Rattle.order.specs.Duels.{meets, Stack, stacked, after, arrive, arrive_all_lem, is_struck, struck, entrants, duelled, duels, survivors}
use Rattle.order.proofs.Lists.{passing_append, passing_none, passing-top, passing_top_none, reverse_cons, mem_reverse, mem_those, length-those}
use Rattle.order.proofs.Equivalences.{chain_windows}
use Rattle.order.proofs.Isomorphisms.{iso_inherits}
use Rattle.order.proofs.Meetings.{occurs, Told, Agrees, meets_fate}

-- what is asked of the outcome of meetings
pub record Fair (meet : ℕ → ℕ → Meeting) (p : ℕ → Bool) (A : ℕ → ℕ → Type 0) : Type 0 where
  pub told : (x y : ℕ) → x < y → Told p A x y (meet x y)
  pub along : (x y z : ℕ) → x < y → y < z → A x y → A y z → A x z

-- any two of a stack, top first, descend and agree
abbrev Standing : (ℕ → ℕ → Type 0) → List ℕ → Type 0
Standing A [] = Unit {0}
Standing A (y ∷ xs) = ((z : ℕ) → Memᴰ z xs → (z < y) × A z y) × Standing A xs

-- the same of a list that ascends
abbrev pub Agreeing : (ℕ → ℕ → Type 0) → List ℕ → Type 0
Agreeing A [] = Unit {0}
Agreeing A (x ∷ xs) = ((z : ℕ) → Memᴰ z xs → (x < z) × A x z) × Agreeing A xs

agreeing_more : (A : ℕ → ℕ → Type 0) (xs : List ℕ) (y : ℕ) → Agreeing A xs → ((z : ℕ) → Memᴰ z xs → (z < y) × A z y) → Agreeing A (xs ++ (y ∷ []))
agreeing_more A [] y g f = ((λ z h. absurd (Memᴰ.not-nil h)), tt)
agreeing_more A (x ∷ xs) y g f = (
  (λ z h.
      ⊎_elim
      (λ (k : Memᴰ z xs). g.0 z k)
      (λ (k : Memᴰ z (y ∷ [])). subst (λ (v : ℕ). (x < v) × A x v) (sym (Memᴰ.eq_of_singleton k)) (f x (Memᴰ.head refl)))
      (Memᴰ.append_cases xs h)),
  agreeing_more A xs y g.1 (λ z h. f z (Memᴰ.tail h)),
)

standing-agreeing : (A : ℕ → ℕ → Type 0) (xs : List ℕ) → Standing A xs → Agreeing A (reverse xs)
standing-agreeing A [] g = tt
standing-agreeing A (y ∷ xs) g =
    subst (Agreeing A) (sym (reverse_cons y xs))
    (agreeing_more A (reverse xs) y (standing-agreeing A xs g.1) (λ z h. g.0 z (mem_reverse xs h)))

module _ {meet : ℕ → ℕ → Meeting} {p : ℕ → Bool} {A : ℕ → ℕ → Type 0} (F : Fair meet p A) where
  -- what one arrival leaves
  record Arrived (y : ℕ) (xs : List ℕ) (d : ℕ) (s : Stack) : Type 0 where
    pub within : (z : ℕ) → Memᴰ z s.kept → Memᴰ z (y ∷ xs)
    pub standing : Standing A s.kept
    pub count : s.fought + length s.kept ≤ d + length xs + 1
    pub unstruck : passing p (reverse s.kept) ≡ passing p (reverse xs) ++ passing p (y ∷ [])

  step : (y x : ℕ) (xs : List ℕ) (d : ℕ) (m : Meeting) (next : Stack) → x < y → Told p A x y m → Standing A (x ∷ xs) → Arrived y xs (d + 1) next → Arrived y (x ∷ xs) d (after m y x xs d next)
  unfolding after
  step y x xs d Agree next h t g n =
      record {
        within = λ z k. k;
        standing = (
          (λ z k.
              ⊎_elim
              (λ (e : z ≡ x). subst (λ (v : ℕ). (v < y) × A v y) (sym e) (h, t))
              (λ (e : Memᴰ z xs). let b = g.0 z e in let zx : z < x = b.0 in ((omega arith), F.along z x y zx h b.1 t))
              (Memᴰ.cases_cons k)),
          g,
        );
        count = omega arith;
        unstruck = passing-top p y (x ∷ xs);
      }
  step y x xs d OlderFalls next h t g n =
      record {
        within = λ z k.
            ⊎_elim
            (λ (e : z ≡ y). Memᴰ.head e)
            (λ (e : Memᴰ z xs). Memᴰ.tail (Memᴰ.tail e))
            (Memᴰ.cases_cons (n.within z k));
        standing = n.standing;
        count = let c = n.count in omega arith;
        unstruck = n.unstruck ∙ ap (λ l. l ++ passing p (y ∷ [])) (sym (passing_top_none p x xs t));
      }
  step y x xs d NewerFalls next h t g n =
      record {
        within = λ z k. Memᴰ.tail k;
        standing = g;
        count = omega arith;
        unstruck = sym (ap (λ l. passing p (reverse (x ∷ xs)) ++ l) (passing_none p y t) ∙ append-nil (passing p (reverse (x ∷ xs))));
      }
  step y x xs d BothFall next h t g n =
      record {
        within = λ z k. Memᴰ.tail (Memᴰ.tail k);
        standing = g.1;
        count = omega arith;
        unstruck = sym (ap₂ ◌++◌ (passing_top_none p x xs t.0) (passing_none p y t.1) ∙ append-nil (passing p (reverse xs)));
      }

  arrived : (y : ℕ) (xs : List ℕ) (d : ℕ) → Standing A xs → ((z : ℕ) → Memᴰ z xs → z < y) → Arrived y xs d (arrive meet y xs d)
  unfolding arrive
  arrived y [] d g f =
      record {
        within = λ z k. k;
        standing = ((λ z k. absurd (Memᴰ.not-nil k)), tt);
        count = omega arith;
        unstruck = passing-top p y [];
      }
  arrived y (x ∷ xs) d g f =
      let h : x < y = f x (Memᴰ.head refl) in
      step y x xs d (meet x y) (arrive meet y xs (d + 1)) h (F.told x y h) g
      (arrived y xs (d + 1) g.1 (λ z k. f z (Memᴰ.tail k)))

  -- what the arrivals of the entrants L, all below n, leave
  pub record After (L : List ℕ) (n : ℕ) (s : Stack) : Type 0 where
    pub below : (z : ℕ) → Memᴰ z s.kept → z < n
    pub entered : (z : ℕ) → Memᴰ z s.kept → Memᴰ z L
    pub standing : Standing A s.kept
    pub count : s.fought + length s.kept ≤ length L
    pub unstruck : passing p (reverse s.kept) ≡ passing p L

  after_more : (L : List ℕ) (n : ℕ) (s : Stack) (t : Bool) → After L n s → After (L ++ cond t (n ∷ []) []) (suc n) (arrive_all_lem meet (cond t (n ∷ []) []) s)
  unfolding arrive_all_lem
  after_more L n s true a =
      record {
        below = λ z k.
            ⊎_elim
            (λ (e : z ≡ n). omega arith)
            (λ (e : Memᴰ z s.kept). let b : z < n = a.below z e in omega arith)
            (Memᴰ.cases_cons (r.within z k));
        entered = λ z k.
            ⊎_elim
            (λ (e : z ≡ n). Memᴰ.append_right L (Memᴰ.head e))
            (λ (e : Memᴰ z s.kept). Memᴰ.append_left (n ∷ []) (a.entered z e))
            (Memᴰ.cases_cons (r.within z k));
        standing = r.standing;
        count = let c = r.count in let b = a.count in rw length-append (omega arith);
        unstruck = r.unstruck ∙ ap (λ l. l ++ passing p (n ∷ [])) a.unstruck ∙ sym (passing_append p L (n ∷ []));
      }
    where
      r : Arrived n s.kept s.fought (arrive meet n s.kept s.fought)
      r = arrived n s.kept s.fought a.standing a.below
  after_more L n s false a =
      rw append-nil
      (record { below = λ z k. let b : z < n = a.below z k in omega arith; entered = a.entered; standing = a.standing; count = a.count; unstruck = a.unstruck })

  pub arrive_append : (xs ys : List ℕ) (s : Stack) → arrive_all_lem meet (xs ++ ys) s ≡ arrive_all_lem meet ys (arrive_all_lem meet xs s)
  unfolding arrive_all_lem
  arrive_append [] ys s = refl
  arrive_append (x ∷ xs) ys s = arrive_append xs ys (arrive meet x s.kept s.fought)

  pub ended : (q : ℕ → Bool) (n : ℕ) → After (those q n) n (arrive_all_lem meet (those q n) (stacked [] 0))
  unfolding those arrive_all_lem
  ended q zero = record { below = λ z k. absurd (Memᴰ.not-nil k); entered = λ z k. k; standing = tt; count = omega arith; unstruck = refl }
  ended q (suc n) =
      rw arrive_append (after_more (those q n) n (arrive_all_lem meet (those q n) (stacked [] 0)) (q n) (ended q n))

-- meetings that come out alike leave the same stack
module _ (one other : ℕ → ℕ → Meeting) (same : (x y : ℕ) → one x y ≡ other x y) where
  one_alike : (y : ℕ) (xs : List ℕ) (d : ℕ) → arrive one y xs d ≡ arrive other y xs d
  unfolding arrive
  one_alike y [] d = refl
  one_alike y (x ∷ xs) d = ap₂ (λ m next. after m y x xs d next) (same x y) (one_alike y xs (d + 1))

  pub arrive-alike : (ys : List ℕ) (s : Stack) → arrive_all_lem one ys s ≡ arrive_all_lem other ys s
  unfolding arrive_all_lem
  arrive-alike [] s = refl
  arrive-alike (y ∷ ys) s = ap (arrive_all_lem one ys) (one_alike y s.kept s.fought) ∙ arrive-alike ys (arrive other y s.kept s.fought)

-- any outcome of meetings is fair to no window at all, and so has what is said of order and number
pub any_fair : (meet : ℕ → ℕ → Meeting) → Fair meet (λ x. false) (λ x y. Unit {0})
any_fair meet = record { told = λ x y h. go x y (meet x y); along = λ x y z h k a b. tt }
  where
    go : (x y : ℕ) (m : Meeting) → Told (λ x. false) (λ x y. Unit {0}) x y m
    go x y Agree = tt
    go x y OlderFalls = refl
    go x y NewerFalls = refl
    go x y BothFall = (refl, refl)

-- ---- the rules' own duels

-- the rules' meetings strike no window that occurs, and agreement passes along
pub rules_fair : (P T : List ℤ) → Fair (meets P T) (occurs P T) (Agrees P)
rules_fair P T =
    record {
      told = meets_fate P T;
      along = λ x y z h k a b. chain_windows iso_inherits P x y z (omega arith) (omega arith) a b;
    }

rules_ended : (P T : List ℤ) → After (rules_fair P T) (entrants P T) (windows_of (length P) (length T)) (duelled P T)
unfolding duelled entrants
rules_ended P T = ended (rules_fair P T) (λ x. not (is_struck P T x)) (windows_of (length P) (length T))

-- the survivors start below N
pub survivors-below : (P T : List ℤ) (x : ℕ) → Memᴰ x (survivors P T) → x < windows_of (length P) (length T)
unfolding survivors
survivors-below P T x h = (rules_ended P T).below x (mem_reverse (duelled P T).kept h)

-- none of them was struck before the duels
pub survivors-entered : (P T : List ℤ) (x : ℕ) → Memᴰ x (survivors P T) → is_struck P T x ≡ false
unfolding survivors entrants
survivors-entered P T x h =
    not-true (is_struck P T x) (mem_those (λ x. not (is_struck P T x)) (windows_of (length P) (length T)) ((rules_ended P T).entered x (mem_reverse (duelled P T).kept h))).1

-- they ascend, and any two agree
pub survivors-agreeing : (P T : List ℤ) → Agreeing (Agrees P) (survivors P T)
unfolding survivors
survivors-agreeing P T = standing-agreeing (Agrees P) (duelled P T).kept (rules_ended P T).standing

-- the windows that occur are among them: no true window is struck
pub survivors-unstruck : (P T : List ℤ) → passing (occurs P T) (survivors P T) ≡ passing (occurs P T) (entrants P T)
unfolding survivors
survivors-unstruck P T = (rules_ended P T).unstruck

-- D + S is at most N less the struck
pub duels-and-survivors : (P T : List ℤ) → duels P T + length (survivors P T) + struck P T ≤ windows_of (length P) (length T)
unfolding duels survivors entrants struck
duels-and-survivors P T =
    let n = length-those (is_struck P T) (windows_of (length P) (length T)) in
    let c = (rules_ended P T).count in
    rw length-reverse (omega arith)
