-- Shows: what the laws need of lists. A part of a part; the lists `each` and `those`; the numbers of a list that pass a test
-- (`passing`), in a list turned round too; and membership.
-- Assumes nothing.
use Prim.Native.Nat.{ℕ, zero, suc, ◌+◌, ◌-◌, ◌≤◌, ◌<◌}
use mathlib.Core.Path.{◌≡◌, refl, sym, ◌∙◌, ap, ap₂, subst}
use mathlib.Core.Logic.{⊎_elim}
use mathlib.Core.List.{List, [], ◌∷◌, ◌++◌, map, reverse, append_assoc, append-nil, reverse_aux-eq, Memᴰ}
use mathlib.Core.Bool.{Bool, true, false, not, cond, ◌&&◌}
use native.Mathlib.Omega.{arith}
use native.Mathlib.Numerals.{add-one}
use native.Mathlib.Nat.{eq-or-lt_of_le, le_of_suc-le-suc}
use lib.Dec.{leb}
use lib.ListN.{length, get_or, take, drop, length-append, get_or-append}
use lib.Seq.{take-take, get_or-append_seam}
use borrow.Author.Tests.{leb-true, leb-false}
use Rattle.order.specs.Sizes.{Spot, none, place, trace_limit, windows_of, each, those, passing, lowest, or_else}
use Rattle.order.proofs.Tests.{clash}

-- a part of a list's front is a part of the list, where the front reaches
pub take-drop-take : {A : Type 0} (n s k : ℕ) (l : List A) → n ≤ k - s → take n (drop s (take k l)) ≡ take n (drop s l)
take-drop-take n zero k l h = take-take n k l (omega arith)
take-drop-take zero (suc s) zero l h = refl
take-drop-take (suc n) (suc s) zero l h = absurd (omega arith)
take-drop-take n (suc s) (suc k) [] h = refl
take-drop-take n (suc s) (suc k) (x ∷ l) h = take-drop-take n s k l (omega arith)

-- what holds below n and at n holds below suc n
pub below_suc {ℓ} : (Q : ℕ → Type ℓ) (n : ℕ) → ((i : ℕ) → i < n → Q i) → Q n → (i : ℕ) → i < suc n → Q i
below_suc Q n f q i h =
    ⊎_elim (λ (k : i ≡ n). subst Q (sym k) q) (λ (k : i < n). f i k) (eq-or-lt_of_le (le_of_suc-le-suc h))

-- N is one more than what the trace has beyond a pattern's length, or 0
pub windows_of_as : (m n : ℕ) → windows_of m n ≡ n + 1 - m
unfolding windows_of
windows_of_as m n = go (leb m n) refl
  where
    go : (t : Bool) → leb m n ≡ t → cond t (n - m + 1) 0 ≡ n + 1 - m
    go true e = let h : m ≤ n = leb-true m n e in omega arith
    go false e = let h : n < m = leb-false m n e in omega arith

-- of a trace within its limit they are few
pub windows_few : (m n windows : ℕ) → windows ≡ windows_of m n → n ≤ trace_limit → windows ≤ trace_limit + 1
windows_few m n windows e h = let w = windows_of_as m n in omega arith

-- a window lies within the trace
pub window-inside : (m n windows y : ℕ) → windows ≡ windows_of m n → y < windows → y + m ≤ n
window-inside m n windows y e h = let w = windows_of_as m n in omega arith

-- the list of what f gives below n
pub each_more : {A : Type 0} (f : ℕ → A) (n : ℕ) → each f (n + 1) ≡ each f n ++ (f n ∷ [])
unfolding each
each_more f n = rw add-one refl

pub length-each : {A : Type 0} (f : ℕ → A) (n : ℕ) → length (each f n) ≡ n
unfolding each
length-each f zero = refl
length-each f (suc n) = length-append (each f n) (f n ∷ []) ∙ ap (λ k. k + 1) (length-each f n) ∙ add-one n

each_last : {A : Type 0} (f : ℕ → A) (n : ℕ) → each f (suc n) ≡ each f n ++ (f n ∷ [])
unfolding each
each_last f n = refl

pub get_or-each : {A : Type 0} (f : ℕ → A) (n i : ℕ) (d : A) → i < n → get_or (each f n) i d ≡ f i
get_or-each f zero i d h = absurd (omega arith)
get_or-each f (suc n) i d h = rw each_last (go (leb n i) refl (get_or-each f n i d))
  where
    go : (t : Bool) → leb n i ≡ t → (i < n → get_or (each f n) i d ≡ f i) → get_or (each f n ++ (f n ∷ [])) i d ≡ f i
    go true e earlier =
        let k : n ≤ i = leb-true n i e in
        let same : n ≡ i = omega arith in
        subst (λ (j : ℕ). get_or (each f n ++ (f n ∷ [])) j d ≡ f j) same
        (subst (λ (j : ℕ). get_or (each f n ++ (f n ∷ [])) j d ≡ f n) (length-each f n) (get_or-append_seam (each f n) (f n) [] d))
    go false e earlier =
        let k : i < n = leb-false n i e in
        get_or-append (each f n) (f n ∷ []) d i (rw length-each k) ∙ earlier k

pub each_same : {A : Type 0} (f g : ℕ → A) (n : ℕ) → ((k : ℕ) → k < n → f k ≡ g k) → each f n ≡ each g n
unfolding each
each_same f g zero h = refl
each_same f g (suc n) h = ap₂ (λ l x. l ++ (x ∷ [])) (each_same f g n (λ k l. h k (omega arith))) (h n (omega arith))

map_last : {A B : Type 0} (g : A → B) (l : List A) (x : A) → map g (l ++ (x ∷ [])) ≡ map g l ++ (g x ∷ [])
map_last g [] x = refl
map_last g (y ∷ l) x = ap (λ t. g y ∷ t) (map_last g l x)

pub map_each : {A B : Type 0} (g : A → B) (f : ℕ → A) (n : ℕ) → map g (each f n) ≡ each (λ k. g (f k)) n
unfolding each
map_each g f zero = refl
map_each g f (suc n) = map_last g (each f n) (f n) ∙ ap (λ l. l ++ (g (f n) ∷ [])) (map_each g f n)

-- what `lowest` finds, as a statement: none passes, or j does and none before it
pub record Lowest (p : ℕ → Bool) (n j : ℕ) : Type 0 where
  pub below : j < n
  pub here : p j ≡ true
  pub earlier : (i : ℕ) → i < j → p i ≡ false

abbrev pub Finds : (ℕ → Bool) → ℕ → Spot → Type 0
Finds p n none = (i : ℕ) → i < n → p i ≡ false
Finds p n (place j) = Lowest p n j

finds_more : (p : ℕ → Bool) (n : ℕ) (s : Spot) (t : Bool) → p n ≡ t → Finds p n s → Finds p (suc n) (or_else s (cond t (place n) none))
unfolding or_else
finds_more p n none true e f = record { below = omega arith; here = e; earlier = f }
finds_more p n none false e f = below_suc (λ i. p i ≡ false) n f e
finds_more p n (place j) t e f = record { below = let h : j < n = f.below in omega arith; here = f.here; earlier = f.earlier }

pub lowest_finds : (p : ℕ → Bool) (n : ℕ) → Finds p n (lowest p n)
unfolding lowest
lowest_finds p zero = λ i h. absurd (omega arith)
lowest_finds p (suc n) = finds_more p n (lowest p n) (p n) refl (lowest_finds p n)

-- and nothing else fits that statement
finds_one : (p : ℕ → Bool) (n : ℕ) (s t : Spot) → Finds p n s → Finds p n t → s ≡ t
finds_one p n none none f g = refl
finds_one p n none (place j) f g = clash g.here (f j g.below)
finds_one p n (place i) none f g = clash f.here (g i f.below)
finds_one p n (place i) (place j) f g = ap place (go (leb i j) (leb j i) refl refl)
  where
    go : (a b : Bool) → leb i j ≡ a → leb j i ≡ b → i ≡ j
    go true true x y = let h : i ≤ j = leb-true i j x in let k : j ≤ i = leb-true j i y in omega arith
    go true false x y = let k : i < j = leb-false j i y in clash f.here (g.earlier i k)
    go false b x y = let k : j < i = leb-false i j x in clash g.here (f.earlier j k)

pub finds_lowest : (p : ℕ → Bool) (n : ℕ) (s : Spot) → Finds p n s → lowest p n ≡ s
finds_lowest p n s f = finds_one p n (lowest p n) s (lowest_finds p n) f

-- ---- lists of windows

-- the numbers of a list that pass a test
pub passing_append : (p : ℕ → Bool) (xs ys : List ℕ) → passing p (xs ++ ys) ≡ passing p xs ++ passing p ys
unfolding passing
passing_append p [] ys = refl
passing_append p (x ∷ xs) ys =
    ap (λ l. cond (p x) (x ∷ []) [] ++ l) (passing_append p xs ys) ∙ sym (append_assoc (cond (p x) (x ∷ []) []) (passing p xs) (passing p ys))

pub passing_one : (p : ℕ → Bool) (x : ℕ) → passing p (x ∷ []) ≡ cond (p x) (x ∷ []) []
unfolding passing
passing_one p x = append-nil (cond (p x) (x ∷ []) [])

pub passing_none : (p : ℕ → Bool) (x : ℕ) → p x ≡ false → passing p (x ∷ []) ≡ []
passing_none p x e = passing_one p x ∙ ap (λ t. cond t (x ∷ []) []) e

pub reverse_cons : (x : ℕ) (xs : List ℕ) → reverse (x ∷ xs) ≡ reverse xs ++ (x ∷ [])
reverse_cons x xs = reverse_aux-eq xs (x ∷ [])

-- the top of a stack comes last
pub passing-top : (p : ℕ → Bool) (x : ℕ) (xs : List ℕ) → passing p (reverse (x ∷ xs)) ≡ passing p (reverse xs) ++ passing p (x ∷ [])
passing-top p x xs = ap (passing p) (reverse_cons x xs) ∙ passing_append p (reverse xs) (x ∷ [])

pub passing_top_none : (p : ℕ → Bool) (x : ℕ) (xs : List ℕ) → p x ≡ false → passing p (reverse (x ∷ xs)) ≡ passing p (reverse xs)
passing_top_none p x xs e = passing-top p x xs ∙ ap (λ l. passing p (reverse xs) ++ l) (passing_none p x e) ∙ append-nil (passing p (reverse xs))

-- membership in a list turned round
pub mem_reverse : {z : ℕ} (xs : List ℕ) → Memᴰ z (reverse xs) → Memᴰ z xs
mem_reverse [] h = h
mem_reverse {z} (x ∷ xs) h =
    ⊎_elim
    (λ (k : Memᴰ z (reverse xs)). mathlib.Core.List.Memᴰ.tail (mem_reverse xs k))
    (λ (k : Memᴰ z (x ∷ [])). mathlib.Core.List.Memᴰ.head (mathlib.Core.List.Memᴰ.eq_of_singleton k))
    (mathlib.Core.List.Memᴰ.append_cases (reverse xs) (subst (Memᴰ z) (reverse_cons x xs) h))

-- what passes is in the list
pub mem_passing : {z : ℕ} (p : ℕ → Bool) (xs : List ℕ) → Memᴰ z (passing p xs) → Memᴰ z xs
unfolding passing
mem_passing p [] h = h
mem_passing {z} p (x ∷ xs) h =
    ⊎_elim
    (λ (k : Memᴰ z (cond (p x) (x ∷ []) [])). go (p x) k)
    (λ (k : Memᴰ z (passing p xs)). mathlib.Core.List.Memᴰ.tail (mem_passing p xs k))
    (mathlib.Core.List.Memᴰ.append_cases (cond (p x) (x ∷ []) []) h)
  where
    go : (t : Bool) → Memᴰ z (cond t (x ∷ []) []) → Memᴰ z (x ∷ xs)
    go true k = mathlib.Core.List.Memᴰ.head (mathlib.Core.List.Memᴰ.eq_of_singleton k)
    go false k = absurd (mathlib.Core.List.Memᴰ.not-nil k)

-- ---- the numbers below n that pass a test

pub those-suc : (p : ℕ → Bool) (n : ℕ) → those p (suc n) ≡ those p n ++ cond (p n) (n ∷ []) []
unfolding those
those-suc p n = refl

-- they are exactly those numbers
pub mem_those : {z : ℕ} (p : ℕ → Bool) (n : ℕ) → Memᴰ z (those p n) → (z < n) × (p z ≡ true)
unfolding those
mem_those p zero h = absurd (mathlib.Core.List.Memᴰ.not-nil h)
mem_those {z} p (suc n) h =
    ⊎_elim
    (λ (k : Memᴰ z (those p n)). let e = mem_those p n k in let b : z < n = e.0 in ((omega arith), e.1))
    (λ (k : Memᴰ z (cond (p n) (n ∷ []) [])). go (p n) refl k)
    (mathlib.Core.List.Memᴰ.append_cases (those p n) h)
  where
    go : (t : Bool) → p n ≡ t → Memᴰ z (cond t (n ∷ []) []) → (z < suc n) × (p z ≡ true)
    go true e k = let same : z ≡ n = mathlib.Core.List.Memᴰ.eq_of_singleton k in ((omega arith), rw same e)
    go false e k = absurd (mathlib.Core.List.Memᴰ.not-nil k)

pub those_mem : (p : ℕ → Bool) (n z : ℕ) → z < n → p z ≡ true → Memᴰ z (those p n)
unfolding those
those_mem p zero z h e = absurd (omega arith)
those_mem p (suc n) z h e =
    ⊎_elim
    (λ (k : z ≡ n). mathlib.Core.List.Memᴰ.append_right (those p n) (rw (← k, e) (mathlib.Core.List.Memᴰ.head refl)))
    (λ (k : z < n). mathlib.Core.List.Memᴰ.append_left _ (those_mem p n z k e))
    (eq-or-lt_of_le (le_of_suc-le-suc h))

-- of those, the ones that pass a second test
pub passing-those : (q p : ℕ → Bool) (n : ℕ) → passing p (those q n) ≡ those (λ x. q x && p x) n
unfolding those passing
passing-those q p zero = refl
passing-those q p (suc n) =
    passing_append p (those q n) (cond (q n) (n ∷ []) []) ∙ ap₂ ◌++◌ (passing-those q p n) (go (q n))
  where
    go : (t : Bool) → passing p (cond t (n ∷ []) []) ≡ cond (t && p n) (n ∷ []) []
    go true = passing_one p n
    go false = refl

-- each number below n passes a test or fails it
length_one : (t : Bool) (n : ℕ) → length (cond t (n ∷ []) []) + length (cond (not t) (n ∷ []) []) ≡ 1
length_one true n = refl
length_one false n = refl

pub length-those : (q : ℕ → Bool) (n : ℕ) → length (those q n) + length (those (λ x. not (q x)) n) ≡ n
unfolding those
length-those q zero = refl
length-those q (suc n) =
    let a = length-append (those q n) (cond (q n) (n ∷ []) []) in
    let b = length-append (those (λ x. not (q x)) n) (cond (not (q n)) (n ∷ []) []) in
    let c = length_one (q n) n in
    let d = length-those q n in
    omega arith

-- ascending, once each
abbrev pub Ascending : List ℕ → Type 0
Ascending [] = Unit {0}
Ascending (x ∷ xs) = ((z : ℕ) → Memᴰ z xs → x < z) × Ascending xs

pub ascending_more : (xs : List ℕ) (y : ℕ) → Ascending xs → ((z : ℕ) → Memᴰ z xs → z < y) → Ascending (xs ++ (y ∷ []))
ascending_more [] y a f = ((λ z h. absurd (mathlib.Core.List.Memᴰ.not-nil h)), tt)
ascending_more (x ∷ xs) y a f = (
  (λ z h.
      ⊎_elim
      (λ (k : Memᴰ z xs). a.0 z k)
      (λ (k : Memᴰ z (y ∷ [])). rw (mathlib.Core.List.Memᴰ.eq_of_singleton k) (f x (mathlib.Core.List.Memᴰ.head refl)))
      (mathlib.Core.List.Memᴰ.append_cases xs h)),
  ascending_more xs y a.1 (λ z h. f z (mathlib.Core.List.Memᴰ.tail h)),
)

pub those_ascend : (p : ℕ → Bool) (n : ℕ) → Ascending (those p n)
unfolding those
those_ascend p zero = tt
those_ascend p (suc n) = go (p n) (those_ascend p n)
  where
    go : (t : Bool) → Ascending (those p n) → Ascending (those p n ++ cond t (n ∷ []) [])
    go true earlier = ascending_more (those p n) n earlier (λ z h. (mem_those p n h).0)
    go false earlier = rw append-nil earlier
