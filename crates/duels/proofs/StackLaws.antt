-- Shows: the survivors buffer is the rules' stack at every step of the duels, over any outcome of meetings and any choice of the windows
-- that arrive: what a look at its top leaves, what an arrival leaves, a window that does not arrive, and a run of windows that all agree.
-- Assumes nothing.
use Prim.Native.Nat.{ℕ, zero, suc, ◌+◌, ◌-◌, ◌≤◌, ◌<◌}
use mathlib.Core.Path.{◌≡◌, refl, sym, ◌∙◌, ap, ap₂, subst}
use mathlib.Core.Logic.{⊎_elim}
use mathlib.Core.List.{List, [], ◌∷◌, ◌++◌, reverse, append-nil, Memᴰ}
use mathlib.Core.Bool.{Bool, true, false, cond}
use native.Mathlib.Omega.{arith}
use native.Mathlib.Numerals.{add-one}
use native.Mathlib.Nat.{eq-or-lt_of_le, le_of_suc-le-suc}
use lib.ListN.{length, get_or, take, drop, set, length-set, length-append, length-drop}
use lib.Seq.{get_or-set_same, get_or-set_other, drop-set-lt, take-suc, length-take-le}
use borrow.Rule.Slice.PartMut.{mid_of, post_of, put_mid, put_same, mid_len}
use Rattle.std.proofs.lemmas.List.{set-append_left, set-append_right}
use Rattle.order.specs.declared.steps.Meeting.{Meeting}
use Rattle.order.specs.declared.steps.Meeting.TheVariants.{Agree, OlderFalls, NewerFalls, BothFall}
use Rattle.order.specs.Sizes.{those}
use Rattle.order.specs.Duels.{Stack, stacked, after, arrive, arrive_all_lem}
use Rattle.order.proofs.Lists.{reverse_cons, those-suc, length-those}
use Rattle.order.proofs.Dueling.{any_fair, ended, arrive_append}
use Rattle.duels.specs.declared.arrivals.Arrival.{Arrival}
use Rattle.duels.specs.declared.arrivals.Arrival.TheVariants.{Pushed, Dropped}
use Rattle.duels.specs.Inside.Stacks.{top, pushed_run, Standing, SameBehind, AllAgree}

-- ---- a buffer as a stack

pub top-zero : (l : List ℕ) → top l 0 ≡ []
unfolding top
top-zero l = refl

pub top_more : (l : List ℕ) (k : ℕ) → top l (k + 1) ≡ get_or l k 0 ∷ top l k
unfolding top
top_more l k = rw add-one refl

-- a store above leaves the stack
top_above : (l : List ℕ) (k i v : ℕ) → k ≤ i → top (set l i v) k ≡ top l k
unfolding top
top_above l zero i v h = refl
top_above l (suc k) i v h = ap₂ ◌∷◌ (get_or-set_other l i k v 0 (omega arith)) (top_above l k i v (omega arith))

pub top_push : (l : List ℕ) (k v : ℕ) → k < length l → top (set l k v) (k + 1) ≡ v ∷ top l k
top_push l k v h = top_more (set l k v) k ∙ ap₂ ◌∷◌ (get_or-set_same l k v 0 h) (top_above l k k v (omega arith))

pub mem_top : (l : List ℕ) (k i : ℕ) → i < k → Memᴰ (get_or l i 0) (top l k)
unfolding top
mem_top l zero i h = absurd (omega arith)
mem_top l (suc k) i h =
    ⊎_elim
    (λ (e : i ≡ k). Memᴰ.head (ap (λ n. get_or l n 0) e))
    (λ (e : i < k). Memᴰ.tail (mem_top l k i e))
    (eq-or-lt_of_le (le_of_suc-le-suc h))

pub length-top : (l : List ℕ) (k : ℕ) → length (top l k) ≡ k
unfolding top
length-top l zero = refl
length-top l (suc k) = ap suc (length-top l k)

-- turned round, it is the buffer's first entries
pub reverse-top : (l : List ℕ) (k : ℕ) → k ≤ length l → reverse (top l k) ≡ take k l
unfolding top
reverse-top l zero h = refl
reverse-top l (suc k) h =
    reverse_cons (get_or l k 0) (top l k) ∙ ap (λ xs. xs ++ (get_or l k 0 ∷ [])) (reverse-top l k (omega arith)) ∙ sym (take-suc l k 0 h)

-- ---- one look at the top

module _ (meet : ℕ → ℕ → Meeting) (l : List ℕ) (y k d : ℕ) where
  look : (m : Meeting) → meet (get_or l k 0) y ≡ m → arrive meet y (top l (k + 1)) d ≡ after m y (get_or l k 0) (top l k) d (arrive meet y (top l k) (d + 1))
  unfolding arrive
  look m e = rw (top_more l k, e) refl

  pub look-agree : meet (get_or l k 0) y ≡ Agree → arrive meet y (top l (k + 1)) d ≡ stacked (y ∷ top l (k + 1)) d
  unfolding after
  look-agree e = look Agree e ∙ ap (λ xs. stacked (y ∷ xs) d) (sym (top_more l k))

  pub look_older : meet (get_or l k 0) y ≡ OlderFalls → arrive meet y (top l (k + 1)) d ≡ arrive meet y (top l k) (d + 1)
  unfolding after
  look_older e = look OlderFalls e

  pub look_newer : meet (get_or l k 0) y ≡ NewerFalls → arrive meet y (top l (k + 1)) d ≡ stacked (top l (k + 1)) (d + 1)
  unfolding after
  look_newer e = look NewerFalls e ∙ ap (λ xs. stacked xs (d + 1)) (sym (top_more l k))

  pub look_both : meet (get_or l k 0) y ≡ BothFall → arrive meet y (top l (k + 1)) d ≡ stacked (top l k) (d + 1)
  unfolding after
  look_both e = look BothFall e

-- ---- one arrival

-- of the a windows that arrived before it k₀ are kept and b₀ fell together with another, so a - k₀ - b₀ duels were fought. Window y has
-- looked at the entries from k to k₀, and struck each
pub record Looking (meet : ℕ → ℕ → Meeting) (l : List ℕ) (y a k₀ b₀ k : ℕ) : Type 0 where
  pub fewer : k ≤ k₀
  pub count : k₀ + b₀ ≤ a
  pub same : arrive meet y (top l k₀) (a - k₀ - b₀) ≡ arrive meet y (top l k) (a - k - b₀)

-- the stack with the window, or without it
abbrev onto : Arrival → ℕ → List ℕ → List ℕ
onto Pushed y xs = y ∷ xs
onto Dropped y xs = xs

abbrev pushes : Arrival → ℕ
pushes Pushed = 1
pushes Dropped = 0

-- it has settled
pub record Settled (meet : ℕ → ℕ → Meeting) (l : List ℕ) (y a k₀ b₀ k b : ℕ) (end : Arrival) : Type 0 where
  pub fewer : k ≤ k₀
  pub count : k + pushes end + b ≤ a + 1
  pub same : arrive meet y (top l k₀) (a - k₀ - b₀) ≡ stacked (onto end y (top l k)) (a + 1 - (k + pushes end) - b)

module _ {meet : ℕ → ℕ → Meeting} {l : List ℕ} {y a k₀ b₀ k : ℕ} where
  -- an empty stack
  pub settle_empty : Looking meet l y a k₀ b₀ k → k ≡ 0 → Settled meet l y a k₀ b₀ k b₀ Pushed
  unfolding arrive
  settle_empty i e =
      let c = i.count in
      let f = i.fewer in
      let fought : a - k - b₀ ≡ a + 1 - (k + 1) - b₀ = omega arith in
      record {
        fewer = f;
        count = omega arith;
        same = i.same ∙ ap (arrive meet y (top l k)) fought ∙ rw (e, top-zero l) refl;
      }

module _ {meet : ℕ → ℕ → Meeting} {l : List ℕ} {y a k₀ b₀ k x : ℕ} (i : Looking meet l y a k₀ b₀ k) (some : k ≡ 0 → ⊥) (ex : x ≡ get_or l (k - 1) 0) where
  more : k ≡ k - 1 + 1
  more = omega arith

  -- as it looks at the top
  at_top : arrive meet y (top l k₀) (a - k₀ - b₀) ≡ arrive meet y (top l (k - 1 + 1)) (a - k - b₀)
  at_top = i.same ∙ ap (λ n. arrive meet y (top l n) (a - k - b₀)) more

  pub look_again : meet x y ≡ OlderFalls → Looking meet l y a k₀ b₀ (k - 1)
  look_again e =
      let c = i.count in
      let f = i.fewer in
      let fought : a - k - b₀ + 1 ≡ a - (k - 1) - b₀ = omega arith in
      record {
        fewer = omega arith;
        count = c;
        same = at_top ∙ look_older meet l y (k - 1) (a - k - b₀) (rw ex at e) ∙ ap (arrive meet y (top l (k - 1))) fought;
      }

  pub settle_agree : meet x y ≡ Agree → Settled meet l y a k₀ b₀ k b₀ Pushed
  settle_agree e =
      let c = i.count in
      let f = i.fewer in
      let fought : a - k - b₀ ≡ a + 1 - (k + 1) - b₀ = omega arith in
      record {
        fewer = f;
        count = omega arith;
        same = at_top ∙ look-agree meet l y (k - 1) (a - k - b₀) (rw ex at e) ∙ ap₂ (λ n d. stacked (y ∷ top l n) d) (sym more) fought;
      }

  pub settle_newer : meet x y ≡ NewerFalls → Settled meet l y a k₀ b₀ k b₀ Dropped
  settle_newer e =
      let c = i.count in
      let f = i.fewer in
      let fought : a - k - b₀ + 1 ≡ a + 1 - (k + 0) - b₀ = omega arith in
      record {
        fewer = f;
        count = omega arith;
        same = at_top ∙ look_newer meet l y (k - 1) (a - k - b₀) (rw ex at e) ∙ ap₂ (λ n d. stacked (top l n) d) (sym more) fought;
      }

  pub settle_both : meet x y ≡ BothFall → Settled meet l y a k₀ b₀ (k - 1) (b₀ + 1) Dropped
  settle_both e =
      let c = i.count in
      let f = i.fewer in
      let fought : a - k - b₀ + 1 ≡ a + 1 - (k - 1 + 0) - (b₀ + 1) = omega arith in
      record {
        fewer = omega arith;
        count = omega arith;
        same = at_top ∙ look_both meet l y (k - 1) (a - k - b₀) (rw ex at e) ∙ ap (stacked (top l (k - 1))) fought;
      }

-- the same under other names of its numbers
pub settled_as : {meet : ℕ → ℕ → Meeting} {l : List ℕ} {y a k₀ b₀ k b k' b' : ℕ} {end end' : Arrival} → k ≡ k' → b ≡ b' → end ≡ end' → Settled meet l y a k₀ b₀ k' b' end' → Settled meet l y a k₀ b₀ k b end
settled_as e f g s = rw (e, f, g) s

-- ---- all arrivals

those_next : (q : ℕ → Bool) (y : ℕ) {t : Bool} → q y ≡ t → those q (y + 1) ≡ those q y ++ cond t (y ∷ []) []
those_next q y e = ap (those q) (add-one y) ∙ those-suc q y ∙ ap (λ t. those q y ++ cond t (y ∷ []) []) e

pub at_first : (meet : ℕ → ℕ → Meeting) (q : ℕ → Bool) (l : List ℕ) → Standing meet q l 0 0 0 0
unfolding those arrive_all_lem
at_first meet q l = record { number = refl; count = omega arith; stack = ap (λ xs. stacked xs 0) (sym (top-zero l)) }

module _ {meet : ℕ → ℕ → Meeting} {q : ℕ → Bool} {l : List ℕ} {y a k₀ b₀ : ℕ} (s : Standing meet q l y a k₀ b₀) where
  -- no more have arrived than start before y
  pub few_arrived : a ≤ y
  few_arrived = let n = length-those q y in let e = s.number in omega arith

  -- the windows kept start before y
  pub kept-below : (i : ℕ) → i < k₀ → get_or l i 0 < y
  kept-below i h =
      (ended (any_fair meet) q y).below (get_or l i 0)
      (subst (λ (t : Stack). Memᴰ (get_or l i 0) t.kept) (sym s.stack) (mem_top l k₀ i h))

  pub looking : Looking meet l y a k₀ b₀ k₀
  looking = record { fewer = omega arith; count = s.count; same = refl }

  -- the same under other names of its numbers
  pub standing_as : {y' a' k' b' : ℕ} → y ≡ y' → a ≡ a' → k₀ ≡ k' → b₀ ≡ b' → Standing meet q l y' a' k' b'
  standing_as e f g h = rw (← e, ← f, ← g, ← h) s

  -- a window that does not arrive
  pub skipped : q y ≡ false → Standing meet q l (y + 1) a k₀ b₀
  skipped e =
      let same : those q (y + 1) ≡ those q y = those_next q y e ∙ append-nil (those q y) in
      record { number = s.number ∙ ap length (sym same); count = s.count; stack = ap (λ xs. arrive_all_lem meet xs (stacked [] 0)) same ∙ s.stack }

  module _ (e : q y ≡ true) where
    one_more : a + 1 ≡ length (those q (y + 1))
    one_more =
        let n = s.number in
        let m = length-append (those q y) (y ∷ []) in
        rw (those_next q y e) (omega arith)

    arrives : {end : Arrival} {k b : ℕ} → Settled meet l y a k₀ b₀ k b end → arrive_all_lem meet (those q (y + 1)) (stacked [] 0) ≡ stacked (onto end y (top l k)) (a + 1 - (k + pushes end) - b)
    unfolding arrive_all_lem
    arrives t =
        ap (λ xs. arrive_all_lem meet xs (stacked [] 0)) (those_next q y e) ∙ arrive_append (any_fair meet) (those q y) (y ∷ []) (stacked [] 0) ∙ ap (λ (u : Stack). arrive meet y u.kept u.fought) s.stack ∙ t.same

    pub dropped_next : {k b : ℕ} → Settled meet l y a k₀ b₀ k b Dropped → Standing meet q l (y + 1) (a + 1) k b
    dropped_next {k} {b} t =
        let c = t.count in
        let none : k + 0 ≡ k = omega arith in
        record { number = one_more; count = omega arith; stack = arrives t ∙ ap (λ n. stacked (top l k) (a + 1 - n - b)) none }

    pub pushed_next : {k b : ℕ} → k < length l → Settled meet l y a k₀ b₀ k b Pushed → Standing meet q (set l k y) (y + 1) (a + 1) (k + 1) b
    pushed_next {k} {b} h t =
        let c = t.count in
        record { number = one_more; count = omega arith; stack = arrives t ∙ ap (λ xs. stacked xs (a + 1 - (k + 1) - b)) (sym (top_push l k y h)) }

-- some windows that do not arrive
skipped_some : {meet : ℕ → ℕ → Meeting} {q : ℕ → Bool} {l : List ℕ} {y a k b : ℕ} → Standing meet q l y a k b → (n : ℕ) → ((x : ℕ) → y ≤ x → x < y + n → q x ≡ false) → Standing meet q l (y + n) a k b
skipped_some {y = y} s zero f = standing_as s (omega arith) refl refl refl
skipped_some {y = y} s (suc n) f =
    standing_as (skipped (skipped_some s n (λ x h g. f x h (omega arith))) (f (y + n) (omega arith) (omega arith))) (omega arith) refl refl refl

pub skipped_to : {meet : ℕ → ℕ → Meeting} {q : ℕ → Bool} {l : List ℕ} {y a k b : ℕ} → Standing meet q l y a k b → (z : ℕ) → y ≤ z → ((x : ℕ) → y ≤ x → x < z → q x ≡ false) → Standing meet q l z a k b
skipped_to {y = y} s z h f = standing_as (skipped_some s (z - y) (λ x g i. f x g (omega arith))) (omega arith) refl refl refl

-- ---- a run of windows that all agree

module _ {meet : ℕ → ℕ → Meeting} (all : AllAgree meet) where
  settle_pushed : {q : ℕ → Bool} {l : List ℕ} {y a b : ℕ} (k : ℕ) → Standing meet q l y a k b → Settled meet l y a k b k b Pushed
  settle_pushed zero s = settle_empty (looking s) refl
  settle_pushed {l = l} {y} (suc k) s = settle_agree (looking s) (λ e. omega arith) refl (all.agreeing (get_or l (suc k - 1) 0) y)

pub run_none : (l : List ℕ) (k x : ℕ) → pushed_run l k x 0 ≡ l
unfolding pushed_run
run_none l k x = refl

pub run_more : (l : List ℕ) (k x n : ℕ) → pushed_run l k x (n + 1) ≡ set (pushed_run l k x n) (k + n) (x + n)
unfolding pushed_run
run_more l k x n = rw add-one refl

-- from the first entry and the first window on
pub all_more : (l : List ℕ) (n : ℕ) → pushed_run l 0 0 (n + 1) ≡ set (pushed_run l 0 0 n) n n
all_more l n = let same : 0 + n ≡ n = omega arith in run_more l 0 0 n ∙ ap (λ k. set (pushed_run l 0 0 n) k k) same

-- and from the first entry on, whatever the window
pub part_more : (l : List ℕ) (x n : ℕ) → pushed_run l 0 x (n + 1) ≡ set (pushed_run l 0 x n) n (x + n)
part_more l x n = let same : 0 + n ≡ n = omega arith in run_more l 0 x n ∙ ap (λ k. set (pushed_run l 0 x n) k (x + n)) same

pub length_run : (l : List ℕ) (k x n : ℕ) → length (pushed_run l k x n) ≡ length l
unfolding pushed_run
length_run l k x zero = refl
length_run l k x (suc n) = length-set (pushed_run l k x n) (k + n) (x + n) ∙ length_run l k x n

-- a store into a part of a list is one as far on in the whole
put_set : (a n j : ℕ) (xs ys : List ℕ) (v : ℕ) → a ≤ length xs → j < length ys → put_mid a n xs (set ys j v) ≡ set (put_mid a n xs ys) (a + j) v
put_set a n j xs ys v h g =
    let here : a + j - a ≡ j = omega arith in
    sym
    (set-append_right (take a xs) (ys ++ post_of a n xs) a (a + j) v (length-take-le a xs h) (omega arith) ∙
    ap (λ zs. take a xs ++ zs) (ap (λ i. set (ys ++ post_of a n xs) i v) here ∙ set-append_left ys (post_of a n xs) j v g))

-- a run written into the part of a list from entry k on is written into the list
pub run_part : (l : List ℕ) (k x n j : ℕ) → k + n ≤ length l → j ≤ n → put_mid k n l (pushed_run (mid_of k n l) 0 x j) ≡ pushed_run l k x j
unfolding pushed_run
run_part l k x n zero h g = put_same k n l
run_part l k x n (suc j) h g =
    let first : 0 + j ≡ j = omega arith in
    let rest = length-drop k l in
    let long = length_run (mid_of k n l) 0 x j ∙ length-take-le n (drop k l) (omega arith) in
    ap (λ i. put_mid k n l (set (pushed_run (mid_of k n l) 0 x j) i (x + j))) first ∙
    put_set k n j l (pushed_run (mid_of k n l) 0 x j) (x + j) (omega arith) (omega arith) ∙
    ap (λ t. set t (k + j) (x + j)) (run_part l k x n j h (omega arith))

-- and one that fills the part
pub run_put : (l : List ℕ) (k x n : ℕ) {part : List ℕ} → k + n ≤ length l → part ≡ pushed_run (mid_of k (k + n - k) l) 0 x (length (mid_of k (k + n - k) l)) → put_mid k (k + n - k) l part ≡ pushed_run l k x n
run_put l k x n h e =
    let same : k + n - k ≡ n = omega arith in
    ap (put_mid k (k + n - k) l) (e ∙ ap (pushed_run _ 0 x) (mid_len k (k + n) l h ∙ same)) ∙ run_part l k x (k + n - k) n (omega arith) (omega arith)

pub run_kept : {meet : ℕ → ℕ → Meeting} → AllAgree meet → {q : ℕ → Bool} {l : List ℕ} {y a k b : ℕ} → Standing meet q l y a k b → (n : ℕ) → ((x : ℕ) → y ≤ x → x < y + n → q x ≡ true)
    → k + n ≤ length l → Standing meet q (pushed_run l k y n) (y + n) (a + n) (k + n) b
unfolding pushed_run
run_kept all s zero f h = standing_as s (omega arith) (omega arith) (omega arith) refl
run_kept all {l = l} {y} {a} {k} s (suc n) f h =
    let t = run_kept all s n (λ x g i. f x g (omega arith)) (omega arith) in
    let long = length_run l k y n in
    standing_as (pushed_next t (f (y + n) (omega arith) (omega arith)) (omega arith) (settle_pushed all (k + n) t)) (omega arith) (omega arith) (omega arith) refl

pub run_written : {meet : ℕ → ℕ → Meeting} → AllAgree meet → {q : ℕ → Bool} {l l' : List ℕ} {from past a k b : ℕ} → Standing meet q l from a k b → from ≤ past → ((x : ℕ) → from ≤ x → x < past → q x ≡ true)
    → k + (past - from) ≤ length l → l' ≡ pushed_run l k from (past - from) → Standing meet q l' past (a + (past - from)) (k + (past - from)) b
run_written all {from = from} {past} s h f room e =
    rw e (standing_as (run_kept all s (past - from) (λ x g i. f x g (omega arith)) room) (omega arith) refl refl refl)

-- ---- the entries behind all windows

pub same_first : (n : ℕ) (l : List ℕ) → SameBehind n l l
same_first n l = record { beyond = refl; same_length = refl }

pub same_then : {n : ℕ} {l l' l'' : List ℕ} → SameBehind n l l' → SameBehind n l' l'' → SameBehind n l l''
same_then s t = record { beyond = t.beyond ∙ s.beyond; same_length = t.same_length ∙ s.same_length }

pub same_set : {n : ℕ} {l l' : List ℕ} (k v : ℕ) → k < n → SameBehind n l l' → SameBehind n l (set l' k v)
same_set {n} {l' = l'} k v h s = record { beyond = drop-set-lt n l' k v h ∙ s.beyond; same_length = length-set l' k v ∙ s.same_length }

pub same_run : {n : ℕ} (l : List ℕ) (k x c : ℕ) → k + c ≤ n → SameBehind n l (pushed_run l k x c)
unfolding pushed_run
same_run {n} l k x zero h = same_first n l
same_run l k x (suc c) h = same_set (k + c) (x + c) (omega arith) (same_run l k x c (omega arith))

-- ---- one window after the other of a run

-- the windows from `from` up to y have arrived, on the stack that a₀ windows before them left; n is the number of all windows
pub record Running (meet : ℕ → ℕ → Meeting) (q : ℕ → Bool) (n from past : ℕ) (before l : List ℕ) (a₀ k b y : ℕ) : Type 0 where
  pub begun : from ≤ y
  pub within : y ≤ past
  pub standing : Standing meet q l y (a₀ + (y - from)) k b
  pub behind : SameBehind n before l

module _ {meet : ℕ → ℕ → Meeting} {q : ℕ → Bool} {n from past : ℕ} {before l : List ℕ} {a₀ k₀ b₀ y : ℕ} (r : Running meet q n from past before l a₀ k₀ b₀ y) (h : y < past) (e : q y ≡ true) where
  pub run_dropped : {k b : ℕ} → Settled meet l y (a₀ + (y - from)) k₀ b₀ k b Dropped → Running meet q n from past before l a₀ k b (y + 1)
  run_dropped t =
      let f = r.begun in
      record { begun = omega arith; within = omega arith; standing = standing_as (dropped_next r.standing e t) refl (omega arith) refl refl; behind = r.behind }

  pub run_pushed : {k b : ℕ} → past ≤ n → n ≤ length before → Settled meet l y (a₀ + (y - from)) k₀ b₀ k b Pushed → Running meet q n from past before (set l k y) a₀ (k + 1) b (y + 1)
  run_pushed {k} inside room t =
      let f = r.begun in
      let c = r.standing.count in
      let w = few_arrived r.standing in
      let fewer = t.fewer in
      let long = r.behind.same_length in
      record {
        begun = omega arith;
        within = omega arith;
        standing = standing_as (pushed_next r.standing e (omega arith) t) refl (omega arith) refl refl;
        behind = same_set k y (omega arith) r.behind;
      }
