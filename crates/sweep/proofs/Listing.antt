-- Shows: what each turn of the sweep leaves, in its numbers and in the list, is what the rules' sweep leaves.
-- Assumes nothing.
use Prim.Native.Nat.{ℕ, ◌+◌, ◌≤◌, ◌<◌, max}
use mathlib.Core.Path.{◌≡◌, refl, sym, ◌∙◌, ap, subst}
use mathlib.Core.List.{List, [], ◌∷◌, ◌++◌, append-nil}
use mathlib.Core.Bool.{Bool, true, false, cond}
use native.Mathlib.Omega.{arith}
use native.Mathlib.Numerals.{add-one}
use lib.ListN.{length, take, drop, set, length-set}
use lib.Seq.{take-suc-set, drop-set-lt, drop-drop}
use Rattle.order.specs.declared.steps.Tested.{Tested}
use Rattle.order.specs.PlaceTest.{cost}
use Rattle.order.specs.Sweeping.{swept, sweep_one_lem, sweep_all_lem}
use Rattle.sweep.specs.Inside.{SweptOne, SweptTo}

pub none_swept : (test : ℕ → ℕ → Tested) (m n : ℕ) (all : List ℕ) (kept : ℕ) (before : List ℕ) → SweptTo test m n all all kept before before 0 0 0 0
none_swept test m n all kept before =
    record { within = omega arith; few = omega arith; reached = omega arith; bound = omega arith; long = refl; beyond = refl; state = refl }

-- seen from where it has come to, and from where it began
pub from_here : {test : ℕ → ℕ → Tested} {m n : ℕ} {all xs : List ℕ} {kept : ℕ} {before l : List ℕ} {k reach spent found : ℕ}
    → SweptTo test m n all xs kept before l k reach spent found → SweptTo test m n all xs kept l l k reach spent found
from_here s = record { within = s.within; few = s.few; reached = s.reached; bound = s.bound; long = refl; beyond = refl; state = s.state }

pub from_there : {test : ℕ → ℕ → Tested} {m n : ℕ} {all xs ys : List ℕ} {kept : ℕ} {before l l' : List ℕ} {k reach spent found k' reach' spent' found' : ℕ}
    → SweptTo test m n all xs kept before l k reach spent found → SweptTo test m n all ys kept l l' k' reach' spent' found'
    → SweptTo test m n all ys kept before l' k' reach' spent' found'
from_there s t =
    record { within = t.within; few = t.few; reached = t.reached; bound = t.bound; long = t.long ∙ s.long; beyond = t.beyond ∙ s.beyond; state = t.state }

-- with the rest told otherwise
pub rest_as : {test : ℕ → ℕ → Tested} {m n : ℕ} {all xs ys : List ℕ} {kept : ℕ} {before after : List ℕ} {k reach spent found : ℕ} → xs ≡ ys
    → SweptTo test m n all xs kept before after k reach spent found → SweptTo test m n all ys kept before after k reach spent found
rest_as {test} {m} {n} {all} {kept = kept} {before} {after} {k} {reach} {spent} {found} e s =
    subst (λ (zs : List ℕ). SweptTo test m n all zs kept before after k reach spent found) e s

-- a window that is passed over
pub passed_over : {test : ℕ → ℕ → Tested} {m n : ℕ} {all xs : List ℕ} {kept : ℕ} {before after : List ℕ} {k reach spent found : ℕ} → k < kept
    → SweptTo test m n all xs kept before after k reach spent found → SweptTo test m n all xs kept before after (k + 1) reach spent found
passed_over h s =
    record {
      within = omega arith;
      few = let f = s.few in omega arith;
      reached = s.reached;
      bound = let b = s.bound in omega arith;
      long = s.long;
      beyond = s.beyond;
      state = s.state;
    }

-- listing a window or not
listed : (l : List ℕ) (found x : ℕ) (whole : Bool) → found < length l
    → take (cond whole (found + 1) found) (cond whole (set l found x) l) ≡ take found l ++ cond whole (x ∷ []) []
listed l found x true h = ap (λ n. take n (set l found x)) (add-one found) ∙ take-suc-set l found x h
listed l found x false h = sym (append-nil (take found l))

store_beyond : (l : List ℕ) (kept found x : ℕ) (whole : Bool) → found < kept → drop kept (cond whole (set l found x) l) ≡ drop kept l
store_beyond l kept found x true h = drop-set-lt kept l found x h
store_beyond l kept found x false h = refl

-- what lies behind the listed windows stays
pub store_behind : (l before : List ℕ) (found x : ℕ) (whole : Bool) → drop found l ≡ drop found before
    → drop (cond whole (found + 1) found) (cond whole (set l found x) l) ≡ drop (cond whole (found + 1) found) before
store_behind l before found x true h =
    drop-set-lt (found + 1) l found x (omega arith) ∙ sym (drop-drop 1 found l) ∙ ap (drop 1) h ∙ drop-drop 1 found before
store_behind l before found x false h = h

store_length : (l : List ℕ) (found x : ℕ) (whole : Bool) → length (cond whole (set l found x) l) ≡ length l
store_length l found x true = length-set l found x
store_length l found x false = refl

store_few : (found k : ℕ) (whole : Bool) → found ≤ k → cond whole (found + 1) found ≤ k + 1
store_few found k true h = omega arith
store_few found k false h = omega arith

one_more : (test : ℕ → ℕ → Tested) (m x reach spent e w : ℕ) (whole : Bool) (l : List ℕ) → SweptOne test m x (max reach x) spent e w whole
    → sweep_one_lem cost test m x (swept reach spent l) ≡ swept e w (l ++ cond whole (x ∷ []) [])
unfolding sweep_one_lem
one_more test m x reach spent e w whole l r = r.result l

module _ {test : ℕ → ℕ → Tested} {m n x : ℕ} {all xs : List ℕ} {kept : ℕ} {before after : List ℕ} {k reach spent found e w : ℕ} {whole : Bool}
    (i : SweptTo test m n all (x ∷ xs) kept before after k reach spent found) (h : k < kept) (room : kept ≤ length before)
    (r : SweptOne test m x (max reach x) spent e w whole) (inside : x + m ≤ n) where
  pub next_swept : SweptTo test m n all xs kept before (cond whole (set after found x) after) (k + 1) e w (cond whole (found + 1) found)
  unfolding sweep_all_lem
  next_swept =
      let f = i.few in let g = i.long in
      let in_list : found < length after = rw g (omega arith) in
      record {
        within = omega arith;
        few = store_few found k whole f;
        reached = let u = r.until in let b = i.reached in omega arith;
        bound = let b = i.bound in let c = r.bound in let o = r.onward in omega arith;
        long = store_length after found x whole ∙ g;
        beyond = store_beyond after kept found x whole (omega arith) ∙ i.beyond;
        state =
            ap (λ l. sweep_all_lem cost test m xs (swept e w l)) (listed after found x whole in_list) ∙
            ap (sweep_all_lem cost test m xs) (sym (one_more test m x reach spent e w whole (take found after) r)) ∙ i.state;
      }

-- the same under the code's names
pub swept_as : {test : ℕ → ℕ → Tested} {m m' start from x spent e w : ℕ} {whole : Bool} (reach : ℕ) → m' ≡ m → start ≡ x → from ≡ max reach start
    → SweptOne test m' start from spent e w whole → SweptOne test m x (max reach x) spent e w whole
swept_as {test} {m} {m'} {start} {x = x} {spent} {e} {w} {whole} reach p q r s =
    subst (λ (n : ℕ). SweptOne test n x (max reach x) spent e w whole) p
    (subst (λ (y : ℕ). SweptOne test m' y (max reach y) spent e w whole) q (subst (λ (f : ℕ). SweptOne test m' start f spent e w whole) r s))
