-- Shows: a mask that a test thins out, one entry a turn, and its number; a mask of what passes below a place, one place more; and the tests that
-- are left when it is known what passes below a place.
-- Assumes nothing.
use Prim.Native.Nat.{ℕ, zero, suc, ◌+◌, ◌-◌, ◌≤◌, ◌<◌}
use mathlib.Core.Path.{◌≡◌, refl, sym, ◌∙◌, ap, ap₂}
use mathlib.Core.Logic.{⊎_elim}
use mathlib.Core.List.{List, [], ◌∷◌, ◌++◌}
use mathlib.Core.Bool.{Bool, true, false, ◌&&◌}
use native.Mathlib.Omega.{arith}
use native.Mathlib.Numerals.{add-one}
use native.Mathlib.Nat.{eq-or-lt_of_le}
use lib.Dec.{ltb, eqb}
use lib.ListN.{length, get_or, take, drop, set, replicate, get_or-replicate, get_or-append, length-append, length-set, length-take, length-drop}
use lib.Seq.{get_or-append_seam, get_or-set_same, get_or-set_other, get_or-take, get_or-drop}
use borrow.Author.Tests.{eqb-true, eqb-false}
use mir.Val.{bool_byte}
use Rattle.order.specs.Isomorphic.{all_below}
use Rattle.order.proofs.Tests.{clash, must_fail, and_both, and_first, and_second}
use Rattle.order.proofs.Isomorphisms.{pass_each}
use Rattle.frames.specs.declared.places.Step.{Step}
use Rattle.frames.specs.Inside.{nowhere, no_step, step_test, step_passes_lem, pass_below, all_places_pass, StepWithin, Within, AllStand, Counted, Narrowed, Stands, Looked}
use Rattle.frames.proofs.StepLaws.{one_near, high_near, low_near, both_near}

pub at_most_one : (b : Bool) → bool_byte b ≤ 1
at_most_one true = omega arith
at_most_one false = omega arith

-- ---- one entry more

-- a store leaves the other entries, and has its own
module _ (mask : List Bool) (k : ℕ) (b : Bool) where
  other : (i : ℕ) → (i ≡ k → ⊥) → get_or (set mask k b) i false ≡ get_or mask i false
  other i f = get_or-set_other mask k i b false f

  stored : (i : ℕ) → i ≡ k → k < length mask → get_or (set mask k b) i false ≡ b
  stored i q h = ap (λ a. get_or (set mask k b) a false) q ∙ get_or-set_same mask k b false h

-- of the entries below k none stands if n is 0, and all do if it is k
pub record CountedTo (mask : List Bool) (k n : ℕ) : Type 0 where
  pub few : n ≤ k
  pub none_left : n ≡ 0 → (i : ℕ) → i < k → get_or mask i false ≡ false
  pub all_left : n ≡ k → (i : ℕ) → i < k → get_or mask i false ≡ true

pub counted_none : (mask : List Bool) → CountedTo mask 0 0
counted_none mask = record { few = omega arith; none_left = λ e i h. absurd (omega arith); all_left = λ e i h. absurd (omega arith) }

pub counted_more : {mask : List Bool} {k n : ℕ} (b : Bool) → CountedTo mask k n → k < length mask → CountedTo (set mask k b) (k + 1) (n + bool_byte b)
counted_more {mask} {k} {n} b w h =
    record {
      few = let f = w.few in let o = at_most_one b in omega arith;
      none_left = λ z i g. let f = nothing b z in split i g f.0 (λ q. w.none_left f.1 i q);
      all_left = λ z i g. let f = everything b z in split i g f.0 (λ q. w.all_left f.1 i q);
    }
  where
    nothing : (b : Bool) → n + bool_byte b ≡ 0 → (b ≡ false) × (n ≡ 0)
    nothing true z = absurd (omega arith)
    nothing false z = (refl, omega arith)

    everything : (b : Bool) → n + bool_byte b ≡ k + 1 → (b ≡ true) × (n ≡ k)
    everything true z = (refl, omega arith)
    everything false z = let f = w.few in absurd (omega arith)

    split : {c : Bool} (i : ℕ) → i < k + 1 → b ≡ c → (i < k → get_or mask i false ≡ c) → get_or (set mask k b) i false ≡ c
    split i g e f = ⊎_elim (λ (q : i ≡ k). stored mask k b i q h ∙ e) (λ (q : i < k). other mask k b i (λ z. omega arith) ∙ f q) (eq-or-lt_of_le (let z : i ≤ k = omega arith in z))

-- of a mask that was `before` the entries below k are thinned out, with their number
pub record Thinned (t : ℕ → Bool) (before now : List Bool) (k n : ℕ) : Type 0 where
  pub long : length now ≡ length before
  pub thin : (i : ℕ) → i < k → get_or now i false ≡ (get_or before i false && t i)
  pub rest : (i : ℕ) → k ≤ i → get_or now i false ≡ get_or before i false
  pub number : CountedTo now k n

pub thinned_more : {t : ℕ → Bool} {before now : List Bool} {k n : ℕ} (b : Bool) → Thinned t before now k n → k < length before → b ≡ (get_or now k false && t k)
    → Thinned t before (set now k b) (k + 1) (n + bool_byte b)
thinned_more {t} {before} {now} {k} {n} b w h e =
    record {
      long = length-set now k b ∙ w.long;
      thin = λ i g.
          ⊎_elim (λ (q : i ≡ k). stored now k b i q inside ∙ e ∙ ap (λ x. x && t k) (w.rest k (omega arith)) ∙ ap (λ a. get_or before a false && t a) (sym q))
          (λ (q : i < k). other now k b i (λ z. omega arith) ∙ w.thin i q) (eq-or-lt_of_le (let z : i ≤ k = omega arith in z));
      rest = λ i g. other now k b i (λ z. omega arith) ∙ w.rest i (omega arith);
      number = counted_more b w.number inside;
    }
  where
    inside : k < length now
    inside = let l = w.long in omega arith

-- the front of a mask all of which stands
pub stand_front : (n m : ℕ) → n ≤ m → n ≤ 128 → AllStand (take (n - 0) (replicate m true))
stand_front n m h f =
    record { few = (let a = length-take (n - 0) (replicate m true) in omega arith); stands = λ i g. let a = length-take (n - 0) (replicate m true) in get_or-take (n - 0) (replicate m true) i false (omega arith) ∙ get_or-replicate m i true false (omega arith) }

-- ---- tests that come to the same, and a test that all pass

and-true : (b : Bool) → b ≡ (b && true)
and-true true = refl
and-true false = refl

pub narrowed_passed : {u : ℕ → Bool} {mask : List Bool} {n : ℕ} → Counted mask n → ((i : ℕ) → u i ≡ true) → Narrowed u mask n mask
narrowed_passed {mask = mask} w f = record { stands = λ i h. and-true (get_or mask i false) ∙ ap (λ b. get_or mask i false && b) (sym (f i)); counted = w }

-- ---- the steps from one on

abbrev pub steps_from : List Step → ℕ → List Step
steps_from steps from = take (length steps - from) (drop from steps)

module _ (steps : List Step) {from : ℕ} (h : from ≤ length steps) where
  pub length-steps_from : length (steps_from steps from) ≡ length steps - from
  length-steps_from = let a = length-take (length steps - from) (drop from steps) in let b = length-drop from steps in omega arith

  step_from : (i : ℕ) → from + i < length steps → get_or (steps_from steps from) i no_step ≡ get_or steps (from + i) no_step
  step_from i g = get_or-take (length steps - from) (drop from steps) i no_step (omega arith) ∙ get_or-drop from steps i no_step

-- a part of the steps, as what is left when some have been taken off the end
pub record SomeLeft (steps left : List Step) : Type 0 where
  pub first : ℕ
  pub within : first + length left ≤ length steps
  pub are : (i : ℕ) → i < length left → get_or left i no_step ≡ get_or steps (first + i) no_step

-- the last of them, and those before it
module _ {steps left : List Step} (rest : List Step) (step : Step) (l : SomeLeft steps left) (e : left ≡ rest ++ (step ∷ [])) where
  one_more_left : length left ≡ length rest + 1
  one_more_left = ap length e ∙ length-append rest (step ∷ [])

  pub last_inside : l.first + length rest < length steps
  last_inside = let w = l.within in let g = one_more_left in omega arith

  pub last_is : step ≡ get_or steps (l.first + length rest) no_step
  last_is = let g = one_more_left in sym (get_or-append_seam rest step [] no_step) ∙ ap (λ r. get_or r (length rest) no_step) (sym e) ∙ l.are (length rest) (omega arith)

  pub last_off : SomeLeft steps rest
  last_off =
      let w = l.within in
      let g = one_more_left in
      record { first = l.first; within = omega arith; are = λ i h. sym (get_or-append rest (step ∷ []) no_step i h) ∙ ap (λ r. get_or r i no_step) (sym e) ∙ l.are i (omega arith) }

all_below_same : (n : ℕ) (p q : ℕ → Bool) → ((i : ℕ) → i < n → p i ≡ q i) → all_below n p ≡ all_below n q
unfolding all_below
all_below_same zero p q f = refl
all_below_same (suc n) p q f = ap₂ ◌&&◌ (all_below_same n p q (λ i h. f i (omega arith))) (f n (omega arith))

module _ (F : List ℕ) (steps : List Step) where
  pub none_tested : (s : ℕ) → pass_below 0 F steps s ≡ true
  unfolding pass_below all_below
  none_tested s = refl

  one_more : (s j : ℕ) → pass_below (j + 1) F steps s ≡ (pass_below j F steps s && step_passes_lem F steps s j)
  unfolding pass_below all_below
  one_more s j = rw add-one refl

  pub fails_at : (s j : ℕ) → j < length steps → step_passes_lem F steps s j ≡ false → all_places_pass F steps s ≡ false
  unfolding pass_below
  fails_at s j h e = must_fail (all_below (length steps) (step_passes_lem F steps s)) (λ g. clash (pass_each (length steps) (step_passes_lem F steps s) g j h) e)

  pub one_passed : (s j : ℕ) → pass_below j F steps s ≡ true → step_passes_lem F steps s j ≡ true → pass_below (j + 1) F steps s ≡ true
  one_passed s j p e = one_more s j ∙ ap₂ ◌&&◌ p e

  -- where the places below `from` pass, all do if the rest does
  rest_same : (s from n : ℕ) → pass_below from F steps s ≡ true → from ≤ length steps → from + n ≤ length steps → pass_below n F (steps_from steps from) s ≡ pass_below (from + n) F steps s
  unfolding pass_below all_below step_passes_lem
  rest_same s from zero p g h = sym (ap (λ m. pass_below m F steps s) (let e : from + 0 ≡ from = omega arith in e) ∙ p)
  rest_same s from (suc n) p g h =
      ap₂ ◌&&◌ (rest_same s from n p g (omega arith)) (ap (step_test F s) (step_from steps g n (omega arith))) ∙
      sym (ap (λ m. pass_below m F steps s) (let e : from + suc n ≡ suc (from + n) = omega arith in e))

  all_by_rest : (s from : ℕ) → pass_below from F steps s ≡ true → from ≤ length steps → all_places_pass F (steps_from steps from) s ≡ all_places_pass F steps s
  all_by_rest s from p g =
      let l = length-steps_from steps g in
      rest_same s from (length (steps_from steps from)) p g (omega arith) ∙ ap (λ n. pass_below n F steps s) (let e : from + length (steps_from steps from) ≡ length steps = omega arith in e)

  -- a test that was told
  pub step-told : (s j : ℕ) {b c : Bool} → b ≡ step_test F s (get_or steps j no_step) → b ≡ c → step_passes_lem F steps s j ≡ c
  unfolding step_passes_lem
  step-told s j e f = sym e ∙ f

  -- what stood in a mask, or fell
  was_standing : (a b : Bool) {c : Bool} → c ≡ (a && b) → c ≡ true → (a ≡ true) × (b ≡ true)
  was_standing a b e t = (and_first a b (sym e ∙ t), and_second a b (sym e ∙ t))

  fell_now : (a b : Bool) {c : Bool} {X : Type 0} → c ≡ (a && b) → c ≡ false → (a ≡ false → X) → (b ≡ false → X) → X
  fell_now false b e t f g = f refl
  fell_now true false e t f g = g refl
  fell_now true true e t f g = clash e t

  module _ {s j n : ℕ} {before after : List Bool} (h : j < length steps) (t : Narrowed (λ i. step_passes_lem F steps (s + i) j) before n after) (l : length after ≡ length before) where
    fell_there : {d : ℕ} → Stands F steps s d before → (i : ℕ) → i < length after → get_or after i false ≡ false → all_places_pass F steps (s + i) ≡ false
    fell_there w i g e =
        fell_now (get_or before i false) (step_passes_lem F steps (s + i) j) (t.stands i (omega arith)) e
        (λ z. w.fallen i (omega arith) z) (λ z. fails_at (s + i) j h z)

    -- a place out of turn strikes some, and all that is known of the others stays
    pub looked_late : {d k : ℕ} → Looked F steps s d k before → Looked F steps s d n after
    looked_late w =
        record {
          within = w.within;
          stands = record {
            standing = λ i g e. w.stands.standing i (omega arith) (was_standing (get_or before i false) (step_passes_lem F steps (s + i) j) (t.stands i (omega arith)) e).0;
            fallen = fell_there w.stands;
          };
          counted = t.counted;
        }

    -- the next place
    pub looked_more : {k : ℕ} → Looked F steps s j k before → Looked F steps s (j + 1) n after
    looked_more w =
        record {
          within = omega arith;
          stands = record {
            standing = λ i g e.
                let p = was_standing (get_or before i false) (step_passes_lem F steps (s + i) j) (t.stands i (omega arith)) e in
                one_more (s + i) j ∙ and_both (pass_below j F steps (s + i)) (step_passes_lem F steps (s + i) j) (w.stands.standing i (omega arith) p.0) p.1;
            fallen = fell_there w.stands;
          };
          counted = t.counted;
        }

  -- where all stand nothing is known yet
  pub looked_at_nothing : {s n : ℕ} {mask : List Bool} → AllStand mask → n ≡ length mask → Looked F steps s 0 n mask
  looked_at_nothing {s} w e =
      record {
        within = omega arith;
        stands = record { standing = λ i h z. none_tested (s + i); fallen = λ i h z. clash (w.stands i h) z };
        counted = record { few = w.few; none_left = λ z i h. absurd (omega arith); all_left = λ z i h. w.stands i h };
      }

  -- ---- a mask whose columns go on alone

  -- the columns below k are through, with their number, and the others are known as far as place `from`
  pub record Alone (s from k n : ℕ) (mask : List Bool) : Type 0 where
    pub through : (i : ℕ) → i < length mask → i < k → get_or mask i false ≡ all_places_pass F steps (s + i)
    pub waiting : (i : ℕ) → i < length mask → k ≤ i → (get_or mask i false && all_places_pass F (steps_from steps from) (s + i)) ≡ all_places_pass F steps (s + i)
    pub number : CountedTo mask k n

  pub alone_none : {s from : ℕ} {mask : List Bool} → from ≤ length steps → Stands F steps s from mask → Alone s from 0 0 mask
  alone_none {s} {from} {mask} l w = record { through = λ i h g. absurd (omega arith); waiting = λ i h g. go i h (get_or mask i false) refl; number = counted_none mask }
    where
      go : (i : ℕ) → i < length mask → (b : Bool) → get_or mask i false ≡ b → (b && all_places_pass F (steps_from steps from) (s + i)) ≡ all_places_pass F steps (s + i)
      go i h true e = all_by_rest (s + i) from (w.standing i h e) l
      go i h false e = sym (w.fallen i h e)

  pub alone_more : {s from k n : ℕ} {mask : List Bool} (b : Bool) → Alone s from k n mask → k < length mask → b ≡ all_places_pass F steps (s + k)
      → Alone s from (k + 1) (n + bool_byte b) (set mask k b)
  alone_more {s} {from} {k} {n} {mask} b w inside e =
      let l = length-set mask k b in
      record {
        through = λ i h g.
            ⊎_elim (λ (q : i ≡ k). stored mask k b i q inside ∙ e ∙ ap (λ a. all_places_pass F steps (s + a)) (sym q))
            (λ (q : i < k). other mask k b i (λ z. omega arith) ∙ w.through i (omega arith) q) (eq-or-lt_of_le (let z : i ≤ k = omega arith in z));
        waiting = λ i h g. rw (other mask k b i (λ z. omega arith)) (w.waiting i (omega arith) (omega arith));
        number = counted_more b w.number inside;
      }

-- ---- the frame from a start on

module _ (F : List ℕ) (steps : List Step) (s : ℕ) where
  -- what a slice of the frame from sample s on holds
  abbrev pub from : List ℕ
  from = take (length F - s) (drop s F)

  sample_there : (o : ℕ) → s + o < length F → get_or from (0 + o) 0 ≡ get_or F (s + o) 0
  sample_there o h = ap (λ n. get_or from n 0) (let e : 0 + o ≡ o = omega arith in e) ∙ get_or-take (length F - s) (drop s F) o 0 (omega arith) ∙ get_or-drop s F o 0

  step_there : (p : Step) → StepWithin F s 1 p → step_test from 0 p ≡ step_test F s p
  step_there p i = go (eqb p.below p.above) (eqb p.below nowhere) (eqb p.above nowhere) refl refl refl
    where
      at_here : get_or from (0 + p.here) 0 ≡ get_or F (s + p.here) 0
      at_here = let a = i.here_in in sample_there p.here (omega arith)

      at_low : (p.below ≡ nowhere → ⊥) → get_or from (0 + p.below) 0 ≡ get_or F (s + p.below) 0
      at_low f = let a = i.low_in f in sample_there p.below (omega arith)

      at_high : (p.above ≡ nowhere → ⊥) → get_or from (0 + p.above) 0 ≡ get_or F (s + p.above) 0
      at_high f = let a = i.high_in f in sample_there p.above (omega arith)

      go : (a b c : Bool) → eqb p.below p.above ≡ a → eqb p.below nowhere ≡ b → eqb p.above nowhere ≡ c → step_test from 0 p ≡ step_test F s p
      go true b c x y z =
          let e = eqb-true p.below p.above x in
          one_near from 0 p e ∙ ap₂ eqb at_here (let a = i.one_in e in sample_there p.below (omega arith)) ∙ sym (one_near F s p e)
      go false true c x y z =
          let e = eqb-false p.below p.above x in
          let n = eqb-true p.below nowhere y in
          high_near from 0 p e n ∙ ap₂ ltb at_here (at_high (λ q. e (n ∙ sym q))) ∙ sym (high_near F s p e n)
      go false false true x y z =
          let e = eqb-false p.below p.above x in
          let n = eqb-false p.below nowhere y in
          let o = eqb-true p.above nowhere z in
          low_near from 0 p e n o ∙ ap₂ ltb (at_low n) at_here ∙ sym (low_near F s p e n o)
      go false false false x y z =
          let e = eqb-false p.below p.above x in
          let n = eqb-false p.below nowhere y in
          let o = eqb-false p.above nowhere z in
          both_near from 0 p e n o ∙ ap₂ ◌&&◌ (ap₂ ltb (at_low n) at_here) (ap₂ ltb at_here (at_high o)) ∙ sym (both_near F s p e n o)

  -- the places pass there where they pass in the frame
  pub all_there : Within F steps s 1 → all_places_pass from steps 0 ≡ all_places_pass F steps s
  unfolding pass_below step_passes_lem
  all_there i = all_below_same (length steps) _ _ (λ k g. step_there (get_or steps k no_step) (i.inside k g))
