-- Shows: what comparisons of samples tell of the numbers that they stand for: which of two is the greater and which the lesser, whether
-- they are equal, and that one lies outside a range.
-- Assumes nothing beyond what the section names: a comparison of two samples is that of their numbers.
use Prim.Native.Nat.{ℕ, ◌+◌, ◌≤◌, ◌<◌}
use mathlib.Core.Path.{◌≡◌, refl, sym, ◌∙◌, ap, ap₂, subst}
use mathlib.Core.List.{List, map}
use mathlib.Core.Bool.{Bool, true, false, not, cond, ◌||◌}
use native.Mathlib.Omega.{arith}
use lib.Dec.{ltb}
use borrow.Author.Tests.{ltb-true, ltb-false}
use lib.IntN.{ℤ, pos}
use lib.ListN.{length, get_or}
use lib.Signed.{le_z, lt_z}
use Rattle.std.specs.Prelude.{Some, Option}
use Rattle.std.specs.Ordering.{int_cmp, is_lt, is_le, is_eq, partial_lt, partial_le, ord_max, ord_min, is_some_and}
use Rattle.std.specs.declared.cmp.Ordering.{Ordering}
use Rattle.std.specs.declared.cmp.Ordering.TheVariants.{Less, Equal, Greater}
use Rattle.std.proofs.lemmas.List.{get_or-map, map-id}
use Rattle.order.specs.Sizes.{at}
use Rattle.order.proofs.Tests.{clash, must_fail}
use Rattle.order.proofs.Orders.{lt_z_not_le_z, le_z_total, le_z_trans}
use Rattle.tables.specs.Inside.Claims.{least, greatest, Outside, NoneWithin}
use Rattle.tables.specs.Inside.NearValues.{Within, on_side, later, nearest_value}
use Rattle.tables.proofs.LastNearest.{le_z_antisym}
use Rattle.tables.proofs.NearestByValue.{value_more}

-- ---- the comparison of two numbers

cases_lt : (t s : Bool) → is_lt (cond t Less (cond s Greater Equal)) ≡ t
cases_lt true s = refl
cases_lt false true = refl
cases_lt false false = refl

cases_le : (t s : Bool) → (t ≡ true → s ≡ false) → is_le (cond t Less (cond s Greater Equal)) ≡ not s
cases_le true true f = f refl
cases_le true false f = refl
cases_le false true f = refl
cases_le false false f = refl

cases_eq : (t s : Bool) → is_eq (cond t Less (cond s Greater Equal)) ≡ true → (t ≡ false) × (s ≡ false)
cases_eq true s e = clash e refl
cases_eq false true e = clash e refl
cases_eq false false e = (refl, refl)

not_not : (t : Bool) → not (not t) ≡ t
not_not true = refl
not_not false = refl

one_way : (a b : ℤ) → lt_z a b ≡ true → lt_z b a ≡ false
one_way a b e = go (le_z a b) refl
  where
    go : (t : Bool) → le_z a b ≡ t → lt_z b a ≡ false
    go true p = lt_z_not_le_z b a ∙ ap not p
    go false p = clash e (lt_z_not_le_z a b ∙ ap not (le_z_total a b p))

less_is : (a b : ℤ) → is_lt (int_cmp a b) ≡ lt_z a b
less_is a b = cases_lt (lt_z a b) (lt_z b a)

most_is : (a b : ℤ) → is_le (int_cmp a b) ≡ le_z a b
most_is a b = cases_le (lt_z a b) (lt_z b a) (one_way a b) ∙ ap not (lt_z_not_le_z b a) ∙ not_not (le_z a b)

at_most : (a b : ℤ) → lt_z b a ≡ false → le_z a b ≡ true
at_most a b e = sym (not_not (le_z a b)) ∙ ap not (sym (lt_z_not_le_z b a) ∙ e)

equal_is : (a b : ℤ) → is_eq (int_cmp a b) ≡ true → a ≡ b
equal_is a b e = let f = cases_eq (lt_z a b) (lt_z b a) e in le_z_antisym a b (at_most a b f.1) (at_most b a f.0)

unequal_is : (a b : ℤ) → is_eq (int_cmp a b) ≡ false → le_z b a ≡ true → le_z a b ≡ false
unequal_is a b e p = must_fail (le_z a b) (λ q. clash (both q) e)
  where
    both : le_z a b ≡ true → is_eq (int_cmp a b) ≡ true
    both q = rw (lt_z_not_le_z a b, lt_z_not_le_z b a, p, q) refl

-- which of two equal numbers is taken makes no difference
greater_is : (a b : ℤ) → cond (lt_z b a) a b ≡ later le_z a b
greater_is a b = go (lt_z b a) (le_z b a) refl refl
  where
    go : (t s : Bool) → lt_z b a ≡ t → le_z b a ≡ s → cond t a b ≡ cond s a b
    go true true p q = refl
    go true false p q = clash (le_z_total b a q) (sym (not_not (le_z a b)) ∙ ap not (sym (lt_z_not_le_z b a) ∙ p))
    go false true p q = sym (le_z_antisym a b (at_most a b p) q)
    go false false p q = refl

lesser_is : (a b : ℤ) → cond (lt_z b a) b a ≡ later (λ x y. le_z y x) a b
lesser_is a b = ap (λ t. cond t b a) (lt_z_not_le_z b a) ∙ turn (le_z a b)
  where
    turn : (t : Bool) → cond (not t) b a ≡ cond t a b
    turn true = refl
    turn false = refl

-- ---- of two samples

module _ {K : Type 0} (value : K → ℤ) where
  of_cond : (t : Bool) (a b : K) → value (cond t a b) ≡ cond t (value a) (value b)
  of_cond true a b = refl
  of_cond false a b = refl

  pub at_values : (xs : List K) (i : ℕ) {x : K} → i < length xs → x ≡ get_or xs i x → at (map value xs) i ≡ value x
  at_values xs i {x} h e = get_or-map value xs i x (pos 0) h ∙ ap value (sym e)

  -- one sample more on the side that le tells
  pub next_value : (le : ℤ → ℤ → Bool) (xs : List K) (j n : ℕ) (edge v t r : K) {x y : K} → j < length xs → n < length xs → x ≡ get_or xs j x → y ≡ get_or xs n y
      → value v ≡ nearest_value le (value edge) (map value xs) (at (map value xs) j) n → value t ≡ on_side le (value edge) (value x) (value y)
      → value r ≡ later le (value v) (value t) → value r ≡ nearest_value le (value edge) (map value xs) (at (map value xs) j) (n + 1)
  next_value le xs j n edge v t r {x} {y} h k p q e f g =
      value_more le (value edge) (map value xs) (at (map value xs) j) n e
      (f ∙ ap₂ (on_side le (value edge)) (sym (at_values xs j h p)) (sym (at_values xs n k q))) g

  module _ {cmp : K → K → Ordering} (ordered : (x y : K) → cmp x y ≡ int_cmp (value x) (value y)) where
    pub max_value : (a b : K) → value (ord_max cmp a b) ≡ later le_z (value a) (value b)
    max_value a b = of_cond (is_lt (cmp b a)) a b ∙ ap (λ t. cond t (value a) (value b)) (ap is_lt (ordered b a) ∙ less_is (value b) (value a)) ∙ greater_is (value a) (value b)

    pub min_value : (a b : K) → value (ord_min cmp a b) ≡ later (λ x y. le_z y x) (value a) (value b)
    min_value a b = of_cond (is_lt (cmp b a)) b a ∙ ap (λ t. cond t (value b) (value a)) (ap is_lt (ordered b a) ∙ less_is (value b) (value a)) ∙ lesser_is (value a) (value b)

    module _ {partial : K → K → Option Ordering} (matches : (x y : K) → partial x y ≡ Some (cmp x y)) where
      pub lt_value : (x y : K) → partial_lt partial x y ≡ lt_z (value x) (value y)
      lt_value x y = ap (is_some_and is_lt) (matches x y ∙ ap Some (ordered x y)) ∙ less_is (value x) (value y)

      pub le_value : (x y : K) → partial_le partial x y ≡ le_z (value x) (value y)
      le_value x y = ap (is_some_and is_le) (matches x y ∙ ap Some (ordered x y)) ∙ most_is (value x) (value y)

    module _ {eq : K → K → Bool} (matches : (x y : K) → eq x y ≡ is_eq (cmp x y)) where
      pub eq_value : {x y : K} → eq x y ≡ true → value x ≡ value y
      eq_value {x} {y} e = equal_is (value x) (value y) (ap is_eq (sym (ordered x y)) ∙ sym (matches x y) ∙ e)

      pub ne_value : {x y : K} → eq x y ≡ false → le_z (value y) (value x) ≡ true → le_z (value x) (value y) ≡ false
      ne_value {x} {y} e = unequal_is (value x) (value y) (ap is_eq (sym (ordered x y)) ∙ sym (matches x y) ∙ e)

-- ---- outside a range, and up to a place

pub outside : {lo hi x a b : ℤ} → (le_z least lo ≡ true) × (le_z hi greatest ≡ true) → Within lo hi x → (le_z a x ≡ true → le_z x b ≡ false) → Outside a b x
outside {lo} {hi} {x} n w f =
    record {
      not_less = le_z_trans least lo x n.0 w.not_less;
      not_greater = le_z_trans x hi greatest w.not_greater n.1;
      beyond = f;
    }

pub beyond_either : (x lo hi : ℤ) → (lt_z x lo || lt_z hi x) ≡ true → le_z lo x ≡ true → le_z x hi ≡ false
beyond_either x lo hi e a = must_fail (le_z x hi) (λ b. clash e (rw (lt_z_not_le_z x lo, lt_z_not_le_z hi x, a, b) refl))

-- what holds of each number below j, and of j
pub upto : (Q : ℕ → Type 0) (j : ℕ) → ((k : ℕ) → k < j → Q k) → Q j → (k : ℕ) → k ≤ j → Q k
upto Q j f q k h = go (ltb k j) refl
  where
    go : (t : Bool) → ltb k j ≡ t → Q k
    go true e = f k (ltb-true k j e)
    go false e = let n : j ≤ k = ltb-false k j e in let d : j ≡ k = omega arith in subst Q d q

-- ---- samples of 32 bits, which are their own numbers

pub own_none : {P : List ℤ} {from to : ℕ} {lo hi : ℤ} → NoneWithin (map (λ (x : ℤ). x) P) from to lo hi → NoneWithin P from to lo hi
own_none {P} w = rw map-id at w
