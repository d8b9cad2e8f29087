-- Shows: what two windows' meeting comes to, by the entries of their distance: they agree where they are far apart or the first entry is
-- none, and otherwise duel inside the pattern. Where no entry names a place, all windows agree.
-- Assumes nothing.
use Prim.Native.Nat.{ℕ, ◌+◌, ◌-◌, ◌≤◌, ◌<◌}
use mathlib.Core.Path.{◌≡◌, refl, sym, ◌∙◌, ap₂}
use mathlib.Core.List.{List}
use mathlib.Core.Bool.{Bool, true, false}
use native.Mathlib.Omega.{arith}
use Rattle.std.specs.Prelude.{None}
use lib.Dec.{leb}
use lib.IntN.{ℤ}
use lib.ListN.{length, get_or}
use borrow.Author.Tests.{le-leb, lt-leb, leb-true, leb-false, eq-eqb, ne_eqb}
use Rattle.order.specs.declared.steps.Meeting.{Meeting}
use Rattle.order.specs.declared.steps.Meeting.TheVariants.{Agree}
use Rattle.order.specs.Sizes.{no_place}
use Rattle.order.specs.Duels.{duel}
use Rattle.duels.specs.DuelPromise.{tells_witness, meeting_by_entries, meets_by}
use Rattle.duels.specs.Inside.Asked.{Duelable}
use Rattle.duels.specs.declared.codes.Codes.{Codes}
use Rattle.duels.specs.Inside.Codes.{NoneBelow}
use Rattle.duels.specs.Inside.Stacks.{AllAgree, Way}
use Rattle.duels.proofs.CodeLaws.{witness_told}

module _ (P : List ℤ) (wi wj : List ℕ) (T : List ℤ) (x y : ℕ) where
  pub far_agree : length P ≤ y - x → meets_by P wi wj T x y ≡ Agree
  unfolding meets_by
  far_agree h = rw (le-leb (length P) (y - x) h) refl

  module _ (h : y - x < length P) where
    pub none_agree : get_or wi (y - x) 0 ≡ no_place → meets_by P wi wj T x y ≡ Agree
    unfolding meets_by meeting_by_entries
    none_agree e = rw (lt-leb (length P) (y - x) h, eq-eqb (get_or wi (y - x) 0) no_place e) refl

    -- the duel, under the code's names of the entries
    pub some-duel : {i j : ℕ} {r : Meeting} → (get_or wi (y - x) 0 ≡ no_place → ⊥) → i ≡ get_or wi (y - x) 0 → j ≡ get_or wj (y - x) 0
        → r ≡ duel P T y (y - x) i j → r ≡ meets_by P wi wj T x y
    unfolding meets_by meeting_by_entries
    some-duel f p q d = d ∙ ap₂ (duel P T y (y - x)) p q ∙ sym (rw (lt-leb (length P) (y - x) h, ne_eqb (get_or wi (y - x) 0) no_place f) refl)

pub duelable : (P T : List ℤ) (y a i j : ℕ) {i' j' : ℕ} → tells_witness P a i j ≡ true → i' ≡ i → j' ≡ j → a ≤ y → y + length P ≤ length T → Duelable P T y a i' j'
duelable P T y a i j e p q h g =
    let w = witness_told P a i j e in
    let u = w.0 in
    let v = w.1 in
    record { i_inside = omega arith; j_inside = omega arith; i_reach = omega arith; j_reach = omega arith; differs = rw (p, q) w.2 }

-- ---- no witness at all

pub none_apart : (P : List ℤ) (wi wj : List ℕ) (T : List ℤ) → NoneBelow wi (length P) → AllAgree (meets_by P wi wj T)
none_apart P wi wj T n = record { agreeing = λ x y. go x y (leb (length P) (y - x)) refl }
  where
    go : (x y : ℕ) (t : Bool) → leb (length P) (y - x) ≡ t → meets_by P wi wj T x y ≡ Agree
    go x y true e = far_agree P wi wj T x y (leb-true (length P) (y - x) e)
    go x y false e = let h : y - x < length P = leb-false (length P) (y - x) e in none_agree P wi wj T x y h (n.none (y - x) h)

-- ---- the two ways

pub no_codes : {A : Type 0} {P : List ℤ} {wi wj : List ℕ} {T : List ℤ} {now : A → List Codes} → AllAgree (meets_by P wi wj T) → Way P wi wj T None now
no_codes a = record { agreeing = λ e. a; coded = λ c e. cc }
