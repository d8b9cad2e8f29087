-- Shows: order isomorphism is an equivalence that parts inherit; it is Chhabra's u_i ≤ u_j ⇔ v_i ≤ v_j (2016); and `is_iso`
-- computes it.
-- Assumes nothing.
use Prim.Native.Nat.{ℕ, zero, suc, ◌+◌, ◌-◌, ◌<◌, min}
use mathlib.Core.Path.{◌≡◌, refl, sym, ◌∙◌, ap, ap₂, subst}
use mathlib.Core.Logic.{◌↔◌}
use mathlib.Core.List.{List}
use mathlib.Core.Bool.{Bool, true, false, beq}
use native.Mathlib.Omega.{arith}
use lib.Dec.{eqb, T}
use lib.IntN.{ℤ, pos}
use lib.ListN.{length, take, drop, length-take, length-drop}
use lib.Seq.{get_or-take, get_or-drop}
use lib.Signed.{le_z, ◌≤ℤ◌}
use borrow.Author.Tests.{eqb-true, eq-eqb}
use Rattle.order.specs.Sizes.{at}
use Rattle.order.specs.Isomorphic.{Iso, all_below, is_iso}
use Rattle.order.specs.Equivalence.{PartsInherit}
use Rattle.order.proofs.Lists.{below_suc}
use Rattle.order.proofs.Tests.{clash, same_test, and_both, and_first, and_second, beq_same, same_beq}

-- a place of a part is a place of the whole
pub at_part : (n s : ℕ) (u : List ℤ) (i : ℕ) → i < n → at (take n (drop s u)) i ≡ at u (s + i)
at_part n s u i h = get_or-take n (drop s u) i (pos 0) h ∙ get_or-drop s u i (pos 0)

iso_part : {u v : List ℤ} (s n : ℕ) → Iso u v → Iso (take n (drop s u)) (take n (drop s v))
iso_part {u} {v} s n e =
    record {
      lengths = length-take n (drop s u) ∙ ap (min n) (length-drop s u ∙ ap (λ k. k - s) e.lengths ∙ sym (length-drop s v)) ∙ sym (length-take n (drop s v));
      order = ordered;
    }
  where
    ordered : (i j : ℕ) → i < length (take n (drop s u)) → j < length (take n (drop s u)) → le_z (at (take n (drop s u)) i) (at (take n (drop s u)) j) ≡ le_z (at (take n (drop s v)) i) (at (take n (drop s v)) j)
    ordered i j p q =
        let ki : i < min n (length u - s) = rw (length-take, length-drop) at p in
        let kj : j < min n (length u - s) = rw (length-take, length-drop) at q in
        let ni : i < n = omega arith in
        let nj : j < n = omega arith in
        let ui : s + i < length u = omega arith in
        let uj : s + j < length u = omega arith in
        ap₂ le_z (at_part n s u i ni) (at_part n s u j nj) ∙ e.order (s + i) (s + j) ui uj ∙
        sym (ap₂ le_z (at_part n s v i ni) (at_part n s v j nj))

-- order isomorphism is an equivalence that parts inherit
pub iso_inherits : PartsInherit Iso
iso_inherits =
    record {
      lengths = λ e. e.lengths;
      reflexive = λ u. record { lengths = refl; order = λ i j p q. refl };
      symmetric = λ {u} {v} e. record { lengths = sym e.lengths; order = λ i j p q. sym (e.order i j (rw e.lengths p) (rw e.lengths q)) };
      transitive = λ {u} {v} {w} e f. record { lengths = e.lengths ∙ f.lengths; order = λ i j p q. e.order i j p q ∙ f.order i j (rw e.lengths at p) (rw e.lengths at q) };
      part = λ s n e. iso_part s n e;
    }

-- as printed
pub record Printed (u v : List ℤ) : Type 0 where
  pub lengths : length u ≡ length v
  pub order : (i j : ℕ) → i < length u → j < length u → (at u i ≤ℤ at u j) ↔ (at v i ≤ℤ at v j)

-- a test passes exactly if its proposition holds, so two tests are equal exactly if their propositions are equivalent
on_T : (b : Bool) → T b → b ≡ true
on_T true t = refl
on_T false t = absurd t

of_T : (b : Bool) → b ≡ true → T b
of_T true e = tt
of_T false e = clash e refl

pub iso_as_printed : (u v : List ℤ) → Iso u v ↔ Printed u v
iso_as_printed u v = (
  (λ e.
      record {
        lengths = e.lengths;
        order = λ i j p q. (λ h. record { le = subst T (e.order i j p q) h.le }, λ h. record { le = subst T (sym (e.order i j p q)) h.le });
      }),
  λ f.
      record {
        lengths = f.lengths;
        order = λ i j p q.
            same_test (le_z (at u i) (at u j)) (le_z (at v i) (at v j))
            (λ h. on_T (le_z (at v i) (at v j)) ((f.order i j p q).0 (record { le = of_T (le_z (at u i) (at u j)) h })).le)
            (λ h. on_T (le_z (at u i) (at u j)) ((f.order i j p q).1 (record { le = of_T (le_z (at v i) (at v j)) h })).le);
      },
)

-- a test that every number below n passes
pub all_pass : (n : ℕ) (p : ℕ → Bool) → ((i : ℕ) → i < n → p i ≡ true) → all_below n p ≡ true
unfolding all_below
all_pass zero p f = refl
all_pass (suc n) p f = and_both (all_below n p) (p n) (all_pass n p (λ i h. f i (omega arith))) (f n (omega arith))

pub pass_each : (n : ℕ) (p : ℕ → Bool) → all_below n p ≡ true → (i : ℕ) → i < n → p i ≡ true
unfolding all_below
pass_each zero p e i h = absurd (omega arith)
pass_each (suc n) p e i h =
    below_suc (λ i. p i ≡ true) n (pass_each n p (and_first (all_below n p) (p n) e)) (and_second (all_below n p) (p n) e) i h

-- is_iso decides Iso
pub iso_computed : (u v : List ℤ) → Iso u v → is_iso u v ≡ true
unfolding is_iso
iso_computed u v e =
    and_both _ _ (eq-eqb (length u) (length v) e.lengths)
    (all_pass (length u) _ (λ i p. all_pass (length u) _ (λ j q. same_beq _ _ (e.order i j p q))))

pub computed_iso : (u v : List ℤ) → is_iso u v ≡ true → Iso u v
unfolding is_iso
computed_iso u v e =
    record {
      lengths = eqb-true (length u) (length v) (and_first (eqb (length u) (length v)) _ e);
      order = λ i j p q.
          beq_same (le_z (at u i) (at u j)) (le_z (at v i) (at v j))
          (pass_each (length u) (λ (j : ℕ). beq (le_z (at u i) (at u j)) (le_z (at v i) (at v j)))
          (pass_each (length u) (λ (i : ℕ). all_below (length u) (λ j. beq (le_z (at u i) (at u j)) (le_z (at v i) (at v j))))
          (and_second (eqb (length u) (length v)) _ e) i p) j q);
    }
