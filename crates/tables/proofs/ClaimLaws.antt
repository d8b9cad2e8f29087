-- Shows: claimed neighbours are the pattern's own where no earlier sample lies between them and none that equals one of them stands
-- after it. One proof serves both sides.
-- Assumes nothing.
use Prim.Native.Nat.{ℕ, ◌+◌, ◌≤◌, ◌<◌, min, max}
use mathlib.Core.Path.{◌≡◌, refl, sym, ◌∙◌, ap, subst}
use mathlib.Core.List.{List}
use mathlib.Core.Bool.{Bool, true, false, not, cond, ◌&&◌}
use native.Mathlib.Omega.{arith}
use lib.Dec.{ltb, eqb}
use lib.IntN.{ℤ, pos, ◌+ℤ◌, ◌-ℤ◌}
use lib.Signed.{le_z, lt_z}
use mir.Syntax.{w32}
use mir.Val.{SFits, to_z, of_z}
use mir.Facts.{to_z-of_z}
use borrow.Author.Tests.{ltb-true, ltb-false, le-ltb, eqb-true, not-false}
use Rattle.order.specs.Sizes.{none, place, at, entry, no_place}
use Rattle.order.specs.Neighbours.{nearest, low_of, high_of}
use Rattle.order.proofs.Tests.{clash, must_fail, and_first, and_second}
use Rattle.order.proofs.Orders.{lt_z_not_le_z, le_z_refl, le_z_trans}
use Rattle.order.proofs.Nearest.{Ordering, upward, turned, Neighbour, Near}
use Rattle.order.proofs.NearestOnly.{nearest_only}
use Rattle.order.proofs.Entries.{entry_of_none, entry_of_place}
use Rattle.tables.specs.Inside.Claims.{least, greatest, Outside, NoneWithin, limit_at, Limits, Floor, Ceiling, NoneBetween, OwnEntries}
use Rattle.tables.proofs.SampleSteps.{sample_least, sample_greatest, one_up, one_down, one_up_fits, one_down_fits}

-- ---- one side

module _ {le : ℤ → ℤ → Bool} (o : Ordering le) (P : List ℤ) (j : ℕ) where
  of_none : Neighbour le P j j none → no_place ≡ entry (nearest le P j j)
  of_none f = sym entry_of_none ∙ ap entry (nearest_only o P j j none f)

  of_place : (k : ℕ) → Near le P j j k → k ≡ entry (nearest le P j j)
  of_place k f = sym (entry_of_place k) ∙ ap entry (nearest_only o P j j (place k) f)

  -- an earlier equal sample with none after it
  pub equal_own : (k : ℕ) → k < j → le (at P k) (at P j) ≡ true → le (at P j) (at P k) ≡ true
      → ((i : ℕ) → k < i → i < j → le (at P i) (at P j) ≡ true → le (at P k) (at P i) ≡ false) → k ≡ entry (nearest le P j j)
  equal_own k h p q f =
      of_place k (record {
        below = h;
        side = p;
        best = λ i l t. o.trans (at P i) (at P j) (at P k) t q;
        rightmost = λ i l n t. f i n l t;
      })

  same_limit : (edge : ℤ) (i : ℕ) → limit_at 0 edge edge i ≡ edge
  same_limit edge i = go (ltb i 0)
    where
      go : (t : Bool) → cond t edge edge ≡ edge
      go true = refl
      go false = refl

  -- no neighbour: every sample on that side is forbidden
  pub limits_none : (edge : ℤ) {k : ℕ} → le edge (at P j) ≡ true → k ≡ no_place → Limits le edge P j k 0 edge edge
  limits_none edge b e =
      record {
        reach = omega arith;
        beside = λ i. ap (λ z. le z (at P j)) (same_limit edge i) ∙ b;
        own = λ f. e ∙ of_none (λ i h. must_fail (le (at P i) (at P j))
            (λ t. clash (f i h t).0 (sym (ap (λ z. le z (at P i)) (same_limit edge i)) ∙ (f i h t).1)));
      }

  -- a neighbour at place k with the sample `next` right beyond its own
  pub limits_place : (edge : ℤ) (k : ℕ) (next : ℤ) {l : ℕ} → ((x : ℤ) → le next x ≡ not (le x (at P k))) → k < j → le (at P j) (at P k) ≡ false → l ≡ k
      → Limits le edge P j l (k + 1) next (at P k)
  limits_place edge k next {l} n h e s =
      record {
        reach = omega arith;
        beside = λ i. beside i (ltb i (k + 1));
        own = λ f. s ∙ of_place k (record {
          below = h;
          side = o.total (at P j) (at P k) e;
          best = λ i b t. best i (ltb i (k + 1)) (f i b t).1;
          rightmost = λ i b a t. later i (ltb i (k + 1)) (le-ltb i (k + 1) (omega arith)) (f i b t).1;
        });
      }
    where
      beside : (i : ℕ) (t : Bool) → le (cond t next (at P k)) (at P j) ≡ true
      beside i true = n (at P j) ∙ ap not e
      beside i false = o.total (at P j) (at P k) e

      best : (i : ℕ) (t : Bool) → le (cond t next (at P k)) (at P i) ≡ false → le (at P i) (at P k) ≡ true
      best i true u = not-false (le (at P i) (at P k)) (sym (n (at P i)) ∙ u)
      best i false u = o.total (at P k) (at P i) u

      later : (i : ℕ) (t : Bool) → t ≡ false → le (cond t next (at P k)) (at P i) ≡ false → le (at P k) (at P i) ≡ false
      later i true w u = clash refl w
      later i false w u = u

-- ---- the machine's words for the two sides

module _ (P : List ℤ) (j k : ℕ) (fk : SFits w32 (at P k)) (fj : SFits w32 (at P j)) where
  less : (x y : ℤ) → lt_z x y ≡ true → le_z y x ≡ false
  less x y e = must_fail (le_z y x) (λ t. clash e (lt_z_not_le_z x y ∙ ap not t))

  module _ (e : lt_z (to_z w32 (of_z w32 (at P k))) (to_z w32 (of_z w32 (at P j))) ≡ true) where
    under : le_z (at P j) (at P k) ≡ false
    under = less (at P k) (at P j) (rw (to_z-of_z fk, to_z-of_z fj) at e)

    pub floor_sum : SFits w32 (to_z w32 (of_z w32 (at P k)) +ℤ pos 1)
    floor_sum = rw (to_z-of_z fk) (one_up_fits (at P k) (at P j) fk fj under)

    pub floor_place : {l : ℕ} → k ≡ l → k < j → Floor P j l (k + 1) (to_z w32 (of_z w32 (to_z w32 (of_z w32 (at P k)) +ℤ pos 1))) (to_z w32 (of_z w32 (at P k)))
    floor_place s h =
        rw (to_z-of_z floor_sum, to_z-of_z fk) (limits_place upward P j least k (at P k +ℤ pos 1) (one_up (at P k)) h under (sym s))

  module _ (e : lt_z (to_z w32 (of_z w32 (at P j))) (to_z w32 (of_z w32 (at P k))) ≡ true) where
    over : le_z (at P k) (at P j) ≡ false
    over = less (at P j) (at P k) (rw (to_z-of_z fk, to_z-of_z fj) at e)

    pub ceiling_sum : SFits w32 (to_z w32 (of_z w32 (at P k)) -ℤ pos 1)
    ceiling_sum = rw (to_z-of_z fk) (one_down_fits (at P k) (at P j) fk fj over)

    pub ceiling_place : {h : ℕ} → k ≡ h → k < j → Ceiling P j h (k + 1) (to_z w32 (of_z w32 (to_z w32 (of_z w32 (at P k)) -ℤ pos 1))) (to_z w32 (of_z w32 (at P k)))
    ceiling_place s h =
        rw (to_z-of_z ceiling_sum, to_z-of_z fk) (limits_place (turned upward) P j greatest k (at P k -ℤ pos 1) (one_down (at P k)) h over (sym s))

pub floor_none : (P : List ℤ) (j : ℕ) {l : ℕ} → SFits w32 (at P j) → l ≡ no_place → Floor P j l 0 least least
floor_none P j f e = limits_none upward P j least (sample_least (at P j) f) e

pub ceiling_none : (P : List ℤ) (j : ℕ) {h : ℕ} → SFits w32 (at P j) → h ≡ no_place → Ceiling P j h 0 greatest greatest
ceiling_none P j f e = limits_none (turned upward) P j greatest (sample_greatest (at P j) f) e

-- ---- both sides

pub equal_entries : (P : List ℤ) (j k : ℕ) → k < j → at P k ≡ at P j → NoneWithin P (k + 1) j (at P k) (at P k) → OwnEntries P j k k
unfolding low_of high_of
equal_entries P j k h e w =
    record {
      low_own = equal_own upward P j k h down up (λ i a b t. must_fail (le_z (at P k) (at P i))
          (λ u. clash (le_z_trans (at P i) (at P j) (at P k) t up) ((w.clear i (omega arith) b).beyond u)));
      high_own = equal_own (turned upward) P j k h up down (λ i a b t. (w.clear i (omega arith) b).beyond (le_z_trans (at P k) (at P j) (at P i) down t));
    }
  where
    same : (a b : ℤ) → a ≡ b → le_z a b ≡ true
    same a b q = subst (λ z. le_z a z ≡ true) q (le_z_refl a)

    down : le_z (at P k) (at P j) ≡ true
    down = same (at P k) (at P j) e

    up : le_z (at P j) (at P k) ≡ true
    up = same (at P j) (at P k) (sym e)

-- the same in the machine's words
pub equal_place : (P : List ℤ) (j k : ℕ) {l : ℕ} → k ≡ l → k < j → SFits w32 (at P k) → SFits w32 (at P j) → (r : Bool)
    → (r ≡ true → NoneWithin P (k + 1) j (to_z w32 (of_z w32 (at P k))) (to_z w32 (of_z w32 (at P k))))
    → (eqb (of_z w32 (at P k)) (of_z w32 (at P j)) && r) ≡ true → OwnEntries P j l l
equal_place P j k s h fk fj r w e =
    let same : Bool = eqb (of_z w32 (at P k)) (of_z w32 (at P j)) in
    subst (λ n. OwnEntries P j n n) s
    (equal_entries P j k h (sym (to_z-of_z fk) ∙ ap (to_z w32) (eqb-true (of_z w32 (at P k)) (of_z w32 (at P j)) (and_first same r e)) ∙ to_z-of_z fj)
    (rw (to_z-of_z fk) at (w (and_second same r e))))

-- place 0 has no neighbour
pub first_entries_lem : (P : List ℤ) (j k : ℕ) → j ≡ 0 → k ≡ no_place → OwnEntries P j k k
unfolding low_of high_of
first_entries_lem P j k e n =
    record {
      low_own = n ∙ of_none upward P j (λ i h. absurd (omega arith));
      high_own = n ∙ of_none (turned upward) P j (λ i h. absurd (omega arith));
    }

-- nothing lies between the limits of a low and of a high neighbour
pub between_entries : (P : List ℤ) (j l h : ℕ) {s s' : ℕ} {b a b' a' : ℤ} → Floor P j l s b a → Ceiling P j h s' b' a' → NoneBetween P j s b a s' b' a' → OwnEntries P j l h
unfolding low_of high_of
between_entries P j l h {s} {s'} {b} {a} {b'} {a'} f c n =
    record {
      low_own = f.own (λ i k t. let x = n.clear i k in (
        x.not_less,
        must_fail (le_z (limit_at s b a i) (at P i))
            (λ u. clash (le_z_trans (at P i) (at P j) (limit_at s' b' a' i) t (c.beside i)) (x.beyond u)),
      ));
      high_own = c.own (λ i k t. let x = n.clear i k in (x.not_greater, x.beyond (le_z_trans (limit_at s b a i) (at P j) (at P i) (f.beside i) t)));
    }

-- ---- the stretches before a place: up to the first neighbour, from one to the other, and after both

pub stretches : (P : List ℤ) (j low high : ℕ) (b a b' a' : ℤ) {first last : ℕ} → first ≡ min low high → last ≡ max low high
    → NoneWithin P 0 first b b' → NoneWithin P low high a b' → NoneWithin P high low b a' → NoneWithin P last j a a' → NoneBetween P j low b a high b' a'
stretches P j low high b a b' a' {first} {last} f l w x y z = record { clear = λ i k. go i k (ltb i low) (ltb i high) refl refl }
  where
    go : (i : ℕ) → i < j → (t s : Bool) → ltb i low ≡ t → ltb i high ≡ s → Outside (cond t b a) (cond s b' a') (at P i)
    go i k true true p q = let u : i < low = ltb-true i low p in let v : i < high = ltb-true i high q in w.clear i (omega arith) (omega arith)
    go i k true false p q = y.clear i (ltb-false i high q) (ltb-true i low p)
    go i k false true p q = x.clear i (ltb-false i low p) (ltb-true i high q)
    go i k false false p q = let u : low ≤ i = ltb-false i low p in let v : high ≤ i = ltb-false i high q in z.clear i (omega arith) k
