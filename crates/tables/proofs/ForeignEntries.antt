-- Shows: the lowest entry at which a table differs from what preparation would write is where it is refused; two halves in turn are the
-- row of the four tables; and tables that nothing refuses are the pattern's own.
-- Assumes nothing.
use Prim.Native.Nat.{ℕ, ◌≤◌, ◌<◌}
use mathlib.Core.Path.{◌≡◌, refl, sym, ◌∙◌, ap, ap₂, subst}
use mathlib.Core.List.{List}
use mathlib.Core.Bool.{Bool, true, false, cond, not}
use native.Mathlib.Omega.{arith}
use lib.Dec.{ltb, eqb}
use lib.IntN.{ℤ}
use lib.ListN.{length, length-take, get_or, take}
use Rattle.std.proofs.Common.{get_or-take}
use Rattle.std.specs.List.{position_or_len}
use Rattle.std.specs.Prelude.{Result, Option, Some, None, position, zip}
use borrow.Author.Tests.{ltb-true, ltb-false, eq-eqb, ne_eqb, eqb-true, not-true, not-false}
use Rattle.std.proofs.lemmas.List.Sums.{prefix_len_passes, prefix_len_stops}
use Rattle.std.proofs.lemmas.Slice.Zip.{get_or-zip, length-zip}
use Rattle.order.specs.declared.refusal.Table.{Table}
use Rattle.order.specs.declared.refusal.Table.TheVariants.{Low, High, WitnessI, WitnessJ}
use Rattle.order.specs.declared.refusal.Refusal.{Refusal}
use Rattle.order.specs.declared.refusal.Refusal.TheVariants.{ForeignEntry}
use Rattle.order.specs.Sizes.{Spot, none, place, entry, each, lowest, pattern_limit}
use Rattle.order.specs.Neighbours.{low_of, high_of, low_table, high_table}
use Rattle.order.specs.Witnesses.{witness_i_of, witness_j_of, witness_i_table, witness_j_table}
use Rattle.order.specs.Refusals.{accepted, refuse_at, foreign_at, own_verdict}
use Rattle.order.specs.Written.{over}
use Rattle.order.proofs.Tests.{clash}
use Rattle.order.proofs.Lists.{Finds, finds_lowest, lowest_finds}
use Rattle.order.proofs.Filling.{over_at}
use Rattle.order.proofs.Rows.{Row, refuse_at_row, then_row, row_passes, row_refuses, passed_at}
use Rattle.order.specs.Answers.{answer_by}
use Rattle.order.proofs.Answered.{done, unmet, ok_accepted, err_refused}
use Rattle.tables.specs.Inside.Asked.{OwnNeighbours}
use Rattle.tables.specs.Inside.Halves.{differing, spot_of, in_turn, neighbours_half, witnesses_half}

-- ---- the first place of a list

module _ (p : (ℕ × ℕ) → Bool) (xs : List (ℕ × ℕ)) where
  position_finds : Finds (λ k. p (get_or xs k (0, 0))) (length xs) (spot_of (position p xs))
  position_finds = go (ltb (position_or_len p xs) (length xs)) refl
    where
      before : (k : ℕ) → k < position_or_len p xs → p (get_or xs k (0, 0)) ≡ false
      before k h = not-true (p (get_or xs k (0, 0))) (prefix_len_passes (λ x. not (p x)) xs k (0, 0) h)

      go : (t : Bool) → ltb (position_or_len p xs) (length xs) ≡ t → Finds (λ k. p (get_or xs k (0, 0))) (length xs) (spot_of (cond t (Some (position_or_len p xs)) None))
      go true e =
          let h : position_or_len p xs < length xs = ltb-true (position_or_len p xs) (length xs) e in
          record {
            below = h;
            here = not-false (p (get_or xs (position_or_len p xs) (0, 0))) (prefix_len_stops (λ x. not (p x)) xs (0, 0) h);
            earlier = before;
          }
      go false e = λ k h. let g : length xs ≤ position_or_len p xs = ltb-false (position_or_len p xs) (length xs) e in before k (omega arith)

finds_same : {p q : ℕ → Bool} {n : ℕ} → ((k : ℕ) → k < n → p k ≡ q k) → (s : Spot) → Finds p n s → Finds q n s
finds_same f none g = λ k h. sym (f k h) ∙ g k h
finds_same f (place j) g = let b = g.below in record { below = b; here = sym (f j b) ∙ g.here; earlier = λ k h. sym (f k (omega arith)) ∙ g.earlier k h }

-- ---- one table

module _ (table : List ℕ) (own : ℕ → Spot) where
  same_passes : (k : ℕ) → get_or table k 0 ≡ entry (own k) → foreign_at table own k ≡ false
  unfolding foreign_at
  same_passes k e = rw (eq-eqb (get_or table k 0) (entry (own k)) e) refl

  other_fails : (k : ℕ) → (get_or table k 0 ≡ entry (own k) → ⊥) → foreign_at table own k ≡ true
  unfolding foreign_at
  other_fails k f = rw (ne_eqb (get_or table k 0) (entry (own k)) f) refl

  passes_same : (k : ℕ) → foreign_at table own k ≡ false → get_or table k 0 ≡ entry (own k)
  unfolding foreign_at
  passes_same k e = go (eqb (get_or table k 0) (entry (own k))) refl e
    where
      go : (t : Bool) → eqb (get_or table k 0) (entry (own k)) ≡ t → not t ≡ false → get_or table k 0 ≡ entry (own k)
      go true q r = eqb-true (get_or table k 0) (entry (own k)) q
      go false q r = clash refl r

  -- a table with no foreign entry below m
  all_own : (m : ℕ) → lowest (foreign_at table own) m ≡ none → (k : ℕ) → k < m → get_or table k 0 ≡ entry (own k)
  all_own m e k h = passes_same k (subst (Finds (foreign_at table own) m) e (lowest_finds (foreign_at table own) m) k h)

  none_foreign : (m : ℕ) → ((k : ℕ) → k < m → get_or table k 0 ≡ entry (own k)) → lowest (foreign_at table own) m ≡ none
  none_foreign m f = finds_lowest (foreign_at table own) m none (λ k h. same_passes k (f k h))

  -- what is written over a buffer, and where the table differs from that
  module _ {m : ℕ} {mine : List ℕ} (room : m ≤ length table) (buffer : List ℕ) (w : mine ≡ over (each (λ k. entry (own k)) m) buffer) where
    there : (k : ℕ) → k < m → get_or mine k 0 ≡ entry (own k)
    there k h = ap (λ v. get_or v k 0) w ∙ over_at (λ k. entry (own k)) k 0 buffer h

    -- at an entry below m the two are compared
    compared : m ≤ length mine → (k : ℕ) → k < m → differing (get_or (zip (take m table) (take m mine)) k (0, 0)) ≡ foreign_at table own k
    unfolding foreign_at
    compared long k h =
        let inside : k < length (take m table) = omega (arith, length-take m table) in
        let low : k < length (take m mine) = omega (arith, length-take m mine) in
        ap differing (get_or-zip (take m table) (take m mine) k (0, 0) inside low) ∙
        ap₂ (λ (a b : ℕ). not (eqb a b)) (get_or-take m table k 0 h) (get_or-take m mine k 0 h ∙ there k h)

    found_foreign : m ≤ length mine → {r : Option ℕ} → r ≡ position differing (zip (take m table) (take m mine)) → lowest (foreign_at table own) m ≡ spot_of r
    found_foreign long {r} e =
        let size : length (zip (take m table) (take m mine)) ≡ m = omega (arith, length-zip (take m table) (take m mine), length-take m table, length-take m mine) in
        finds_lowest (foreign_at table own) m (spot_of r)
        (finds_same (compared long) (spot_of r)
        (subst (λ (o : Option ℕ). Finds (λ k. differing (get_or (zip (take m table) (take m mine)) k (0, 0))) m (spot_of o)) (sym e)
        (subst (λ (n : ℕ). Finds (λ k. differing (get_or (zip (take m table) (take m mine)) k (0, 0))) n (spot_of (position differing (zip (take m table) (take m mine))))) size
        (position_finds differing (zip (take m table) (take m mine))))))

-- ---- the halves

in_turn_row : (t : Table) (a : Spot) (u : Table) (b : Spot) → Row (in_turn t a u b)
in_turn_row t a u b = then_row (refuse_at a (ForeignEntry t)) (refuse_at b (ForeignEntry u)) (refuse_at_row a (ForeignEntry t)) (refuse_at_row b (ForeignEntry u))

module _ (P : List ℤ) (low high : List ℕ) where
  -- by the neighbours written over two buffers
  pub against-neighbours : (l h : List ℕ) {low' high' : List ℕ} {c : Result (Unit {0}) Refusal}
      → (low' ≡ over (low_table P) l) × (high' ≡ over (high_table P) h)
      → length P ≤ length low → length P ≤ length high → length P ≤ length low' → length P ≤ length high'
      → c ≡ answer_by (in_turn Low (spot_of (position differing (zip (take (length P) low) (take (length P) low')))) High (spot_of (position differing (zip (take (length P) high) (take (length P) high')))) accepted) tt
      → c ≡ answer_by (neighbours_half P low high accepted) tt
  unfolding low_table high_table neighbours_half
  against-neighbours l h w x y x' y' e = e ∙ sym (rw (found_foreign low (low_of P) x l w.0 x' refl, found_foreign high (high_of P) y h w.1 y' refl) refl)

  -- neighbours that are the pattern's own are passed, and those that are passed are the pattern's own
  pub own_pass : OwnNeighbours P low high → done ≡ answer_by (neighbours_half P low high accepted) tt
  unfolding neighbours_half
  own_pass o = sym (rw (none_foreign low (low_of P) (length P) o.low_own, none_foreign high (high_of P) (length P) o.high_own) refl)

  pub passed_own : length P ≤ pattern_limit → length P ≤ length low → length P ≤ length high → done ≡ answer_by (neighbours_half P low high accepted) tt → OwnNeighbours P low high
  unfolding neighbours_half
  passed_own limit l h e =
      let a = passed_at (lowest (foreign_at low (low_of P)) (length P)) (ForeignEntry Low) _ (ok_accepted (neighbours_half P low high accepted) tt e).0 in
      let b = passed_at (lowest (foreign_at high (high_of P)) (length P)) (ForeignEntry High) accepted a.1 in
      record {
        limit = limit;
        low_room = l;
        high_room = h;
        low_own = all_own low (low_of P) (length P) a.0;
        high_own = all_own high (high_of P) (length P) b.0;
      }

  neighbours_row : Row (neighbours_half P low high)
  unfolding neighbours_half
  neighbours_row = in_turn_row Low (lowest (foreign_at low (low_of P)) (length P)) High (lowest (foreign_at high (high_of P)) (length P))

module _ (P : List ℤ) (wi wj : List ℕ) where
  -- by the witnesses written over two buffers
  pub against-witnesses : (i j : List ℕ) {wi' wj' : List ℕ} {c : Result (Unit {0}) Refusal}
      → (wi' ≡ over (witness_i_table P) i) × (wj' ≡ over (witness_j_table P) j)
      → length P ≤ length wi → length P ≤ length wj → length P ≤ length wi' → length P ≤ length wj'
      → c ≡ answer_by (in_turn WitnessI (spot_of (position differing (zip (take (length P) wi) (take (length P) wi')))) WitnessJ (spot_of (position differing (zip (take (length P) wj) (take (length P) wj')))) accepted) tt
      → c ≡ answer_by (witnesses_half P wi wj accepted) tt
  unfolding witness_i_table witness_j_table witnesses_half
  against-witnesses i j w x y x' y' e = e ∙ sym (rw (found_foreign wi (witness_i_of P) x i w.0 x' refl, found_foreign wj (witness_j_of P) y j w.1 y' refl) refl)

-- ---- the row of four

module _ (P : List ℤ) (low high wi wj : List ℕ) where
  both_halves : own_verdict P low high wi wj ≡ neighbours_half P low high (witnesses_half P wi wj accepted)
  unfolding own_verdict neighbours_half witnesses_half
  both_halves = refl

  pub neighbours_decide : {why : Refusal} → unmet why ≡ answer_by (neighbours_half P low high accepted) tt → unmet why ≡ answer_by (own_verdict P low high wi wj) tt
  neighbours_decide e =
      sym (ap (λ v. answer_by v tt) (both_halves ∙ row_refuses (neighbours_half P low high) (neighbours_row P low high) (err_refused (neighbours_half P low high accepted) tt e) (witnesses_half P wi wj accepted)))

  pub witnesses_decide : {c : Result (Unit {0}) Refusal} → done ≡ answer_by (neighbours_half P low high accepted) tt
      → c ≡ answer_by (witnesses_half P wi wj accepted) tt → c ≡ answer_by (own_verdict P low high wi wj) tt
  witnesses_decide e g =
      g ∙ sym (ap (λ v. answer_by v tt) (both_halves ∙ row_passes (neighbours_half P low high) (neighbours_row P low high) (ok_accepted (neighbours_half P low high accepted) tt e).0 (witnesses_half P wi wj accepted)))

  abbrev pub Own : List ℕ → (ℕ → Spot) → Type 0
  Own table own = (k : ℕ) → k < length P → get_or table k 0 ≡ entry (own k)

  pub accepted-own : own_verdict P low high wi wj ≡ accepted → Own low (low_of P) × Own high (high_of P) × Own wi (witness_i_of P) × Own wj (witness_j_of P)
  unfolding own_verdict
  accepted-own e =
      let a = passed_at (lowest (foreign_at low (low_of P)) (length P)) (ForeignEntry Low) _ e in
      let b = passed_at (lowest (foreign_at high (high_of P)) (length P)) (ForeignEntry High) _ a.1 in
      let c = passed_at (lowest (foreign_at wi (witness_i_of P)) (length P)) (ForeignEntry WitnessI) _ b.1 in
      let d = passed_at (lowest (foreign_at wj (witness_j_of P)) (length P)) (ForeignEntry WitnessJ) accepted c.1 in
      (all_own low (low_of P) (length P) a.0, all_own high (high_of P) (length P) b.0, all_own wi (witness_i_of P) (length P) c.0, all_own wj (witness_j_of P) (length P) d.0)
