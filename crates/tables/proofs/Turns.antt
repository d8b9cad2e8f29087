-- Shows: the turns of the loop that writes the witness tables, one offset after the other.
-- Assumes nothing.
use mathlib.Core.Path.{◌≡◌, ◌∙◌, ap}
use mathlib.Core.List.{List, ◌++◌}
use Prim.Native.Nat.{ℕ, ◌+◌, ◌≤◌, ◌<◌}
use native.Mathlib.Nat.{le_antisymm}
use native.Mathlib.Omega.{arith}
use lib.IntN.{ℤ}
use lib.ListN.{length, drop, set, length-set}
use lib.Seq.{drop-set-lt}
use Rattle.order.specs.Sizes.{each, entry, no_place}
use Rattle.order.specs.Witnesses.{witness_i_of, witness_j_of, witness_i_table, witness_j_table}
use Rattle.order.specs.Written.{over}
use Rattle.tables.specs.Inside.Asked.{OwnWitness, OwnBelow, Stretched}
use Rattle.order.proofs.Filling.{Filled, filled-first, filled_more, filled_all, filled_at}
use Rattle.tables.proofs.Stretches.{stretch_none, first_offset}

-- before offset a: the offsets below it are written over what the tables held after offset 0 was, and the stretch is known
pub record Turn (P : List ℤ) (wi₀ wj₀ wi wj : List ℕ) (start end a : ℕ) : Type 0 where
  pub reach : a ≤ length P
  pub stretch : Stretched P a start end
  pub i_room : length P ≤ length wi₀
  pub j_room : length P ≤ length wj₀
  pub i_filled : Filled (λ k. entry (witness_i_of P k)) a wi₀ wi
  pub j_filled : Filled (λ k. entry (witness_j_of P k)) a wj₀ wj

pub turn-first : (P : List ℤ) (wi wj : List ℕ) → 0 < length P → length P ≤ length wi → length P ≤ length wj →
    Turn P (set wi 0 no_place) (set wj 0 no_place) (set wi 0 no_place) (set wj 0 no_place) 1 1 1
turn-first P wi wj some i j =
    record {
      reach = omega arith;
      stretch = stretch_none P some;
      i_room = rw length-set i;
      j_room = rw length-set j;
      i_filled = filled-first _ wi (first_offset P).neighbour (omega arith);
      j_filled = filled-first _ wj (first_offset P).failing (omega arith);
    }

module _ {P : List ℤ} {wi₀ wj₀ wi wj : List ℕ} {start end a : ℕ} (t : Turn P wi₀ wj₀ wi wj start end a) where
  pub turn-own : a < length P → OwnBelow P wi wj a
  turn-own h =
      record {
        inside = h;
        witness_i_room = rw t.i_filled.long t.i_room;
        witness_j_room = rw t.j_filled.long t.j_room;
        witness_i_own = λ k less. filled_at _ k 0 t.i_filled less;
        witness_j_own = λ k less. filled_at _ k 0 t.j_filled less;
      }

  pub turn_next : {i j start' end' : ℕ} → a < length P → OwnWitness P a i j → Stretched P (a + 1) start' end' →
      Turn P wi₀ wj₀ (set wi a i) (set wj a j) start' end' (a + 1)
  turn_next h w s =
      record {
        reach = omega arith;
        stretch = s;
        i_room = t.i_room;
        j_room = t.j_room;
        i_filled = filled_more _ t.i_filled (omega (arith, t.i_room)) w.neighbour;
        j_filled = filled_more _ t.j_filled (omega (arith, t.j_room)) w.failing;
      }

-- a store at entry 0 is written over
over_first : (f : ℕ → ℕ) (n v : ℕ) (before : List ℕ) → 0 < n → each f n ++ drop n (set before 0 v) ≡ each f n ++ drop n before
over_first f n v before h = ap (λ l. each f n ++ l) (drop-set-lt n before 0 v h)

filled-over : (f : ℕ → ℕ) (n v : ℕ) (before out : List ℕ) → 0 < n → Filled f n (set before 0 v) out → out ≡ over (each f n) before
filled-over f n v before out h w =
    filled_all f (record { long = w.long ∙ length-set before 0 v; holds = w.holds ∙ over_first f n v before h })

pub turn_last : (P : List ℤ) (wi wj wi' wj' : List ℕ) (start end a v u : ℕ) → Turn P (set wi 0 v) (set wj 0 u) wi' wj' start end a →
    0 < length P → length P ≤ a → (wi' ≡ over (witness_i_table P) wi) × (wj' ≡ over (witness_j_table P) wj)
unfolding witness_i_table witness_j_table
turn_last P wi wj wi' wj' start end a v u t some h =
    (filled-over _ (length P) v wi wi' some (rw done at t.i_filled), filled-over _ (length P) u wj wj' some (rw done at t.j_filled))
  where
    done : a ≡ length P
    done = le_antisymm t.reach h
