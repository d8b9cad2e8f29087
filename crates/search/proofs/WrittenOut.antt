-- Shows: the sweep's list, with "unused" behind it, is what the rules write; so with what the duels leave, a search that was checked meets
-- its promise.
-- Assumes nothing.
use Prim.Native.Nat.{ℕ, ◌+◌, ◌-◌, ◌≤◌}
use mathlib.Core.Path.{◌≡◌, refl, sym, ◌∙◌, ap, ap₂, subst}
use mathlib.Core.List.{List, ◌++◌}
use native.Mathlib.Omega.{arith}
use lib.IntN.{ℤ}
use lib.ListN.{length, take, drop, replicate, length-append}
use lib.Seq.{take_at, take-length, length-take-le, drop-drop}
use Rattle.order.specs.Sizes.{unused, trace_limit, windows_of}
use Rattle.order.specs.Duels.{survivors}
use Rattle.order.specs.Sweeping.{sweep_cost, positions}
use Rattle.order.specs.Written.{counts_of, over, filled}
use Rattle.order.proofs.Dueling.{duels-and-survivors}
use Rattle.order.proofs.SweepLaws.{sweep_fails, sweep_lists_same}
use Rattle.lists.proofs.FilledUp.{filled-over, written_out}
use Rattle.duels.specs.declared.answers.Duelled.{Duelled}
use Rattle.search.specs.Inside.Sweeps.{SweepOf}
use Rattle.search.specs.Inside.Asked.{Kept, SurvivorsOf, SearchedOf}

-- ---- the sweep

-- what the sweep leaves, written out
pub record PositionsOf (P T : List ℤ) (before after : List ℕ) (spent found : ℕ) : Type 0 where
  pub spent_is : spent ≡ sweep_cost P T
  pub number : found ≡ length (positions P T)
  pub written : after ≡ over (filled (positions P T) (windows_of (length P) (length T))) before

pub found_number : {P T : List ℤ} {kept : ℕ} {before after : List ℕ} {spent wasted found : ℕ} → SweepOf P T kept before after spent wasted found → found ≤ length after → found ≡ length (positions P T)
found_number {after = after} {found = found} s h = sym (length-take-le found after h) ∙ ap length s.listed

-- entries that a shorter front leaves, a longer one leaves too
drop_further : (a b : List ℕ) (k n : ℕ) → k ≤ n → drop k a ≡ drop k b → drop n a ≡ drop n b
drop_further a b k n h e =
    let more : k + (n - k) ≡ n = omega arith in
    ap (λ j. drop j a) (sym more) ∙ sym (drop-drop (n - k) k a) ∙ ap (drop (n - k)) e ∙ drop-drop (n - k) k b ∙ ap (λ j. drop j b) more

pub positions_out : {P T : List ℤ} {kept windows : ℕ} {before after end : List ℕ} {spent wasted found : ℕ} → SweepOf P T kept before after spent wasted found
    → windows ≡ windows_of (length P) (length T) → windows ≤ length before → kept ≤ windows
    → end ≡ take found after ++ (replicate (windows - found) unused ++ drop windows after) → PositionsOf P T before end spent found
positions_out {P} {T} {kept} {windows} {before} {after} {end} {spent} {wasted} {found} s e h k w =
    let f = s.few in
    let l = s.same_length in
    let n = found_number s (omega arith) in
    record {
      spent_is = s.cost_is;
      number = n;
      written = subst (λ (j : ℕ). end ≡ over (filled (positions P T) j) before) e
          (written_out (positions P T) before after found windows s.listed n (omega arith) (drop_further after before kept windows k s.beyond) w);
    }

-- ---- the two together

-- the survivors in the buffer that the duels leave
pub survivors-held : {P T : List ℤ} {before after : List ℕ} {d : Duelled} → SurvivorsOf P T before after d → windows_of (length P) (length T) ≤ length before
    → (take d.kept after ≡ survivors P T) × (d.kept ≤ length after) × (d.kept ≤ windows_of (length P) (length T))
survivors-held {P} {T} {before} {after} s h =
    let d = duels-and-survivors P T in
    let n = s.number in
    let few : length (survivors P T) ≤ windows_of (length P) (length T) = omega arith in
    let w = s.written ∙ filled-over (survivors P T) before (windows_of (length P) (length T)) few in
    let long : length (survivors P T) ≤ length after = rw (w, length-append) (omega arith) in
    (ap₂ take n w ∙ take_at (survivors P T) _ (length (survivors P T)) refl, (omega arith), (omega arith))

-- the survivors as a list of their own
pub kept_rows : {P T : List ℤ} (buffer : List ℕ) (kept : ℕ) → length T ≤ trace_limit → take kept buffer ≡ survivors P T → Kept P T (take kept buffer) (length (take kept buffer))
kept_rows buffer kept t h = record { trace = t; held = take-length (take kept buffer) ∙ h; kept_long = omega arith }

pub searched : {P T : List ℤ} {kept listed kept' listed' : List ℕ} {windows spent found : ℕ} {d : Duelled} → windows ≡ windows_of (length P) (length T)
    → SurvivorsOf P T kept kept' d → PositionsOf P T listed listed' spent found
    → SearchedOf P T kept listed kept' listed' (record { windows = windows; duels = d.fought; survivors = d.kept; sweep = spent; found = found; struck = d.struck })
unfolding counts_of
searched e s p =
    record {
      counts = rw (e, s.fought_is, s.number, s.struck_is, p.spent_is, p.number) refl;
      survivors_written = s.written;
      positions_written = p.written;
    }

-- the positions are at most as many as the windows
pub positions-few : (P T : List ℤ) → length (positions P T) ≤ windows_of (length P) (length T)
positions-few P T =
    let a = sweep_fails P T in
    let b = ap length (sweep_lists_same P T) in
    let c = duels-and-survivors P T in
    omega arith
