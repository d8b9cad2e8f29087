-- Shows: what levels are as samples, which are never lost stitches, so that lengths alone decide whether they are accepted.
-- Assumes nothing.
use Prim.Native.Nat.{ℕ, ◌≤◌, ◌<◌}
use mathlib.Core.Path.{◌≡◌, refl, sym, ◌∙◌, ap}
use mathlib.Core.List.{List, map}
use mathlib.Core.Bool.{false}
use native.Mathlib.Omega.{arith}
use lib.IntN.{pos}
use lib.ListN.{length, get_or}
use borrow.Author.Tests.{le-ltb, ne_eqb}
use Rattle.std.proofs.lemmas.List.{ext_get_or, length-map, get_or-map}
use Rattle.order.specs.Sizes.{none, at, pattern_limit}
use Rattle.order.specs.Relations.{rel}
use Rattle.order.specs.Lost.{is_lost, first_lost_lem}
use Rattle.order.specs.Refusals.{accepted, pattern_verdict, stitches_verdict, witnesses_verdict, tables_verdict, prepare_verdict}
use Rattle.order.proofs.Lists.{length-each, get_or-each}
use Rattle.order.proofs.LostStitches.{found_first}
use Rattle.levels.specs.Levels.{levels}

pub level_found : (n : ℕ) → is_lost (pos n) ≡ false
unfolding is_lost rel
level_found n = refl

module _ (Q : List ℕ) (m : ℕ) where
  pub length-levels : length (levels Q m) ≡ m
  unfolding levels
  length-levels = length-each (λ j. pos (get_or Q j 0)) m

  pub at_levels : (i : ℕ) → i < m → at (levels Q m) i ≡ pos (get_or Q i 0)
  unfolding levels
  at_levels i h = get_or-each (λ j. pos (get_or Q j 0)) m i (pos 0) h

  pub none_lost : first_lost_lem (levels Q m) ≡ none
  none_lost = found_first (levels Q m) none (λ i h. ap is_lost (at_levels i (rw length-levels at h)) ∙ level_found (get_or Q i 0))

  -- refusal 21 never comes
  pub levels_verdict : (low high : ℕ) → prepare_verdict (levels Q m) low high (length (levels Q m)) (length (levels Q m)) ≡ pattern_verdict m (tables_verdict m low high m m accepted)
  unfolding prepare_verdict stitches_verdict
  levels_verdict low high = rw (none_lost, length-levels) refl

  pub levels-accepted : (low high : ℕ) → 0 < m → m ≤ pattern_limit → m ≤ low → m ≤ high → prepare_verdict (levels Q m) low high (length (levels Q m)) (length (levels Q m)) ≡ accepted
  unfolding pattern_verdict tables_verdict witnesses_verdict
  levels-accepted low high some limit l h =
      levels_verdict low high ∙
      rw (ne_eqb m 0 (λ z. omega arith), le-ltb pattern_limit m limit, le-ltb low m l, le-ltb high m h, le-ltb m m (omega arith)) refl

-- the levels of a whole list
pub all_levels : (Q : List ℕ) → map pos Q ≡ levels Q (length Q)
all_levels Q =
    ext_get_or (pos 0) (map pos Q) (levels Q (length Q)) (length-map Q pos ∙ sym (length-levels Q (length Q)))
    (λ i h. let k : i < length Q = rw length-map at h in get_or-map pos Q i 0 (pos 0) k ∙ sym (at_levels Q (length Q) i k))
