-- Shows: of a trace within the limit every window and every count is a number that four bytes hold, so that the host reads the
-- rules' own from its buffers after an accepted search, and they meet the demands.
-- Assumes nothing.
use Prim.Native.Nat.{ℕ, ◌/◌, ◌≤◌}
use mathlib.Core.Path.{◌≡◌, sym, subst₂}
use mathlib.Core.List.{List}
use native.Mathlib.Omega.{arith}
use lib.IntN.{ℤ}
use lib.ListN.{length, take}
use Rattle.order.specs.Sizes.{trace_limit, windows_of}
use Rattle.order.specs.Duels.{survivors}
use Rattle.order.specs.Sweeping.{positions}
use Rattle.order.specs.Written.{counts_of, over}
use Rattle.order.specs.Demands.{Demands}
use Rattle.order.proofs.Lists.{windows_of_as}
use Rattle.order.proofs.Dueling.{survivors-below, duels-and-survivors}
use Rattle.order.proofs.SweepLaws.{sweep_cost_lem}
use Rattle.order.proofs.Whole.{demands_hold}
use Rattle.search.proofs.WrittenOut.{positions-few}
use Rattle.words.specs.Bytes.{words_in}
use Rattle.host_answers.specs.Results.{counts_list}
use Rattle.words.proofs.ReadBack.{Words, words_below, words_first, words_back}
use Rattle.host_calls.specs.HostPromises.{kept_bytes, listed_bytes, count_bytes, kept_read, listed_read}

module _ (P T : List ℤ) (limit : length T ≤ trace_limit) where
  few : windows_of (length P) (length T) ≤ 65537
  few = omega (arith, windows_of_as (length P) (length T))

  kept_words : Words (survivors P T)
  kept_words = words_below (windows_of (length P) (length T)) (survivors P T) (omega (arith, few)) (survivors-below P T)

  listed_words : Words (positions P T)
  listed_words = words_below (windows_of (length P) (length T)) (positions P T) (omega (arith, few)) (λ x h. (((demands_hold P T).each_listed x).0 h).0)

  count_words : Words (counts_list (counts_of P T))
  unfolding counts_of
  count_words =
      let n = few in
      let d = duels-and-survivors P T in
      let w = sweep_cost_lem P T in
      let f = positions-few P T in
      (omega arith, (omega arith, (omega arith, (omega arith, (omega arith, (omega arith, tt))))))

  -- ---- what is read is the rules'

  pub counts-back : (counts : List ℕ) → take 6 (words_in (over (count_bytes P T (length counts / 4)) counts)) ≡ take (length counts / 4) (counts_list (counts_of P T))
  counts-back counts = words_back (counts_list (counts_of P T)) counts count_words

  pub demands-back : (kept listed : List ℕ)
      → Demands P T (kept_read P T (over (kept_bytes P T) kept)) (listed_read P T (over (listed_bytes P T) listed)) (counts_of P T)
  unfolding counts_of
  demands-back kept listed =
      subst₂ (λ (k l : List ℕ). Demands P T k l (counts_of P T))
      (sym (words_first (survivors P T) _ kept kept_words)) (sym (words_first (positions P T) _ listed listed_words))
      (demands_hold P T)
