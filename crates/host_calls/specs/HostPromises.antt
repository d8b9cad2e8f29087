-- What the two entry points promise, of the samples in a pattern's bytes and of all other bytes themselves: the number returned, and every
-- byte of every buffer after the call. `after_verdict` writes over a buffer from byte 0 on if the call is accepted, and otherwise leaves it as it was.
use Rattle.std.specs.Prelude.{ℕ, ◌/◌, ◌≡◌, List, ℤ, length, take}
use Rattle.order.specs.Sizes.{windows_of}
use Rattle.order.specs.Neighbours.{low_table, high_table}
use Rattle.order.specs.Witnesses.{witness_i_table, witness_j_table}
use Rattle.order.specs.Duels.{survivors}
use Rattle.order.specs.Sweeping.{positions}
use Rattle.order.specs.Written.{counts_of, filled}
use Rattle.order.specs.Demands.{Demands}
use Rattle.order.specs.Refusals.{Verdict, prepare_verdict, search_verdict}
use Rattle.order.specs.Written.{after_verdict}
use Rattle.words.specs.Bytes.{samples_in, entries_in, words_in, bytes_of}
use Rattle.host_answers.specs.Results.{result_of, counts_list}

-- the verdict on the pattern, and on the numbers of whole entries
abbrev pub prepare_case : List ℤ → List ℕ → List ℕ → List ℕ → List ℕ → Verdict
prepare_case P low high wi wj = prepare_verdict P (length low / 2) (length high / 2) (length wi / 2) (length wj / 2)

-- preparation of the pattern P, with tables that hold these bytes: the result r, and the tables' bytes after it
pub record HostPrepare (P : List ℤ) (low high wi wj : List ℕ) (r : ℕ) (low' high' wi' wj' : List ℕ) : Type 0 where
  pub result : r ≡ result_of (prepare_case P low high wi wj)
  pub low_after : low' ≡ after_verdict (prepare_case P low high wi wj) (bytes_of 2 (low_table P)) low
  pub high_after : high' ≡ after_verdict (prepare_case P low high wi wj) (bytes_of 2 (high_table P)) high
  pub witness_i_after : wi' ≡ after_verdict (prepare_case P low high wi wj) (bytes_of 2 (witness_i_table P)) wi
  pub witness_j_after : wj' ≡ after_verdict (prepare_case P low high wi wj) (bytes_of 2 (witness_j_table P)) wj

-- the verdict on the pattern and the entries, and on the numbers of whole entries that the two buffers have
abbrev pub search_case : List ℤ → List ℕ → List ℕ → List ℕ → List ℕ → List ℕ → List ℕ → List ℕ → Verdict
search_case P low high wi wj trace kept listed =
    search_verdict P (entries_in low) (entries_in high) (entries_in wi) (entries_in wj) (samples_in trace) (length kept / 4) (length listed / 4)

-- the bytes that an accepted search writes: each window's entry of survivors and of positions, and as many counts as there is
-- room for
abbrev pub kept_bytes : List ℤ → List ℤ → List ℕ
kept_bytes P T = bytes_of 4 (filled (survivors P T) (windows_of (length P) (length T)))

abbrev pub listed_bytes : List ℤ → List ℤ → List ℕ
listed_bytes P T = bytes_of 4 (filled (positions P T) (windows_of (length P) (length T)))

abbrev pub count_bytes : List ℤ → List ℤ → ℕ → List ℕ
count_bytes P T room = bytes_of 4 (take room (counts_list (counts_of P T)))

-- what the host reads from its buffers after that, in entries of four bytes: S survivors and R positions
abbrev pub kept_read : List ℤ → List ℤ → List ℕ → List ℕ
kept_read P T bytes = take (counts_of P T).survivors (words_in bytes)

abbrev pub listed_read : List ℤ → List ℤ → List ℕ → List ℕ
listed_read P T bytes = take (counts_of P T).found (words_in bytes)

-- a search by the pattern P and the bytes of its tables and of a trace, with buffers that hold kept, listed and counts: the result r, and
-- the buffers' bytes after it. A reader finds the three demands here: result and bytes are fixed for every input, refused ones too
-- (demand 1), and an accepted search meets `Demands` (2 and 3), said of the numbers that the host reads from its buffers
pub record HostSearch (P : List ℤ) (low high wi wj trace kept listed counts : List ℕ) (r : ℕ) (kept' listed' counts' : List ℕ) : Type 0 where
  pub result : r ≡ result_of (search_case P low high wi wj trace kept listed)
  pub survivors_after : kept' ≡ after_verdict (search_case P low high wi wj trace kept listed) (kept_bytes P (samples_in trace)) kept
  pub positions_after : listed' ≡ after_verdict (search_case P low high wi wj trace kept listed) (listed_bytes P (samples_in trace)) listed
  pub counts_after : counts' ≡ after_verdict (search_case P low high wi wj trace kept listed) (count_bytes P (samples_in trace) (length counts / 4)) counts
  -- accepted, which the host sees by a result of 0: the counts that it reads are N, D, S, W, R and the number struck, as many of them as there is room for
  pub counts_read : r ≡ 0 → take 6 (words_in counts') ≡ take (length counts / 4) (counts_list (counts_of P (samples_in trace)))
  -- demands 2 and 3, of these counts and of the survivors and positions that it reads
  pub demands : r ≡ 0
      → Demands P (samples_in trace) (kept_read P (samples_in trace) kept') (listed_read P (samples_in trace) listed') (counts_of P (samples_in trace))
