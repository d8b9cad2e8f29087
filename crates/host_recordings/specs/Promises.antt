-- What the two calls promise: the number returned, and what every buffer and every number lent holds after the call, accepted or
-- refused.
use Rattle.std.specs.Prelude.{ℕ, ◌≡◌, List, ℤ, length, take}
use Rattle.order.specs.Recordings.{sample_count, first_sample, samples_of}
use Rattle.order.specs.Refusals.{read_verdict, write_verdict}
use Rattle.order.specs.Written.{after_verdict}
use Rattle.recording.specs.Recorded.{new_length, after_writing}
use Rattle.recording.specs.Promises.{PointsBack, ReadsBack}
use Rattle.host_answers.specs.Results.{result_of, number_after}

-- reading the bytes bs into a buffer that holds `samples`, with two lent numbers: the result r, and what these hold after it
pub record HostRead (bs : List ℕ) (samples : List ℤ) (count first r : ℕ) (samples' : List ℤ) (count' first' : ℕ) : Type 0 where
  pub result : r ≡ result_of (read_verdict bs (length samples))
  pub samples_after : samples' ≡ after_verdict (read_verdict bs (length samples)) (samples_of bs) samples
  pub count_after : count' ≡ number_after (read_verdict bs (length samples)) (sample_count bs) count
  pub first_after : first' ≡ number_after (read_verdict bs (length samples)) (first_sample bs) first
  -- accepted, which the host sees by a result of 0: the samples are those that the trailer points back to
  pub pointed : r ≡ 0 → PointsBack bs count' first' samples'

-- writing samples into a buffer that holds `before`, its first k bytes in use, with a lent number: the result r, and what buffer and
-- number hold after it
pub record HostWrite (before : List ℕ) (k : ℕ) (samples : List ℤ) (end r : ℕ) (after : List ℕ) (end' : ℕ) : Type 0 where
  pub result : r ≡ result_of (write_verdict (length before) k (length samples))
  pub bytes_after : after ≡ after_writing (write_verdict (length before) k (length samples)) before k samples
  pub length_after : end' ≡ number_after (write_verdict (length before) k (length samples)) (new_length k samples) end
  -- accepted, which the host sees by a result of 0: the bytes up to the new length are read back as the samples, at place k
  pub read_back : r ≡ 0 → ReadsBack (take end' after) k samples
