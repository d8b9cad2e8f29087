-- What the look at a frame's sizes promises: refusals 22 to 26, and the rows and columns at which the patch is tried. And what sizes that
-- are accepted tell.
use Rattle.std.specs.Prelude.{ℕ, Result, ◌*◌, ◌≤◌, ◌<◌, ◌≡◌}
use Rattle.order.specs.declared.refusal.Refusal.{Refusal}
use Rattle.order.specs.Sizes.{windows_of}
use Rattle.order.specs.Refusals.{verdict_number, verdict_place}
use Rattle.order.specs.Answers.{answer_number, answer_place, answer_by}
use Rattle.frame_sizes.specs.declared.Tries.{Tries}
use Rattle.frame_sizes.specs.FrameSizes.{frame_limit, patch_limit, samples_needed, places_of, frame_verdict}

-- at how many rows and columns a patch of h rows and k columns is tried
abbrev pub tries_of : ℕ → ℕ → ℕ → ℕ → Tries
tries_of height width h k = record { rows = windows_of h height; columns = windows_of k width }

pub record TriesPromise (samples height width pitch patch h k positions : ℕ) (r : Result Tries Refusal) : Type 0 where
  pub number : answer_number r ≡ verdict_number (frame_verdict samples height width pitch patch h k positions)
  pub place : answer_place r ≡ verdict_place (frame_verdict samples height width pitch patch h k positions)
  -- the rows and the columns, or the refusal
  pub answer : r ≡ answer_by (frame_verdict samples height width pitch patch h k positions) (tries_of height width h k)

-- what accepted sizes tell
pub record SizesFit (samples height width pitch patch h k positions : ℕ) : Type 0 where
  pub some_width : 0 < width
  pub some_rows : 0 < h
  pub some_columns : 0 < k
  pub height_bound : height ≤ frame_limit
  pub width_bound : width ≤ frame_limit
  pub patch_bound : h * k ≤ patch_limit
  pub wide_pitch : width ≤ pitch
  pub samples_there : samples_needed height width pitch ≤ samples
  pub patch_there : h * k ≤ patch
  pub room : places_of height width h k ≤ positions
