-- What the call promises: the number returned, and what positions and every number lent hold after the call, accepted or refused.
use Rattle.std.specs.Prelude.{ℕ, ◌+◌, ◌*◌, ◌<◌, ◌≡◌, ◌↔◌, length, take}
use mathlib.Core.List.{List, Memᴰ}
use Rattle.order.specs.Sizes.{windows_of}
use Rattle.order.specs.Isomorphic.{Iso}
use Rattle.order.specs.Written.{filled, after_verdict}
use Rattle.levels.specs.Levels.{levels}
use Rattle.frame_sizes.specs.FrameSizes.{places_of}
use Rattle.frames.specs.Frames.{under, places_listed}
use Rattle.frames.specs.FramePromise.{buffers_verdict}
use Rattle.host_answers.specs.Results.{result_of, number_after}

-- the patch Q of h rows and k columns is sought in the frame F, with a positions buffer that holds `before` and two lent numbers: the result
-- r, and what these hold after it
pub record HostFrame (F : List ℕ) (height width pitch : ℕ) (Q : List ℕ) (h k : ℕ) (before : List ℕ) (places found r : ℕ) (after : List ℕ) (places' found' : ℕ) : Type 0 where
  pub result : r ≡ result_of (buffers_verdict F height width pitch Q h k before)
  pub positions_after : after ≡ after_verdict (buffers_verdict F height width pitch Q h k before) (filled (places_listed F height width pitch Q h k) (places_of height width h k)) before
  pub places_after : places' ≡ number_after (buffers_verdict F height width pitch Q h k before) (places_of height width h k) places
  pub found_after : found' ≡ number_after (buffers_verdict F height width pitch Q h k before) (length (places_listed F height width pitch Q h k)) found
  -- accepted, which the host sees by a result of 0: what is listed are exactly the places where the patch is isomorphic with the frame
  pub exact : r ≡ 0 → (row column : ℕ) → column < width
      → Memᴰ (row * width + column) (take found' after)
      ↔ (row < windows_of h height) × (column < windows_of k width) × Iso (levels Q (h * k)) (under F pitch h k row column)
