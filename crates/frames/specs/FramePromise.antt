-- What a search of a frame promises: the answer and every entry of positions for every input, refused ones too; and that the places listed
-- are exactly those where the patch is isomorphic with what lies under it.
use Rattle.std.specs.Prelude.{ℕ, Result, Ok, ◌+◌, ◌*◌, ◌<◌, ◌≡◌, ◌↔◌, length, take}
use mathlib.Core.List.{List, Memᴰ}
use Rattle.order.specs.Sizes.{windows_of}
use Rattle.order.specs.Isomorphic.{Iso}
use Rattle.order.specs.declared.refusal.Refusal.{Refusal}
use Rattle.order.specs.Refusals.{Verdict, verdict_number, verdict_place}
use Rattle.order.specs.Answers.{answer_number, answer_place, answer_by}
use Rattle.order.specs.Written.{filled, after_verdict}
use Rattle.levels.specs.Levels.{levels}
use Rattle.frame_sizes.specs.FrameSizes.{places_of, frame_verdict}
use Rattle.frames.specs.declared.answers.Sighted.{Sighted}
use Rattle.frames.specs.Frames.{under, places_listed}

-- refusals 22 to 26, on the buffers
abbrev pub buffers_verdict : List ℕ → ℕ → ℕ → ℕ → List ℕ → ℕ → ℕ → List ℕ → Verdict
buffers_verdict F height width pitch Q h k before = frame_verdict (length F) height width pitch (length Q) h k (length before)

-- the places tried, and the number of those that are listed
abbrev pub sighted_of : List ℕ → ℕ → ℕ → ℕ → List ℕ → ℕ → ℕ → Sighted
sighted_of F height width pitch Q h k = record { places = places_of height width h k; found = length (places_listed F height width pitch Q h k) }

-- the patch Q of h rows and k columns is sought in the frame F of a height, a width and a pitch, with a positions buffer that holds
-- `before`: the answer r, and what the buffer holds after it
pub record FramePromise (F : List ℕ) (height width pitch : ℕ) (Q : List ℕ) (h k : ℕ) (before : List ℕ) (r : Result Sighted Refusal) (after : List ℕ) : Type 0 where
  -- the refusal number, 0 if accepted, and the place
  pub number : answer_number r ≡ verdict_number (buffers_verdict F height width pitch Q h k before)
  pub place : answer_place r ≡ verdict_place (buffers_verdict F height width pitch Q h k before)
  -- the answer: the places tried and how many were found, or the refusal
  pub answer : r ≡ answer_by (buffers_verdict F height width pitch Q h k before) (sighted_of F height width pitch Q h k)
  -- the list, then "unused" up to the number of places tried, then what the buffer held; as it was if refused
  pub positions_after : after ≡ after_verdict (buffers_verdict F height width pitch Q h k before) (filled (places_listed F height width pitch Q h k) (places_of height width h k)) before
  -- accepted: what is listed is row × width + column of exactly the places tried at which the patch is isomorphic with the frame. Every
  -- number is such a sum of one row and one column below the width
  pub exact : (s : Sighted) → r ≡ Ok s → (row column : ℕ) → column < width
      → Memᴰ (row * width + column) (take s.found after)
      ↔ (row < windows_of h height) × (column < windows_of k width) × Iso (levels Q (h * k)) (under F pitch h k row column)
