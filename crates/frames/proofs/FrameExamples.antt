-- Shows: the frames of docs/RULES.md, example q, come out as they are printed there, by the definitions.
-- Assumes nothing.
use Prim.Native.Nat.{ℕ}
use mathlib.Core.Path.{◌≡◌, refl}
use mathlib.Core.List.{List, [], ◌∷◌}
use Rattle.std.specs.Prelude.{Result, Ok, Err}
use Rattle.order.specs.declared.refusal.Fault.{Fault}
use Rattle.order.specs.declared.refusal.Fault.TheVariants.{ZeroSize, LargeSize, NarrowPitch, ShortFrame, ShortPlaces}
use Rattle.order.specs.declared.refusal.Refusal.TheVariants.{Unplaced}
use Rattle.order.specs.Sizes.{unused, windows_of, each, those}
use Rattle.order.specs.Isomorphic.{is_iso, all_below}
use Rattle.order.specs.declared.refusal.Refusal.{Refusal}
use Rattle.order.specs.Answers.{answer_by}
use Rattle.order.specs.Written.{filled, after_verdict}
use Rattle.levels.specs.Levels.{levels}
use Rattle.frame_sizes.specs.FrameSizes.{samples_needed, places_of, frame_verdict}
use Rattle.frames.specs.declared.answers.Sighted.{Sighted}
use Rattle.frames.specs.Frames.{level_at, under, matches_at, row_listed, rows_listed, places_listed}
use Rattle.frames.specs.FramePromise.{sighted_of, buffers_verdict}

-- a call: its answer, and its positions buffer, which held five times 7
pub record Outcome : Type 0 where
  pub answer : Result Sighted Refusal
  pub positions : List ℕ

abbrev sevens : List ℕ
sevens = 7 ∷ 7 ∷ 7 ∷ 7 ∷ 7 ∷ []

unfoldable pub call : ℕ → ℕ → ℕ → List ℕ → ℕ → ℕ → List ℕ → Outcome
call height width pitch F h k Q =
    record {
      answer = answer_by (buffers_verdict F height width pitch Q h k sevens) (sighted_of F height width pitch Q h k);
      positions = after_verdict (buffers_verdict F height width pitch Q h k sevens) (filled (places_listed F height width pitch Q h k) (places_of height width h k)) sevens;
    }

abbrev found : ℕ → ℕ → List ℕ → Outcome
found tried number positions = record { answer = Ok (record { places = tried; found = number }); positions = positions }

abbrev refusal : Fault → Outcome
refusal f = record { answer = Err (Unplaced f); positions = sevens }

-- two rows of three, with two samples between them that belong to neither
abbrev rows : List ℕ
rows = 1 ∷ 2 ∷ 1 ∷ 0 ∷ 65535 ∷ 5 ∷ 6 ∷ 7 ∷ []

abbrev short : List ℕ
short = 1 ∷ 2 ∷ 1 ∷ 0 ∷ 65535 ∷ 5 ∷ 6 ∷ []

unfoldable pub given : List Outcome
given =
    call 2 3 5 rows 1 2 (1 ∷ 2 ∷ []) ∷ call 2 3 5 short 1 2 (1 ∷ 2 ∷ []) ∷ call 2 3 5 rows 3 1 (1 ∷ 2 ∷ 3 ∷ []) ∷ call 1 1 18446744073709551615 (9 ∷ []) 1 1 (4 ∷ [])
    ∷ call 2 1 18446744073709551615 (9 ∷ []) 1 1 (4 ∷ []) ∷ call 1 2 2 (32767 ∷ 32768 ∷ []) 1 2 (0 ∷ 65535 ∷ [])
    ∷ call 2 2 2 (1 ∷ 2 ∷ 3 ∷ 4 ∷ []) 4294967296 4294967296 [] ∷ call 1 1 0 (9 ∷ []) 1 1 (4 ∷ []) ∷ call 0 1 0 [] 1 1 (4 ∷ []) ∷ call 2 3 3 (1 ∷ 2 ∷ 1 ∷ 5 ∷ 6 ∷ 7 ∷ []) 1 1 (4 ∷ [])
    ∷ []

unfoldable pub wanted : List Outcome
wanted =
    found 4 3 (0 ∷ 3 ∷ 4 ∷ unused ∷ 7 ∷ []) ∷ refusal ShortFrame ∷ found 0 0 sevens ∷ found 1 1 (0 ∷ 7 ∷ 7 ∷ 7 ∷ 7 ∷ [])
    ∷ refusal ShortFrame ∷ found 1 1 (0 ∷ 7 ∷ 7 ∷ 7 ∷ 7 ∷ []) ∷ refusal LargeSize ∷ refusal NarrowPitch ∷ refusal ZeroSize ∷ refusal ShortPlaces
    ∷ []

pub frames_come_out : given ≡ wanted
unfolding given wanted call frame_verdict samples_needed places_of windows_of places_listed rows_listed row_listed matches_at is_iso all_below levels under level_at each those
frames_come_out = refl
