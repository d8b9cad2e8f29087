-- "Frames": the limits, the rows and columns at which a patch is tried, and refusals 22 to 26.
use Rattle.std.specs.Prelude.{ℕ, ◌+◌, ◌-◌, ◌*◌, ◌||◌, ltb, eqb}
use Rattle.order.specs.declared.refusal.Fault.TheVariants.{ZeroSize, LargeSize, NarrowPitch, ShortFrame, ShortPlaces}
use Rattle.order.specs.declared.refusal.Refusal.TheVariants.{Unplaced}
use Rattle.order.specs.Sizes.{windows_of}
use Rattle.order.specs.Refusals.{Verdict, accepted, refuse}

-- the highest and widest frame, and the largest patch
abbrev pub frame_limit : ℕ
frame_limit = 1024

abbrev pub patch_limit : ℕ
patch_limit = 1024

-- the samples that a frame needs: a pitch for each row but the last, and of that one its width
unfoldable pub samples_needed : ℕ → ℕ → ℕ → ℕ
samples_needed height width pitch = (height - 1) * pitch + width

-- the places at which a patch of h rows and k columns is tried: so many rows, and in each so many columns, from which it lies inside
unfoldable pub places_of : ℕ → ℕ → ℕ → ℕ → ℕ
places_of height width h k = windows_of h height * windows_of k width

-- 22 to 26, on the sizes and on the lengths of the frame's, the patch's and the positions' buffer
unfoldable pub frame_verdict : ℕ → ℕ → ℕ → ℕ → ℕ → ℕ → ℕ → ℕ → Verdict
frame_verdict samples height width pitch patch h k positions =
    refuse (eqb height 0 || (eqb width 0 || (eqb h 0 || eqb k 0))) (Unplaced ZeroSize)
    (refuse (ltb frame_limit height || (ltb frame_limit width || ltb patch_limit (h * k))) (Unplaced LargeSize)
    (refuse (ltb pitch width) (Unplaced NarrowPitch)
    (refuse (ltb samples (samples_needed height width pitch) || ltb patch (h * k)) (Unplaced ShortFrame)
    (refuse (ltb positions (places_of height width h k)) (Unplaced ShortPlaces) accepted))))
