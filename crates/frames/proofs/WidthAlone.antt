-- Shows: the answer depends on nothing outside the width. Two frames that are alike inside it are answered alike, whatever lies between
-- width and pitch, and even where their pitches differ.
-- Assumes nothing.
use Prim.Native.Nat.{ℕ, ◌+◌, ◌*◌, ◌/◌, ◌%◌, ◌<◌}
use mathlib.Core.Path.{◌≡◌, refl, sym, ◌∙◌, ap, ap₂}
use mathlib.Core.List.{List}
use native.Mathlib.Omega.{arith}
use native.Mathlib.Nat.{div-lt_iff_lt-mul, mod-lt}
use lib.IntN.{pos}
use Rattle.std.specs.Prelude.{Result}
use lib.ListN.{length, get_or}
use Rattle.order.specs.Sizes.{windows_of}
use Rattle.order.specs.Isomorphic.{is_iso}
use Rattle.order.specs.Refusals.{Verdict, accepted, refused}
use Rattle.order.specs.declared.refusal.Refusal.{Refusal}
use Rattle.order.specs.Answers.{answer_by}
use Rattle.order.specs.Written.{filled, after_verdict}
use Rattle.order.proofs.Lists.{each_same, windows_of_as}
use Rattle.levels.specs.Levels.{levels}
use Rattle.frame_sizes.specs.FrameSizes.{places_of, frame_verdict}
use Rattle.frame_sizes.proofs.FrameRows.{sizes_fit}
use Rattle.frames.specs.declared.answers.Sighted.{Sighted}
use Rattle.frames.specs.Frames.{level_at, under, matches_at, places_listed}
use Rattle.frames.specs.FramePromise.{sighted_of, buffers_verdict, FramePromise}
use Rattle.frames.proofs.ListingLaws.{rows_listed_same}

-- a frame F of pitch p and a frame G of pitch q hold the same levels inside the width
pub record AlikeInside (F : List ℕ) (p : ℕ) (G : List ℕ) (q height width : ℕ) : Type 0 where
  pub same_level : (row column : ℕ) → row < height → column < width → get_or F (row * p + column) 0 ≡ get_or G (row * q + column) 0

module _ {F G : List ℕ} {p q height width : ℕ} (h k : ℕ) (alike : AlikeInside F p G q height width) (some : 0 < k) where
  under_same : (row column : ℕ) → row < windows_of h height → column < windows_of k width → under F p h k row column ≡ under G q h k row column
  unfolding under level_at
  under_same row column r c =
      each_same _ _ (h * k)
      (λ j g.
      let down : j / k < h = (div-lt_iff_lt-mul some).1 g in
      let across : j % k < k = mod-lt j some in
      let a = windows_of_as h height in
      let b = windows_of_as k width in
      ap pos (alike.same_level (row + j / k) (column + j % k) (omega arith) (omega arith)))

  pub list_same : (Q : List ℕ) → places_listed F height width p Q h k ≡ places_listed G height width q Q h k
  unfolding places_listed matches_at
  list_same Q = rows_listed_same _ _ width (windows_of k width) (windows_of h height) (λ row column r c. ap (is_iso (levels Q (h * k))) (under_same row column r c))

-- frames alike inside the width that are refused or accepted alike
pub same_inside : {F G : List ℕ} {p q height width h k : ℕ} {Q before after₁ after₂ : List ℕ} {r s : Result Sighted Refusal} → AlikeInside F p G q height width
    → buffers_verdict F height width p Q h k before ≡ buffers_verdict G height width q Q h k before
    → FramePromise F height width p Q h k before r after₁ → FramePromise G height width q Q h k before s after₂ → (r ≡ s) × (after₁ ≡ after₂)
same_inside {F} {G} {p} {q} {height} {width} {h} {k} {Q} {before} {after₁} {after₂} {r} {s} alike v x y =
    go (buffers_verdict F height width p Q h k before) refl
  where
    seen_as : ℕ → Sighted
    seen_as n = record { places = places_of height width h k; found = n }

    go : (w : Verdict) → buffers_verdict F height width p Q h k before ≡ w → (r ≡ s) × (after₁ ≡ after₂)
    go (refused why) e =
        let f = sym v ∙ e in (
          x.answer ∙ ap (λ u. answer_by u (sighted_of F height width p Q h k)) e ∙
              sym (y.answer ∙ ap (λ u. answer_by u (sighted_of G height width q Q h k)) f),
          x.positions_after ∙ ap (λ u. after_verdict u (filled (places_listed F height width p Q h k) (places_of height width h k)) before) e ∙
              sym (y.positions_after ∙ ap (λ u. after_verdict u (filled (places_listed G height width q Q h k) (places_of height width h k)) before) f),
        )
    go accepted e =
        let l = list_same h k alike (sizes_fit e).some_columns Q in (
          x.answer ∙ ap₂ (λ u m. answer_by u (seen_as (length m))) v l ∙ sym y.answer,
          x.positions_after ∙ ap₂ (λ u m. after_verdict u (filled m (places_of height width h k)) before) v l ∙ sym y.positions_after,
        )

-- in one buffer: what lies between width and pitch, or behind the last row, may be anything
pub padding_unseen : {F G : List ℕ} {height width pitch h k : ℕ} {Q before after₁ after₂ : List ℕ} {r s : Result Sighted Refusal} → length F ≡ length G
    → ((row column : ℕ) → row < height → column < width → get_or F (row * pitch + column) 0 ≡ get_or G (row * pitch + column) 0)
    → FramePromise F height width pitch Q h k before r after₁ → FramePromise G height width pitch Q h k before s after₂ → (r ≡ s) × (after₁ ≡ after₂)
padding_unseen {height = height} {width} {pitch} {h} {k} {Q} {before} l f x y =
    same_inside (record { same_level = f }) (ap (λ n. frame_verdict n height width pitch (length Q) h k (length before)) l) x y
