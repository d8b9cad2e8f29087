-- Shows: the verdict on a frame's sizes at each of its conditions, and what an accepted one tells; how many rows the samples are enough for,
-- by a division; and that no second answer satisfies the promise.
-- Assumes nothing.
use Prim.Native.Nat.{ℕ, zero, suc, ◌+◌, ◌-◌, ◌*◌, ◌/◌, ◌≤◌, ◌<◌}
use mathlib.Core.Path.{◌≡◌, refl, sym, ◌∙◌, ap, ap₂}
use mathlib.Core.Logic.{◌↔◌}
use mathlib.Core.Bool.{Bool, true, false, ◌||◌}
use native.Mathlib.Omega.{arith}
use native.Mathlib.Nat.{div-lt_iff_lt-mul, mul_comm, mul-le-mul}
use lib.Dec.{ltb, eqb}
use Rattle.std.specs.Prelude.{Result, Ok}
use borrow.Author.Tests.{lt-ltb, le-ltb, ltb-true, ltb-false, eqb-false}
use Rattle.order.specs.declared.refusal.Fault.TheVariants.{ZeroSize, LargeSize, NarrowPitch, ShortFrame, ShortPlaces}
use Rattle.order.specs.declared.refusal.Refusal.{Refusal}
use Rattle.order.specs.declared.refusal.Refusal.TheVariants.{Unplaced}
use Rattle.order.specs.Sizes.{windows_of}
use Rattle.order.specs.Refusals.{Verdict, accepted, refused, verdict_number, verdict_place}
use Rattle.order.specs.Answers.{answer_number, answer_place, answer_by}
use Rattle.order.proofs.Answered.{numbered, placed, ok_accepted}
use Rattle.order.proofs.Lists.{windows_of_as}
use Rattle.order.proofs.Rows.{passed}
use Rattle.order.proofs.Tests.{clash, same_test}
use Rattle.frame_sizes.specs.declared.Tries.{Tries}
use Rattle.frame_sizes.specs.FrameSizes.{frame_limit, patch_limit, samples_needed, places_of, frame_verdict}
use Rattle.frame_sizes.specs.Tried.{tries_of, TriesPromise, SizesFit}

-- ---- answers and verdicts

-- accepted, with the rows and the columns
pub ok_tries : (v : Verdict) (height width h k : ℕ) {t : Tries} → Ok t ≡ answer_by v (tries_of height width h k)
    → (v ≡ accepted) × (t.rows ≡ windows_of h height) × (t.columns ≡ windows_of k width)
ok_tries v height width h k e =
    let p = ok_accepted v (tries_of height width h k) e in
    (p.0, ap (λ (t : Tries). t.rows) p.1, ap (λ (t : Tries). t.columns) p.1)

either_false : (a b : Bool) → (a || b) ≡ false → (a ≡ false) × (b ≡ false)
either_false true b e = clash refl e
either_false false b e = (refl, e)

-- ---- the conditions one by one

module _ (samples height width pitch patch h k positions : ℕ) where
  abbrev zeros : Bool
  zeros = eqb height 0 || (eqb width 0 || (eqb h 0 || eqb k 0))

  abbrev large : Bool
  large = ltb frame_limit height || (ltb frame_limit width || ltb patch_limit (h * k))

  abbrev short : Bool
  short = ltb samples (samples_needed height width pitch) || ltb patch (h * k)

  abbrev verdict : Verdict
  verdict = frame_verdict samples height width pitch patch h k positions

  -- an answer by the verdict is as promised
  pub promised : {v : Verdict} {r : Result Tries Refusal} → verdict ≡ v → r ≡ answer_by v (tries_of height width h k) → TriesPromise samples height width pitch patch h k positions r
  promised {v} {r} e f =
      record {
        number = ap answer_number f ∙ numbered v (tries_of height width h k) ∙ ap verdict_number (sym e);
        place = ap answer_place f ∙ placed v (tries_of height width h k) ∙ ap verdict_place (sym e);
        answer = f ∙ ap (λ w. answer_by w (tries_of height width h k)) (sym e);
      }

  pub zero_size : zeros ≡ true → verdict ≡ refused (Unplaced ZeroSize)
  unfolding frame_verdict
  zero_size a = rw a refl

  pub large_size : zeros ≡ false → large ≡ true → verdict ≡ refused (Unplaced LargeSize)
  unfolding frame_verdict
  large_size a b = rw (a, b) refl

  pub narrow_pitch : zeros ≡ false → large ≡ false → pitch < width → verdict ≡ refused (Unplaced NarrowPitch)
  unfolding frame_verdict
  narrow_pitch a b c = rw (a, b, lt-ltb pitch width c) refl

  pub short-frame : zeros ≡ false → large ≡ false → width ≤ pitch → short ≡ true → verdict ≡ refused (Unplaced ShortFrame)
  unfolding frame_verdict
  short-frame a b c d = rw (a, b, le-ltb pitch width c, d) refl

  pub short-places : zeros ≡ false → large ≡ false → width ≤ pitch → short ≡ false → positions < places_of height width h k → verdict ≡ refused (Unplaced ShortPlaces)
  unfolding frame_verdict
  short-places a b c d e = rw (a, b, le-ltb pitch width c, d, lt-ltb positions (places_of height width h k) e) refl

  pub all_fit : zeros ≡ false → large ≡ false → width ≤ pitch → short ≡ false → places_of height width h k ≤ positions → verdict ≡ accepted
  unfolding frame_verdict
  all_fit a b c d e = rw (a, b, le-ltb pitch width c, d, le-ltb positions (places_of height width h k) e) refl

  -- no second answer
  pub tries_only_answer : {r s : Result Tries Refusal} → TriesPromise samples height width pitch patch h k positions r → TriesPromise samples height width pitch patch h k positions s → r ≡ s
  tries_only_answer p q = p.answer ∙ sym q.answer

-- ---- what they tell

some : (n : ℕ) → eqb n 0 ≡ false → 0 < n
some zero e = absurd (eqb-false 0 0 e refl)
some (suc n) e = omega arith

pub no_zeros : (height width h k : ℕ) → (eqb height 0 || (eqb width 0 || (eqb h 0 || eqb k 0))) ≡ false → (0 < height) × (0 < width) × (0 < h) × (0 < k)
no_zeros height width h k e =
    let a = either_false (eqb height 0) (eqb width 0 || (eqb h 0 || eqb k 0)) e in
    let b = either_false (eqb width 0) (eqb h 0 || eqb k 0) a.1 in
    let c = either_false (eqb h 0) (eqb k 0) b.1 in
    (some height a.0, some width b.0, some h c.0, some k c.1)

pub none_large : (height width h k : ℕ) → (ltb frame_limit height || (ltb frame_limit width || ltb patch_limit (h * k))) ≡ false
    → (height ≤ frame_limit) × (width ≤ frame_limit) × (h * k ≤ patch_limit)
none_large height width h k e =
    let a = either_false (ltb frame_limit height) (ltb frame_limit width || ltb patch_limit (h * k)) e in
    let b = either_false (ltb frame_limit width) (ltb patch_limit (h * k)) a.1 in
    (ltb-false frame_limit height a.0, ltb-false frame_limit width b.0, ltb-false patch_limit (h * k) b.1)

-- what an accepted verdict tells
pub sizes_fit : {samples height width pitch patch h k positions : ℕ} → frame_verdict samples height width pitch patch h k positions ≡ accepted
    → SizesFit samples height width pitch patch h k positions
unfolding frame_verdict
sizes_fit {samples} {height} {width} {pitch} {patch} {h} {k} {positions} e =
    let a = passed (zeros samples height width pitch patch h k positions) (Unplaced ZeroSize) _ e in
    let b = passed (large samples height width pitch patch h k positions) (Unplaced LargeSize) _ a.1 in
    let c = passed (ltb pitch width) (Unplaced NarrowPitch) _ b.1 in
    let d = passed (short samples height width pitch patch h k positions) (Unplaced ShortFrame) _ c.1 in
    let f = passed (ltb positions (places_of height width h k)) (Unplaced ShortPlaces) accepted d.1 in
    let z = no_zeros height width h k a.0 in
    let l = none_large height width h k b.0 in
    let s = either_false (ltb samples (samples_needed height width pitch)) (ltb patch (h * k)) d.0 in
    record {
      some_width = z.1;
      some_rows = z.2;
      some_columns = z.3;
      height_bound = l.0;
      width_bound = l.1;
      patch_bound = l.2;
      wide_pitch = ltb-false pitch width c.0;
      samples_there = ltb-false samples (samples_needed height width pitch) s.0;
      patch_there = ltb-false patch (h * k) s.1;
      room = ltb-false positions (places_of height width h k) f.0;
    }

-- ---- products

pub sides_fit : (h k : ℕ) → h ≤ patch_limit → k ≤ patch_limit → h * k ≤ 1048576
sides_fit h k a b = mul-le-mul a b

-- rows or columns tried are no more than the frame has
pub few_tried : (h height : ℕ) {rows : ℕ} → rows ≡ windows_of h height → 0 < h → height ≤ frame_limit → rows ≤ 1024
few_tried h height e a b = let w = windows_of_as h height in omega arith

pub places-are : (height width h k : ℕ) {rows columns : ℕ} → rows ≡ windows_of h height → columns ≡ windows_of k width → rows * columns ≡ places_of height width h k
unfolding places_of
places-are height width h k e f = ap₂ ◌*◌ e f

-- the places of accepted sizes are few, and there is room for them
pub places_fit : {samples height width pitch patch h k positions rows columns : ℕ} → SizesFit samples height width pitch patch h k positions → rows ≡ windows_of h height
    → columns ≡ windows_of k width → (rows * columns ≤ 1048576) × (rows * columns ≤ positions)
places_fit {height = height} {width} {h = h} {k} f r c =
    let e = places-are height width h k r c in
    let room = f.room in
    (sides_fit _ _ (few_tried h height r f.some_rows f.height_bound) (few_tried k width c f.some_columns f.width_bound), omega arith)

-- ---- whether the samples are enough

module _ (samples height width pitch : ℕ) where
  pub too_narrow : samples < width → true ≡ ltb samples (samples_needed height width pitch)
  unfolding samples_needed
  too_narrow a = sym (lt-ltb samples ((height - 1) * pitch + width) (omega arith))

  pub one_row_enough : width ≤ samples → height ≡ 1 → false ≡ ltb samples (samples_needed height width pitch)
  unfolding samples_needed
  one_row_enough a e = rw e (sym (le-ltb samples (0 * pitch + width) (omega arith)))

  pub rows-enough : 0 < height → width ≤ samples → (height ≡ 1 → ⊥) → ltb ((samples - width) / (height - 1)) pitch ≡ ltb samples (samples_needed height width pitch)
  unfolding samples_needed
  rows-enough a b e =
      same_test (ltb ((samples - width) / (height - 1)) pitch) (ltb samples ((height - 1) * pitch + width))
      (λ t. let l = divided.0 (ltb-true ((samples - width) / (height - 1)) pitch t) in lt-ltb samples ((height - 1) * pitch + width) (omega arith))
      (λ t. let l = ltb-true samples ((height - 1) * pitch + width) t in lt-ltb ((samples - width) / (height - 1)) pitch (divided.1 (omega arith)))
    where
      rows : 0 < height - 1
      rows = more height a e
        where
          more : (n : ℕ) → 0 < n → (n ≡ 1 → ⊥) → 0 < n - 1
          more zero a e = absurd (omega arith)
          more (suc zero) a e = absurd (e refl)
          more (suc (suc n)) a e = omega arith

      divided : ((samples - width) / (height - 1) < pitch) ↔ (samples - width < (height - 1) * pitch)
      divided = rw (mul_comm (height - 1) pitch) (div-lt_iff_lt-mul rows)
