-- Shows: the conditions on a pattern and on lengths are rows, and what each comes to at each of its conditions.
-- Assumes nothing.
use Prim.Native.Nat.{ℕ, ◌≤◌, ◌<◌}
use mathlib.Core.Path.{◌≡◌, refl, sym, ◌∙◌, ap}
use mathlib.Core.List.{List}
use mathlib.Core.Bool.{true, false, not}
use lib.Dec.{ltb, eqb}
use lib.IntN.{ℤ}
use lib.ListN.{length}
use Rattle.std.specs.Prelude.{Result, Ok, Err}
use borrow.Author.Tests.{lt-ltb, le-ltb}
use Rattle.order.specs.declared.refusal.Refusal.{Refusal}
use Rattle.order.specs.declared.refusal.Refusal.TheVariants.{EmptyPattern, LongPattern, ShortTable, LongTrace, ShortSurvivors, ShortPositions, LostStitch}
use Rattle.order.specs.declared.refusal.Table.TheVariants.{Low, High, WitnessI, WitnessJ}
use Rattle.order.specs.Sizes.{Spot, none, place, is_none, pattern_limit, trace_limit, windows_of}
use Rattle.order.specs.Lost.{first_lost_lem, holds_lost_lem}
use Rattle.order.specs.Refusals.{Verdict, accepted, refuse, refuse_at, pattern_verdict, stitches_verdict, witnesses_verdict, tables_verdict, prepare_verdict, room_verdict}
use Rattle.order.specs.Answers.{answer_by}
use Rattle.order.proofs.Answered.{done, unmet, ok_accepted, err_refused}
use Rattle.order.proofs.Tests.{clash}
use Rattle.order.proofs.Rows.{Passing, Refusing, Row, refuse_row, refuse_at_row, then_row, first_row, row_passes, row_refuses}
use Rattle.stitches.specs.Ends.{or_end}

-- ---- the rows of a pattern and its tables

pattern_row : (m : ℕ) → Row (pattern_verdict m)
unfolding pattern_verdict
pattern_row m = first_row (eqb m 0) EmptyPattern (refuse (ltb pattern_limit m) (LongPattern m)) (refuse_row (ltb pattern_limit m) (LongPattern m))

stitches_row : (P : List ℤ) → Row (stitches_verdict P)
unfolding stitches_verdict
stitches_row P = refuse_at_row (first_lost_lem P) LostStitch

-- what follows a row: itself where the row passes, nothing where it refuses
module _ (f : Verdict → Verdict) (row : Row f) where
  through : done ≡ answer_by (f accepted) tt → Passing f
  through e = row_passes f row ((ok_accepted (f accepted) tt e).0)

  stays : {c : Result (Unit {0}) Refusal} {why : Refusal} → c ≡ answer_by (f accepted) tt → c ≡ Err why → (next : Verdict) → c ≡ answer_by (f next) tt
  stays {why = why} e g next = g ∙ ap (λ v. answer_by v tt) (sym (row_refuses f row (err_refused (f accepted) tt (sym g ∙ e)) next))

pub pattern_through : (m : ℕ) → done ≡ answer_by (pattern_verdict m accepted) tt → Passing (pattern_verdict m)
pattern_through m = through (pattern_verdict m) (pattern_row m)

pub pattern_stays : (m : ℕ) {c : Result (Unit {0}) Refusal} {why : Refusal} → c ≡ answer_by (pattern_verdict m accepted) tt → c ≡ Err why → (next : Verdict) → c ≡ answer_by (pattern_verdict m next) tt
pattern_stays m = stays (pattern_verdict m) (pattern_row m)

pub stitches_through : (P : List ℤ) → done ≡ answer_by (stitches_verdict P accepted) tt → Passing (stitches_verdict P)
stitches_through P = through (stitches_verdict P) (stitches_row P)

pub stitches_stay : (P : List ℤ) {c : Result (Unit {0}) Refusal} {why : Refusal} → c ≡ answer_by (stitches_verdict P accepted) tt → c ≡ Err why → (next : Verdict) → c ≡ answer_by (stitches_verdict P next) tt
stitches_stay P = stays (stitches_verdict P) (stitches_row P)

tables_row : (m low high wi wj : ℕ) → Row (tables_verdict m low high wi wj)
unfolding tables_verdict witnesses_verdict
tables_row m low high wi wj =
    first_row (ltb low m) (ShortTable Low) (λ n. refuse (ltb high m) (ShortTable High) (refuse (ltb wi m) (ShortTable WitnessI) (refuse (ltb wj m) (ShortTable WitnessJ) n)))
    (first_row (ltb high m) (ShortTable High) (λ n. refuse (ltb wi m) (ShortTable WitnessI) (refuse (ltb wj m) (ShortTable WitnessJ) n))
    (first_row (ltb wi m) (ShortTable WitnessI) (refuse (ltb wj m) (ShortTable WitnessJ)) (refuse_row (ltb wj m) (ShortTable WitnessJ))))

pub agree_row : (m wi wj : ℕ) → Row (λ n. pattern_verdict m (witnesses_verdict m wi wj n))
unfolding witnesses_verdict
agree_row m wi wj =
    then_row (pattern_verdict m) (λ n. refuse (ltb wi m) (ShortTable WitnessI) (refuse (ltb wj m) (ShortTable WitnessJ) n)) (pattern_row m)
    (first_row (ltb wi m) (ShortTable WitnessI) (refuse (ltb wj m) (ShortTable WitnessJ)) (refuse_row (ltb wj m) (ShortTable WitnessJ)))

abbrev pub sizes : List ℤ → ℕ → ℕ → ℕ → ℕ → Verdict → Verdict
sizes P low high wi wj n = pattern_verdict (length P) (stitches_verdict P (tables_verdict (length P) low high wi wj n))

pub sizes_row : (P : List ℤ) (low high wi wj : ℕ) → Row (sizes P low high wi wj)
sizes_row P low high wi wj =
    then_row (pattern_verdict (length P)) (λ n. stitches_verdict P (tables_verdict (length P) low high wi wj n)) (pattern_row (length P))
    (then_row (stitches_verdict P) (tables_verdict (length P) low high wi wj) (stitches_row P) (tables_row (length P) low high wi wj))

pub room_row : (m n survivors positions : ℕ) → Row (room_verdict m n survivors positions)
unfolding room_verdict
room_row m n survivors positions =
    first_row (ltb trace_limit n) (LongTrace n) (λ v. refuse (ltb survivors (windows_of m n)) (ShortSurvivors (windows_of m n)) (refuse (ltb positions (windows_of m n)) (ShortPositions (windows_of m n)) v))
    (first_row (ltb survivors (windows_of m n)) (ShortSurvivors (windows_of m n)) (refuse (ltb positions (windows_of m n)) (ShortPositions (windows_of m n)))
    (refuse_row (ltb positions (windows_of m n)) (ShortPositions (windows_of m n))))

-- what follows the sizes, likewise
pub sizes_through : (P : List ℤ) (low high wi wj : ℕ) → done ≡ answer_by (prepare_verdict P low high wi wj) tt → Passing (sizes P low high wi wj)
unfolding prepare_verdict
sizes_through P low high wi wj e = through (sizes P low high wi wj) (sizes_row P low high wi wj) e

pub sizes_stay : (P : List ℤ) (low high wi wj : ℕ) (why : Refusal) → unmet why ≡ answer_by (prepare_verdict P low high wi wj) tt → Refusing (sizes P low high wi wj) why
unfolding prepare_verdict
sizes_stay P low high wi wj why e = row_refuses (sizes P low high wi wj) (sizes_row P low high wi wj) (err_refused (sizes P low high wi wj accepted) tt e)

-- ---- a lost stitch, by the two looks for it

module _ (P : List ℤ) where
  pub some-lost : {k : ℕ} → true ≡ holds_lost_lem P → k ≡ or_end (first_lost_lem P) (length P) → unmet (LostStitch k) ≡ answer_by (stitches_verdict P accepted) tt
  unfolding holds_lost_lem is_none stitches_verdict
  some-lost {k} e f = go (first_lost_lem P) e f
    where
      go : (s : Spot) → true ≡ not (is_none s) → k ≡ or_end s (length P) → unmet (LostStitch k) ≡ answer_by (refuse_at s LostStitch accepted) tt
      go none e f = clash (sym e) refl
      go (place i) e f = rw f refl

  pub none_lost : false ≡ holds_lost_lem P → done ≡ answer_by (stitches_verdict P accepted) tt
  unfolding holds_lost_lem is_none stitches_verdict
  none_lost e = go (first_lost_lem P) e
    where
      go : (s : Spot) → false ≡ not (is_none s) → done ≡ answer_by (refuse_at s LostStitch accepted) tt
      go none e = refl
      go (place i) e = clash refl (sym e)

-- ---- the row of the trace and the buffers, condition by condition

module _ (m n survivors positions : ℕ) where
  pub room-long : trace_limit < n → Err (LongTrace n) ≡ answer_by (room_verdict m n survivors positions accepted) (windows_of m n)
  unfolding room_verdict
  room-long h = rw (lt-ltb trace_limit n h) refl

  pub room-survivors : {windows : ℕ} → n ≤ trace_limit → windows ≡ windows_of m n → survivors < windows → Err (ShortSurvivors windows) ≡ answer_by (room_verdict m n survivors positions accepted) (windows_of m n)
  unfolding room_verdict
  room-survivors {windows} h e k = rw (le-ltb trace_limit n h, ← e, lt-ltb survivors windows k) refl

  pub room-positions : {windows : ℕ} → n ≤ trace_limit → windows ≡ windows_of m n → windows ≤ survivors → positions < windows → Err (ShortPositions windows) ≡ answer_by (room_verdict m n survivors positions accepted) (windows_of m n)
  unfolding room_verdict
  room-positions {windows} h e k l = rw (le-ltb trace_limit n h, ← e, le-ltb survivors windows k, lt-ltb positions windows l) refl

  pub room_fine : {windows : ℕ} → n ≤ trace_limit → windows ≡ windows_of m n → windows ≤ survivors → windows ≤ positions → Ok windows ≡ answer_by (room_verdict m n survivors positions accepted) (windows_of m n)
  unfolding room_verdict
  room_fine {windows} h e k l = rw (le-ltb trace_limit n h, ← e, le-ltb survivors windows k, le-ltb positions windows l) refl
