-- Shows: a refusal's number is small, so that the result fits its 64 bits, and not 0, so that only an accepted call's result is 0;
-- and the result is made of number and place.
-- Assumes nothing.
use Prim.Native.Nat.{ℕ, ◌+◌, ◌*◌, ◌≤◌, min}
use mathlib.Core.Path.{◌≡◌, refl}
use native.Mathlib.Omega.{arith}
use Rattle.order.specs.declared.refusal.Table.{Table}
use Rattle.order.specs.declared.refusal.Table.TheVariants.{Low, High, WitnessI, WitnessJ}
use Rattle.order.specs.declared.refusal.Fault.{Fault}
use Rattle.order.specs.declared.refusal.Fault.TheVariants.{LongLead, ManySamples, ShortBuffer, ZeroSize, LargeSize, NarrowPitch, ShortFrame, ShortPlaces}
use Rattle.order.specs.declared.refusal.Refusal.{Refusal}
use Rattle.order.specs.declared.refusal.Refusal.TheVariants.{EmptyPattern, LongPattern, ShortTable, LongTrace, ShortSurvivors, ShortPositions, ShortRecording, WrongMark, WrongDistance, LongDistance, ShortSamples, LongInput, ForeignEntry, LostStitch, Unplaced}
use Rattle.order.specs.Refusals.{Verdict, accepted, refused, foreign_number_lem, fault_number, number_of, place_of}
use Rattle.host_answers.specs.Results.{refusal_result, result_of}

table_range : (t : Table) → (1 ≤ foreign_number_lem t) × (foreign_number_lem t ≤ 26)
table_range Low = (omega arith, omega arith)
table_range High = (omega arith, omega arith)
table_range WitnessI = (omega arith, omega arith)
table_range WitnessJ = (omega arith, omega arith)

fault_range : (f : Fault) → (1 ≤ fault_number f) × (fault_number f ≤ 26)
fault_range LongLead = (omega arith, omega arith)
fault_range ManySamples = (omega arith, omega arith)
fault_range ShortBuffer = (omega arith, omega arith)
fault_range ZeroSize = (omega arith, omega arith)
fault_range LargeSize = (omega arith, omega arith)
fault_range NarrowPitch = (omega arith, omega arith)
fault_range ShortFrame = (omega arith, omega arith)
fault_range ShortPlaces = (omega arith, omega arith)

pub number_range : (r : Refusal) → (1 ≤ number_of r) × (number_of r ≤ 26)
number_range EmptyPattern = (omega arith, omega arith)
number_range (LongPattern m) = (omega arith, omega arith)
number_range (ShortTable t) = (omega arith, omega arith)
number_range (LongTrace n) = (omega arith, omega arith)
number_range (ShortSurvivors n) = (omega arith, omega arith)
number_range (ShortPositions n) = (omega arith, omega arith)
number_range (ShortRecording l) = (omega arith, omega arith)
number_range (WrongMark p) = (omega arith, omega arith)
number_range (WrongDistance p) = (omega arith, omega arith)
number_range (LongDistance p) = (omega arith, omega arith)
number_range (ShortSamples n) = (omega arith, omega arith)
number_range LongInput = (omega arith, omega arith)
number_range (ForeignEntry t k) = table_range t
number_range (LostStitch p) = (omega arith, omega arith)
number_range (Unplaced f) = fault_range f

pub result_made : (r : Refusal) {n p q : ℕ} → n ≡ number_of r → p ≡ place_of r → q ≡ min p 4294967295 → n * 4294967296 + q ≡ refusal_result r
unfolding refusal_result
result_made r a b c = rw (a, c, b) refl

-- a result of 0 tells that the call was accepted
pub only_accepted : (v : Verdict) → result_of v ≡ 0 → v ≡ accepted
unfolding refusal_result
only_accepted accepted e = refl
only_accepted (refused r) e = absurd (omega (arith, (number_range r).0))

-- a refusal's result is not 0
pub told-apart : (v : Verdict) (why : Refusal) → v ≡ refused why → result_of v ≡ 0 → ⊥
told-apart v why e z = let a = only_accepted v z in let b : ◌≡◌ {A = ℕ} 0 1 = cc in omega arith
