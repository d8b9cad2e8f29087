-- "Refusals": the table of numbers and places, and for each call the first of its conditions that holds.
use Rattle.std.specs.Prelude.{ℕ, ◌+◌, ◌*◌, ◌-◌, List, Bool, true, false, not, ltb, eqb, ℤ, length, get_or}
use Rattle.order.specs.declared.refusal.Table.{Table}
use Rattle.order.specs.declared.refusal.Table.TheVariants.{Low, High, WitnessI, WitnessJ}
use Rattle.order.specs.declared.refusal.Fault.{Fault}
use Rattle.order.specs.declared.refusal.Fault.TheVariants.{LongLead, ManySamples, ShortBuffer, ZeroSize, LargeSize, NarrowPitch, ShortFrame, ShortPlaces}
use Rattle.order.specs.declared.refusal.Refusal.{Refusal}
use Rattle.order.specs.declared.refusal.Refusal.TheVariants.{EmptyPattern, LongPattern, ShortTable, LongTrace, ShortSurvivors, ShortPositions, ShortRecording, WrongMark, WrongDistance, LongDistance, ShortSamples, LongInput, ForeignEntry, LostStitch, Unplaced}
use Rattle.order.specs.Sizes.{Spot, none, place, entry, lowest, pattern_limit, trace_limit, recording_limit, input_limit, windows_of}
use Rattle.order.specs.Lost.{first_lost_lem}
use Rattle.order.specs.Neighbours.{low_of, high_of}
use Rattle.order.specs.Witnesses.{witness_i_of, witness_j_of}
use Rattle.order.specs.Recordings.{trailer_size, recording_size, distance_back, sample_count, marked}

abbrev pub table_number : Table → ℕ
table_number Low = 1
table_number High = 2
table_number WitnessI = 3
table_number WitnessJ = 4

-- the number of the refusal that names the table
abbrev pub foreign_number_lem : Table → ℕ
foreign_number_lem Low = 14
foreign_number_lem High = 15
foreign_number_lem WitnessI = 16
foreign_number_lem WitnessJ = 17

-- the number of a refusal that has no place of its own
abbrev pub fault_number : Fault → ℕ
fault_number LongLead = 18
fault_number ManySamples = 19
fault_number ShortBuffer = 20
fault_number ZeroSize = 22
fault_number LargeSize = 23
fault_number NarrowPitch = 24
fault_number ShortFrame = 25
fault_number ShortPlaces = 26

abbrev pub number_of : Refusal → ℕ
number_of EmptyPattern = 1
number_of (LongPattern m) = 2
number_of (ShortTable t) = 3
number_of (LongTrace n) = 4
number_of (ShortSurvivors n) = 5
number_of (ShortPositions n) = 6
number_of (ShortRecording l) = 8
number_of (WrongMark p) = 9
number_of (WrongDistance p) = 10
number_of (LongDistance p) = 11
number_of (ShortSamples n) = 12
number_of LongInput = 13
number_of (ForeignEntry t k) = foreign_number_lem t
number_of (LostStitch p) = 21
number_of (Unplaced f) = fault_number f

abbrev pub place_of : Refusal → ℕ
place_of EmptyPattern = 0
place_of (LongPattern m) = m
place_of (ShortTable t) = table_number t
place_of (LongTrace n) = n
place_of (ShortSurvivors n) = n
place_of (ShortPositions n) = n
place_of (ShortRecording l) = l
place_of (WrongMark p) = p
place_of (WrongDistance p) = p
place_of (LongDistance p) = p
place_of (ShortSamples n) = n
place_of LongInput = input_limit
place_of (ForeignEntry t k) = k
place_of (LostStitch p) = p
place_of (Unplaced f) = 0

-- what the conditions of a call come to
pub data Verdict : Type 0 where
  accepted : Verdict
  refused : Refusal → Verdict

-- a verdict's number is 0 if accepted, and so is its place
abbrev pub verdict_number : Verdict → ℕ
verdict_number accepted = 0
verdict_number (refused r) = number_of r

abbrev pub verdict_place : Verdict → ℕ
verdict_place accepted = 0
verdict_place (refused r) = place_of r

-- refused where the condition holds, otherwise as what follows says
abbrev pub refuse : Bool → Refusal → Verdict → Verdict
refuse true r next = refused r
refuse false r next = next

-- refused with the place where there is one, otherwise as what follows says
abbrev pub refuse_at : Spot → (ℕ → Refusal) → Verdict → Verdict
refuse_at (place k) r next = refused (r k)
refuse_at none r next = next

-- 1 and 2, on the pattern's length
unfoldable pub pattern_verdict : ℕ → Verdict → Verdict
pattern_verdict m next = refuse (eqb m 0) EmptyPattern (refuse (ltb pattern_limit m) (LongPattern m) next)

-- 21, on the pattern's samples
unfoldable pub stitches_verdict : List ℤ → Verdict → Verdict
stitches_verdict P next = refuse_at (first_lost_lem P) LostStitch next

-- 3, on the lengths of the witness tables, and of all four
unfoldable pub witnesses_verdict : ℕ → ℕ → ℕ → Verdict → Verdict
witnesses_verdict m wi wj next = refuse (ltb wi m) (ShortTable WitnessI) (refuse (ltb wj m) (ShortTable WitnessJ) next)

unfoldable pub tables_verdict : ℕ → ℕ → ℕ → ℕ → ℕ → Verdict → Verdict
tables_verdict m low high wi wj next =
    refuse (ltb low m) (ShortTable Low) (refuse (ltb high m) (ShortTable High) (witnesses_verdict m wi wj next))

-- preparation, on the pattern and the lengths of the tables: 1, 2, 21 and 3
unfoldable pub prepare_verdict : List ℤ → ℕ → ℕ → ℕ → ℕ → Verdict
prepare_verdict P low high wi wj = pattern_verdict (length P) (stitches_verdict P (tables_verdict (length P) low high wi wj accepted))

-- the call on two windows, which has a pattern's length alone: 1 to 3, on the witness tables
unfoldable pub agree_verdict : ℕ → ℕ → ℕ → Verdict
agree_verdict m wi wj = pattern_verdict m (witnesses_verdict m wi wj accepted)

-- 4 to 6, on the lengths of the trace and of the two buffers
unfoldable pub room_verdict : ℕ → ℕ → ℕ → ℕ → Verdict → Verdict
room_verdict m n survivors positions next =
    refuse (ltb trace_limit n) (LongTrace n)
    (refuse (ltb survivors (windows_of m n)) (ShortSurvivors (windows_of m n))
    (refuse (ltb positions (windows_of m n)) (ShortPositions (windows_of m n)) next))

-- entry k of a table is not what preparation writes there
unfoldable pub foreign_at : List ℕ → (ℕ → Spot) → ℕ → Bool
foreign_at table own k = not (eqb (get_or table k 0) (entry (own k)))

-- 14 to 17, on the tables in their order, each at its lowest such entry below m
unfoldable pub own_verdict : List ℤ → List ℕ → List ℕ → List ℕ → List ℕ → Verdict
own_verdict P low high wi wj =
    refuse_at (lowest (foreign_at low (low_of P)) (length P)) (ForeignEntry Low)
    (refuse_at (lowest (foreign_at high (high_of P)) (length P)) (ForeignEntry High)
    (refuse_at (lowest (foreign_at wi (witness_i_of P)) (length P)) (ForeignEntry WitnessI)
    (refuse_at (lowest (foreign_at wj (witness_j_of P)) (length P)) (ForeignEntry WitnessJ) accepted)))

-- search: 1, 2 and 21, then 3 to 6, then 14 to 17
unfoldable pub search_verdict : List ℤ → List ℕ → List ℕ → List ℕ → List ℕ → List ℤ → ℕ → ℕ → Verdict
search_verdict P low high wi wj T survivors positions =
    pattern_verdict (length P)
    (stitches_verdict P
    (tables_verdict (length P) (length low) (length high) (length wi) (length wj)
    (room_verdict (length P) (length T) survivors positions
    (own_verdict P low high wi wj))))

-- 8 and 9: the bytes end with a trailer
unfoldable pub trailer_verdict : List ℕ → Verdict → Verdict
trailer_verdict bs next =
    refuse (ltb (length bs) trailer_size) (ShortRecording (length bs)) (refuse (not (marked bs)) (WrongMark (length bs - 4)) next)

-- 10 to 12: a trailer that begins at byte `start` points back to whole samples, within the bytes, for which there is room
unfoldable pub points_verdict : ℕ → ℕ → ℕ → ℕ → Verdict
points_verdict start distance count room =
    refuse (not (eqb distance (4 * count))) (WrongDistance start)
    (refuse (ltb start distance) (LongDistance start) (refuse (ltb room count) (ShortSamples count) accepted))

-- reading: 8 to 12
unfoldable pub read_verdict : List ℕ → ℕ → Verdict
read_verdict bs room = trailer_verdict bs (points_verdict (length bs - trailer_size) (distance_back bs) (sample_count bs) room)

-- writing: 18 to 20, on a buffer's length, how many of its bytes are in use, and the number of samples
unfoldable pub write_verdict : ℕ → ℕ → ℕ → Verdict
write_verdict room k count =
    refuse (ltb room k) (Unplaced LongLead)
    (refuse (ltb recording_limit count) (Unplaced ManySamples) (refuse (ltb room (k + recording_size count)) (Unplaced ShortBuffer) accepted))
