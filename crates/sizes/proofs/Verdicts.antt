-- Shows: what holds of a pattern and of lengths where a row of conditions is passed.
-- Assumes nothing.
use mathlib.Core.Path.{◌≡◌, refl}
use Prim.Native.Nat.{ℕ, ◌≤◌, ◌<◌}
use native.Mathlib.Nat.{pos_of_ne-zero}
use mathlib.Core.List.{List}
use lib.Dec.{ltb, eqb}
use lib.IntN.{ℤ}
use lib.ListN.{length}
use native.Mathlib.Omega.{arith}
use borrow.Author.Tests.{eqb-false, ltb-false, le-ltb}
use Rattle.order.specs.declared.refusal.Table.TheVariants.{Low, High, WitnessI, WitnessJ}
use Rattle.order.specs.declared.refusal.Refusal.TheVariants.{EmptyPattern, LongPattern, ShortTable, LostStitch}
use Rattle.order.specs.Sizes.{none, pattern_limit, trace_limit, windows_of}
use Rattle.order.specs.Lost.{first_lost_lem}
use Rattle.order.specs.Refusals.{Verdict, accepted, refuse, pattern_verdict, stitches_verdict, witnesses_verdict, tables_verdict, prepare_verdict, agree_verdict, room_verdict}
use Rattle.order.proofs.Rows.{passed, passed_at}
use Rattle.sizes.specs.Lengths.{Room}

pub pattern_passed : (m : ℕ) (next : Verdict) → pattern_verdict m next ≡ accepted → (0 < m) × (m ≤ pattern_limit) × (next ≡ accepted)
unfolding pattern_verdict
pattern_passed m next e =
    let a = passed (eqb m 0) EmptyPattern (refuse (ltb pattern_limit m) (LongPattern m) next) e in
    let b = passed (ltb pattern_limit m) (LongPattern m) next a.1 in
    let f : m ≡ 0 → ⊥ = eqb-false m 0 a.0 in
    (pos_of_ne-zero f, ltb-false pattern_limit m b.0, b.1)

pub stitches_passed : (P : List ℤ) (next : Verdict) → stitches_verdict P next ≡ accepted → (first_lost_lem P ≡ none) × (next ≡ accepted)
unfolding stitches_verdict
stitches_passed P next e = passed_at (first_lost_lem P) LostStitch next e

pub witnesses_passed : (m wi wj : ℕ) (next : Verdict) → witnesses_verdict m wi wj next ≡ accepted → (m ≤ wi) × (m ≤ wj) × (next ≡ accepted)
unfolding witnesses_verdict
witnesses_passed m wi wj next e =
    let a = passed (ltb wi m) (ShortTable WitnessI) (refuse (ltb wj m) (ShortTable WitnessJ) next) e in
    let b = passed (ltb wj m) (ShortTable WitnessJ) next a.1 in
    (ltb-false wi m a.0, ltb-false wj m b.0, b.1)

pub tables_passed : (m low high wi wj : ℕ) (next : Verdict) → tables_verdict m low high wi wj next ≡ accepted →
    (m ≤ low) × (m ≤ high) × (m ≤ wi) × (m ≤ wj) × (next ≡ accepted)
unfolding tables_verdict
tables_passed m low high wi wj next e =
    let a = passed (ltb low m) (ShortTable Low) (refuse (ltb high m) (ShortTable High) (witnesses_verdict m wi wj next)) e in
    let b = passed (ltb high m) (ShortTable High) (witnesses_verdict m wi wj next) a.1 in
    let c = witnesses_passed m wi wj next b.1 in
    (ltb-false low m a.0, ltb-false high m b.0, c.0, c.1, c.2)

pub room_passed : (m n survivors positions : ℕ) (next : Verdict) → room_verdict m n survivors positions next ≡ accepted
    → (n ≤ trace_limit) × (windows_of m n ≤ survivors) × (windows_of m n ≤ positions) × (next ≡ accepted)
unfolding room_verdict
room_passed m n survivors positions next e =
    let a = passed (ltb trace_limit n) _ _ e in
    let b = passed (ltb survivors (windows_of m n)) _ _ a.1 in
    let c = passed (ltb positions (windows_of m n)) _ _ b.1 in
    (ltb-false trace_limit n a.0, ltb-false survivors (windows_of m n) b.0, ltb-false positions (windows_of m n) c.0, c.1)

-- what preparation accepts
pub prepare_room : (P : List ℤ) (low high wi wj : ℕ) → prepare_verdict P low high wi wj ≡ accepted → Room (length P) low high wi wj
unfolding prepare_verdict
prepare_room P low high wi wj e =
    let p = pattern_passed (length P) (stitches_verdict P (tables_verdict (length P) low high wi wj accepted)) e in
    let q = stitches_passed P (tables_verdict (length P) low high wi wj accepted) p.2 in
    let t = tables_passed (length P) low high wi wj accepted q.1 in
    record { some = p.0; limit = p.1; low_room = t.0; high_room = t.1; witness_i_room = t.2; witness_j_room = t.3 }

pub prepare_unlost : (P : List ℤ) (low high wi wj : ℕ) → prepare_verdict P low high wi wj ≡ accepted → first_lost_lem P ≡ none
unfolding prepare_verdict
prepare_unlost P low high wi wj e =
    let p = pattern_passed (length P) (stitches_verdict P (tables_verdict (length P) low high wi wj accepted)) e in
    (stitches_passed P (tables_verdict (length P) low high wi wj accepted) p.2).0

-- the call on two windows has no neighbour tables: as if these had an entry for each sample
pub own_room : (m wi wj : ℕ) (next : Verdict) → tables_verdict m m m wi wj next ≡ witnesses_verdict m wi wj next
unfolding tables_verdict
own_room m wi wj next = rw (le-ltb m m (omega arith)) refl

pub agree-room : (m wi wj : ℕ) → agree_verdict m wi wj ≡ accepted → m ≤ wi
unfolding agree_verdict
agree-room m wi wj e =
    let p = pattern_passed m (witnesses_verdict m wi wj accepted) e in
    (witnesses_passed m wi wj accepted p.2).0
