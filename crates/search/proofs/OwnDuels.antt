-- Shows: by the entries of the pattern's own witness tables two windows meet as the rules say, so that the duels by these are the rules'
-- duels: the survivors, and how many duels were fought.
-- Assumes nothing beyond the record `Searchable`.
use Prim.Native.Nat.{ℕ, ◌+◌, ◌-◌, ◌≤◌, ◌<◌}
use mathlib.Core.Path.{◌≡◌, refl, sym, ◌∙◌, ap}
use mathlib.Core.List.{List, []}
use mathlib.Core.Bool.{Bool, true, false, cond, ◌||◌}
use native.Mathlib.Omega.{arith}
use Rattle.std.specs.Prelude.{Result, Ok}
use lib.Dec.{leb}
use lib.IntN.{ℤ}
use lib.ListN.{length, get_or, length-reverse}
use borrow.Author.Tests.{le-leb, lt-leb, leb-true, leb-false}
use Rattle.order.specs.declared.steps.Meeting.TheVariants.{Agree}
use Rattle.order.specs.Sizes.{Spot, none, place, is_none, at, entry, no_place}
use Rattle.order.specs.Relations.{rel}
use Rattle.order.specs.Witnesses.{witness_i_of, witness_j_of}
use Rattle.order.specs.Agree.{agree}
use Rattle.order.specs.Duels.{duel, by_witness, meets, stacked, struck, entrants, duelled, duels, survivors}
use Rattle.order.specs.Refusals.{accepted}
use Rattle.order.proofs.Dueling.{arrive-alike}
use Rattle.order.proofs.Witnessing.{witness_is, none_together}
use Rattle.duels.specs.declared.answers.Duelled.{Duelled}
use Rattle.duels.specs.declared.answers.Unfought.{Unfought}
use Rattle.duels.specs.DuelPromise.{untold_at, meets_by, stack_by, duel_verdict, duelled_of, DuelPromise}
use Rattle.duels.proofs.CodeLaws.{all_clear, inside-told, none_clear, told-clear}
use Rattle.duels.proofs.MeetingByEntries.{far_agree as far-by-entries, none_agree, some-duel}
use Rattle.duels.proofs.Promised.{duels-accepted}
use Rattle.search.specs.Inside.Asked.{OwnWitnesses, Searchable, SurvivorsOf}

-- ---- one meeting

-- windows a pattern's length or more apart agree
far_agree : (P T : List ℤ) (x y : ℕ) → length P ≤ y - x → meets P T x y ≡ Agree
unfolding meets agree
far_agree P T x y h = rw (le-leb (length P) (y - x) h) refl

-- what the entries at an offset tell
data Entries (P T : List ℤ) (x y i j : ℕ) : Type 0 where
  agreeing : i ≡ no_place → meets P T x y ≡ Agree → Entries P T x y i j
  duelling : i < j → y - x + j < length P → (rel (at P i) (at P j) ≡ rel (at P (y - x + i)) (at P (y - x + j)) → ⊥) → meets P T x y ≡ duel P T y (y - x) i j → Entries P T x y i j

by_entries : (P T : List ℤ) (x y : ℕ) → y - x < length P → Entries P T x y (entry (witness_i_of P (y - x))) (entry (witness_j_of P (y - x)))
unfolding meets agree is_none by_witness entry
by_entries P T x y h = go (witness_j_of P (y - x)) refl
  where
    go : (s : Spot) → witness_j_of P (y - x) ≡ s → Entries P T x y (entry (witness_i_of P (y - x))) (entry (witness_j_of P (y - x)))
    go none e = agreeing (rw (none_together P (y - x) e) refl) (rw (e, none_together P (y - x) e) (both (leb (length P) (y - x))))
      where
        both : (t : Bool) → cond (t || true) Agree Agree ≡ Agree
        both true = refl
        both false = refl
    go (place j) e =
        let w = witness_is P (y - x) j e in
        duelling (rw (w.1, e) w.2.earlier) (rw e w.2.inside) (rw (w.1, e) w.2.differs)
        (rw (w.1, e, lt-leb (length P) (y - x) h) refl)

by_offset : {P : List ℤ} {wi wj : List ℕ} (T : List ℤ) (x y a : ℕ) → OwnWitnesses P wi wj → a ≡ y - x → a < length P
    → Entries P T x y (get_or wi a 0) (get_or wj a 0)
by_offset {P} {wi} {wj} T x y a own e h =
    rw (own.i_own a h, own.j_own a h, e) (by_entries P T x y (let k = h in omega arith))

own_meets : {P : List ℤ} {wi wj : List ℕ} (T : List ℤ) (x y : ℕ) → OwnWitnesses P wi wj → meets_by P wi wj T x y ≡ meets P T x y
own_meets {P} {wi} {wj} T x y own = go (leb (length P) (y - x)) refl
  where
    near : y - x < length P → Entries P T x y (get_or wi (y - x) 0) (get_or wj (y - x) 0) → meets_by P wi wj T x y ≡ meets P T x y
    near h (agreeing e m) = none_agree P wi wj T x y h e ∙ sym m
    near h (duelling a b d m) = let l = own.limit in sym (m ∙ some-duel P wi wj T x y h (λ e. omega arith) refl refl refl)

    go : (t : Bool) → leb (length P) (y - x) ≡ t → meets_by P wi wj T x y ≡ meets P T x y
    go true e = let h = leb-true (length P) (y - x) e in far-by-entries P wi wj T x y h ∙ sym (far_agree P T x y h)
    go false e = let h = leb-false (length P) (y - x) e in near h (by_offset T x y (y - x) own refl h)

-- each offset has a witness, or its first entry is none
own-clear : {P : List ℤ} {wi wj : List ℕ} → OwnWitnesses P wi wj → (a : ℕ) → a < length P → untold_at P wi wj a ≡ false
own-clear {P} {wi} {wj} own a h = go (by_offset [] 0 a a own (omega arith) h)
  where
    go : Entries P [] 0 a (get_or wi a 0) (get_or wj a 0) → untold_at P wi wj a ≡ false
    go (agreeing e m) = none_clear P wi wj a e
    go (duelling k b d m) =
        let same : a - 0 ≡ a = omega arith in
        told-clear P wi wj a (inside-told P a (get_or wi a 0) (get_or wj a 0) (omega arith) (omega arith) (rw same at d))

-- ---- all of them

own-stack : {P : List ℤ} {wi wj : List ℕ} (T : List ℤ) → OwnWitnesses P wi wj → stack_by P wi wj T ≡ duelled P T
unfolding stack_by duelled
own-stack {P} {wi} {wj} T own = arrive-alike (meets_by P wi wj T) (meets P T) (λ x y. own_meets T x y own) (entrants P T) (stacked [] 0)

-- what the promise of the duels comes to
module _ {P : List ℤ} {low high wi wj : List ℕ} {T : List ℤ} {windows : ℕ} {before after : List ℕ} {r : Result Duelled Unfought} (a : Searchable P low high wi wj T windows)
    (room : windows ≤ length before) (p : DuelPromise P wi wj T before r after) where
  passed : duel_verdict (length P) (length wi) (length wj) (length T) (length before) ≡ accepted
  passed =
      let n = a.number in
      duels-accepted (length P) (length wi) (length wj) (length T) (length before) a.some a.witnesses.limit a.witnesses.i_long a.witnesses.j_long a.trace (omega arith)

  pub answered : r ≡ Ok (duelled_of (duelled P T) (struck P T))
  answered = p.answer ∙ rw (passed, all_clear P wi wj (own-clear a.witnesses)) (ap (λ s. Ok (duelled_of s (struck P T))) (own-stack T a.witnesses))

  pub survivors_out : {d : Duelled} → r ≡ Ok d → SurvivorsOf P T before after d
  unfolding survivors duels
  survivors_out {d} e =
      let same : d ≡ duelled_of (duelled P T) (struck P T) = cc (answered) in
      record {
        number = ap (λ (d : Duelled). d.kept) same ∙ sym (length-reverse (duelled P T).kept);
        fought_is = ap (λ (d : Duelled). d.fought) same;
        struck_is = ap (λ (d : Duelled). d.struck) same;
        written = p.survivors_after ∙ rw (e, own-stack T a.witnesses) refl;
      }
