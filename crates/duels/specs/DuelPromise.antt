-- "Duels", by the entries of two witness tables as they stand.
use Rattle.std.specs.Prelude.{ℕ, ◌+◌, ◌-◌, ◌≤◌, ◌≡◌, List, [], reverse, Bool, not, cond, ◌&&◌, leb, ltb, eqb, ℤ, length, get_or, Result, Ok, Err}
use Rattle.order.specs.declared.steps.Meeting.{Meeting}
use Rattle.order.specs.declared.steps.Meeting.TheVariants.{Agree}
use Rattle.order.specs.declared.refusal.Refusal.TheVariants.{LongTrace, ShortSurvivors}
use Rattle.order.specs.Sizes.{Spot, none, place, at, no_place, lowest, trace_limit, windows_of}
use Rattle.order.specs.Relations.{rel, alike}
use Rattle.order.specs.Duels.{duel, Stack, stacked, arrive_all_lem, struck, entrants}
use Rattle.order.specs.Refusals.{Verdict, accepted, refused, refuse, number_of, place_of, verdict_number, verdict_place, pattern_verdict, witnesses_verdict}
use Rattle.order.specs.Written.{over, filled}
use Rattle.duels.specs.declared.answers.Duelled.{Duelled}
use Rattle.duels.specs.declared.answers.Unfought.{Unfought}
use Rattle.duels.specs.declared.answers.Unfought.TheVariants.{Refused, Untold}

-- the entries (i, j) of offset a tell a witness: both places lie inside the pattern, also a places on, and compare otherwise there
unfoldable pub tells_witness : List ℤ → ℕ → ℕ → ℕ → Bool
tells_witness P a i j =
    ltb (a + i) (length P) && (ltb (a + j) (length P) && not (alike (rel (at P i) (at P j)) (rel (at P (a + i)) (at P (a + j)))))

-- the first entry of offset a names a place, and yet the two tell no witness
unfoldable pub untold_at : List ℤ → List ℕ → List ℕ → ℕ → Bool
untold_at P wi wj a = not (eqb (get_or wi a 0) no_place) && not (tells_witness P a (get_or wi a 0) (get_or wj a 0))

-- the duel by the entries of offset a; a first entry of none means no witness
unfoldable pub meeting_by_entries : List ℤ → List ℤ → ℕ → ℕ → ℕ → ℕ → Meeting
meeting_by_entries P T y a i j = cond (eqb i no_place) Agree (duel P T y a i j)

-- what becomes of the older window x and the newer y: they agree if they are m or more apart, and otherwise go by the entries of their
-- distance
unfoldable pub meets_by : List ℤ → List ℕ → List ℕ → List ℤ → ℕ → ℕ → Meeting
meets_by P wi wj T x y = cond (leb (length P) (y - x)) Agree (meeting_by_entries P T y (y - x) (get_or wi (y - x) 0) (get_or wj (y - x) 0))

-- the rules' stack after all windows that take part have arrived, by these meetings
unfoldable pub stack_by : List ℤ → List ℕ → List ℕ → List ℤ → Stack
stack_by P wi wj T = arrive_all_lem (meets_by P wi wj T) (entrants P T) (stacked [] 0)

-- 1 to 5, on the lengths of the pattern, the witness tables and the trace, and room for every window
unfoldable pub duel_verdict : ℕ → ℕ → ℕ → ℕ → ℕ → Verdict
duel_verdict m wi wj n survivors =
    pattern_verdict m
    (witnesses_verdict m wi wj
    (refuse (ltb trace_limit n) (LongTrace n) (refuse (ltb survivors (windows_of m n)) (ShortSurvivors (windows_of m n)) accepted)))

-- the number and place of a refusal, 0 of any other answer
abbrev pub duels_number : Result Duelled Unfought → ℕ
duels_number (Ok d) = 0
duels_number (Err (Refused r)) = number_of r
duels_number (Err (Untold a)) = 0

abbrev pub duels_place : Result Duelled Unfought → ℕ
duels_place (Ok d) = 0
duels_place (Err (Refused r)) = place_of r
duels_place (Err (Untold a)) = 0

-- lengths that are refused; entries that can't be fought with, at the lowest such offset; or what was fought
abbrev pub duels_by : Verdict → Spot → Duelled → Result Duelled Unfought
duels_by (refused r) s d = Err (Refused r)
duels_by accepted (place a) d = Err (Untold a)
duels_by accepted none d = Ok d

-- what a buffer holds after an answer: a list over what it held where the duels were fought, and otherwise what it held
abbrev pub after_duels : Result Duelled Unfought → List ℕ → List ℕ → List ℕ
after_duels (Ok d) l before = over l before
after_duels (Err why) l before = before

-- how many are kept, how many duels were fought, and how many windows were struck before them
abbrev pub duelled_of : Stack → ℕ → Duelled
duelled_of s n = record { kept = length s.kept; fought = s.fought; struck = n }

-- the duels of the windows of the trace T by the witness tables wi and wj of the pattern P, on a stack in a buffer that holds `before`:
-- the answer r, and what the buffer holds after it
pub record DuelPromise (P : List ℤ) (wi wj : List ℕ) (T : List ℤ) (before : List ℕ) (r : Result Duelled Unfought) (after : List ℕ) : Type 0 where
  pub number : duels_number r ≡ verdict_number (duel_verdict (length P) (length wi) (length wj) (length T) (length before))
  pub place : duels_place r ≡ verdict_place (duel_verdict (length P) (length wi) (length wj) (length T) (length before))
  pub answer : r
      ≡ duels_by (duel_verdict (length P) (length wi) (length wj) (length T) (length before)) (lowest (untold_at P wi wj) (length P)) (duelled_of (stack_by P wi wj T) (struck P T))
  -- the kept windows, the first at entry 0, then "unused" up to entry N − 1, then what it held; as it was if nothing was fought
  pub survivors_after : after ≡ after_duels r (filled (reverse (stack_by P wi wj T).kept) (windows_of (length P) (length T))) before
  -- each duel drops a window, and what was struck fights none
  pub bound : (d : Duelled) → r ≡ Ok d → d.fought + d.kept + d.struck ≤ windows_of (length P) (length T)
