-- Shows: a stack in a buffer's first entries, with "unused" behind it, is what the duels' promise says; their conditions are those on
-- two tables, and then those on room; and no second answer, nor other content of the buffer, satisfies the promise.
-- Assumes nothing.
use Prim.Native.Nat.{ℕ, ◌+◌, ◌-◌, ◌≤◌, ◌<◌}
use mathlib.Core.Path.{◌≡◌, refl, sym, ◌∙◌, ap, subst}
use mathlib.Core.List.{List, ◌++◌, reverse}
use mathlib.Core.Bool.{Bool, true, false, not}
use native.Mathlib.Omega.{arith}
use native.Mathlib.Nat.{sub-zero}
use Rattle.std.specs.Prelude.{Result, Ok, Err}
use lib.Dec.{ltb}
use lib.IntN.{ℤ}
use lib.ListN.{length, take, drop, replicate, length-reverse, take-append-drop}
use borrow.Author.Tests.{le-ltb, ne_eqb}
use Rattle.order.specs.declared.refusal.Refusal.{Refusal}
use Rattle.order.specs.declared.refusal.Refusal.TheVariants.{LongTrace, ShortSurvivors, ShortPositions}
use Rattle.order.specs.Sizes.{Spot, none, place, unused, lowest, pattern_limit, trace_limit, windows_of}
use Rattle.order.specs.Duels.{Stack, stacked, is_struck, struck, entrants}
use Rattle.order.specs.Refusals.{Verdict, accepted, refused, refuse, pattern_verdict, witnesses_verdict, agree_verdict, room_verdict}
use Rattle.order.specs.Written.{over, filled}
use Rattle.order.proofs.Rows.{row_passes, row_refuses}
use Rattle.order.proofs.Lists.{length-those}
use Rattle.order.specs.Answers.{answer_by}
use Rattle.order.proofs.Answered.{ok_accepted, err_refused}
use Rattle.sizes.proofs.Verdicts.{pattern_passed, witnesses_passed, room_passed}
use Rattle.sizes.proofs.VerdictRows.{agree_row}
use Rattle.lists.proofs.FilledUp.{written_out, filled-over}
use Rattle.duels.specs.declared.arrivals.Arrived.{Arrived}
use Rattle.duels.specs.declared.answers.Duelled.{Duelled}
use Rattle.duels.specs.declared.answers.Unfought.{Unfought}
use Rattle.duels.specs.declared.answers.Unfought.TheVariants.{Refused}
use Rattle.duels.specs.DuelPromise.{untold_at, meets_by, stack_by, duel_verdict, duels_number, duels_place, duels_by, after_duels, duelled_of, DuelPromise}
use Rattle.duels.specs.Inside.Stacks.{top, pushed_run, enters, ArrivedOf, SameBehind, AllAgree, AllFree, KeptOf, Fought}
use Rattle.duels.proofs.StackLaws.{length-top, reverse-top, few_arrived, at_first, standing_as, run_written, same_run}
use Rattle.duels.proofs.LostRuns.{none_struck}

-- ---- the buffer

module _ (P : List ℤ) (wi wj : List ℕ) (T : List ℤ) {before after : List ℕ} {windows : ℕ} {w : Arrived} (e : windows ≡ windows_of (length P) (length T)) (s : ArrivedOf P wi wj T after windows w) (same : SameBehind windows before after) where
  stack_is : stack_by P wi wj T ≡ stacked (top after w.kept) (w.windows - w.kept - w.both)
  unfolding stack_by entrants
  stack_is = rw e at s.stack

  -- as many were struck as did not arrive
  struck_is : windows - w.windows ≡ struck P T
  unfolding struck
  struck_is =
      let n = s.number in
      let c = length-those (is_struck P T) windows in
      rw (← e) (omega arith)

  pub few-kept : w.kept ≤ windows
  few-kept = let c = s.count in let f = few_arrived s in omega arith

  pub filled_up : {end : List ℕ} → windows ≤ length before → end ≡ take w.kept after ++ (replicate (windows - w.kept) unused ++ drop windows after)
      → KeptOf P wi wj T before end (record { kept = w.kept; fought = w.windows - w.kept - w.both; struck = windows - w.windows })
  filled_up {end} h u =
      let c = s.count in
      let f = few_arrived s in
      let l = same.same_length in
      let kept_number : w.kept ≡ length (stack_by P wi wj T).kept = sym (ap (λ (t : Stack). length t.kept) stack_is ∙ length-top after w.kept) in
      let kept-first : take w.kept after ≡ reverse (stack_by P wi wj T).kept = sym (ap (λ (t : Stack). reverse t.kept) stack_is ∙ reverse-top after w.kept (omega arith)) in
      record {
        answer = told kept_number (sym (ap (λ (t : Stack). t.fought) stack_is)) struck_is;
        count = omega arith;
        written = subst (λ (n : ℕ). end ≡ over (filled (reverse (stack_by P wi wj T).kept) n) before) e
            (written_out (reverse (stack_by P wi wj T).kept) before after w.kept windows kept-first
            (kept_number ∙ sym (length-reverse (stack_by P wi wj T).kept)) (omega arith) same.beyond u);
      }
    where
      told : {p q r p' q' r' : ℕ} → p ≡ p' → q ≡ q' → r ≡ r' → ◌≡◌ {A = Duelled} (record { kept = p; fought = q; struck = r }) (record { kept = p'; fought = q'; struck = r' })
      told x y z = rw (x, y, z) refl

-- all windows, of a trace without a lost stitch, where all agree: there is nothing to fill
pub all_up : (P : List ℤ) (wi wj : List ℕ) (T : List ℤ) {before after : List ℕ} {windows : ℕ} → windows ≡ windows_of (length P) (length T) → windows ≤ length before
    → AllAgree (meets_by P wi wj T) → AllFree T windows before after → KeptOf P wi wj T before after (record { kept = windows; fought = 0; struck = 0 })
all_up P wi wj T {before} {after} {windows} e h all f =
    let s = run_written all (at_first (meets_by P wi wj T) (enters P T) before) (omega arith) (λ x g k. ap not (none_struck P T f.free x)) (omega arith) (f.pushed ∙ ap (pushed_run before 0 0) (sym (sub-zero windows))) in
    let t : ArrivedOf P wi wj T after windows (record { windows = windows; kept = windows; both = 0 }) = standing_as s refl (omega arith) (omega arith) refl in
    let same : SameBehind windows before after = rw f.pushed (same_run before 0 0 windows (omega arith)) in
    let none : windows - windows ≡ 0 = omega arith in
    let d : windows - windows - 0 ≡ 0 = omega arith in
    rw none at (rw d at (filled_up P wi wj T {before = before} e t same {end = after} h (sym (rw none (take-append-drop windows after)))))

-- what was written before in the entries of windows is written over
pub kept-over : (P : List ℤ) (wi wj : List ℕ) (T : List ℤ) {before between after : List ℕ} {d : Duelled} → SameBehind (windows_of (length P) (length T)) before between → KeptOf P wi wj T between after d → KeptOf P wi wj T before after d
kept-over P wi wj T {before} {between} s k =
    let l = reverse (stack_by P wi wj T).kept in
    let N = windows_of (length P) (length T) in
    let c = k.count in
    let n = ap (λ (u : Duelled). u.kept) k.answer in
    let r = length-reverse (stack_by P wi wj T).kept in
    let few : length l ≤ N = omega arith in
    record {
      answer = k.answer;
      count = k.count;
      written = k.written ∙ filled-over l between N few ∙ ap (λ rest. l ++ (replicate (N - length l) unused ++ rest)) s.beyond ∙ sym (filled-over l before N few);
    }

module _ {P : List ℤ} {wi wj : List ℕ} {T : List ℤ} {before : List ℕ} where
  pub fought : {d : Duelled} {after : List ℕ} → lowest (untold_at P wi wj) (length P) ≡ none → KeptOf P wi wj T before after d → Fought P wi wj T before after (Ok d)
  fought {d} e k =
      record {
        answer = rw e (ap Ok k.answer);
        written = k.written;
        bound = λ c g. let same : d ≡ c = cc in subst (λ (u : Duelled). u.fought + u.kept + u.struck ≤ windows_of (length P) (length T)) same k.count;
      }

-- ---- the conditions

module _ (m wi wj n survivors : ℕ) where
  -- with the same room for the positions as for the survivors, 6 is never given
  room_twice : (t u : Bool) (v : Verdict)
      → refuse t (LongTrace n) (refuse u (ShortSurvivors (windows_of m n)) (refuse u (ShortPositions (windows_of m n)) v))
      ≡ refuse t (LongTrace n) (refuse u (ShortSurvivors (windows_of m n)) v)
  room_twice true u v = refl
  room_twice false true v = refl
  room_twice false false v = refl

  -- the tables are refused, or the room decides
  tables_decide : {why : Refusal} → Err why ≡ answer_by (agree_verdict m wi wj) (tt {0}) → duel_verdict m wi wj n survivors ≡ refused why
  unfolding duel_verdict agree_verdict
  tables_decide {why} e =
      row_refuses (λ v. pattern_verdict m (witnesses_verdict m wi wj v)) (agree_row m wi wj) (err_refused (pattern_verdict m (witnesses_verdict m wi wj accepted)) (tt {0}) e) _

  room_decides : {u : Unit {0}} → Ok u ≡ answer_by (agree_verdict m wi wj) (tt {0}) → duel_verdict m wi wj n survivors ≡ room_verdict m n survivors survivors accepted
  unfolding duel_verdict agree_verdict room_verdict
  room_decides e =
      row_passes (λ v. pattern_verdict m (witnesses_verdict m wi wj v)) (agree_row m wi wj) (ok_accepted (pattern_verdict m (witnesses_verdict m wi wj accepted)) (tt {0}) e).0 _ ∙
      sym (room_twice (ltb trace_limit n) (ltb survivors (windows_of m n)) accepted)

  -- lengths that are accepted
  pub duels-accepted : 0 < m → m ≤ pattern_limit → m ≤ wi → m ≤ wj → n ≤ trace_limit → windows_of m n ≤ survivors → duel_verdict m wi wj n survivors ≡ accepted
  unfolding duel_verdict pattern_verdict witnesses_verdict
  duels-accepted a b c d e f =
      rw (ne_eqb m 0 (λ z. omega arith), le-ltb pattern_limit m b, le-ltb wi m c, le-ltb wj m d, le-ltb trace_limit n e, le-ltb survivors (windows_of m n) f) refl

-- ---- the promise

module _ (P : List ℤ) (wi wj : List ℕ) (T : List ℤ) (before : List ℕ) where
  abbrev verdict : Verdict
  verdict = duel_verdict (length P) (length wi) (length wj) (length T) (length before)

  by_refusal : {why : Refusal} → verdict ≡ refused why → DuelPromise P wi wj T before (Err (Refused why)) before
  by_refusal w =
      record {
        number = rw w refl;
        place = rw w refl;
        answer = rw w refl;
        survivors_after = refl;
        bound = λ d g. absurd (let z : ◌≡◌ {A = ℕ} 0 1 = cc in omega arith);
      }

  -- the tables are refused, or the room
  pub tables-refused : {why : Refusal} → Err why ≡ answer_by (agree_verdict (length P) (length wi) (length wj)) (tt {0}) → DuelPromise P wi wj T before (Err (Refused why)) before
  tables-refused e = by_refusal (tables_decide (length P) (length wi) (length wj) (length T) (length before) e)

  module _ {u : Unit {0}} (t : Ok u ≡ answer_by (agree_verdict (length P) (length wi) (length wj)) (tt {0})) where
    decided : verdict ≡ room_verdict (length P) (length T) (length before) (length before) accepted
    decided = room_decides (length P) (length wi) (length wj) (length T) (length before) t

    pub duels-refused : {why : Refusal} → Err why ≡ answer_by (room_verdict (length P) (length T) (length before) (length before) accepted) (windows_of (length P) (length T))
        → DuelPromise P wi wj T before (Err (Refused why)) before
    duels-refused e = by_refusal (decided ∙ err_refused _ _ e)

    module _ {windows : ℕ} (l : Ok windows ≡ answer_by (room_verdict (length P) (length T) (length before) (length before) accepted) (windows_of (length P) (length T))) where
      fit : (room_verdict (length P) (length T) (length before) (length before) accepted ≡ accepted) × (windows ≡ windows_of (length P) (length T))
      fit = ok_accepted _ _ l

      -- what the windows duel by
      pub field_ready : (0 < length P) × (length P ≤ pattern_limit) × (length P ≤ length wi) × (length P ≤ length wj) × (length T ≤ trace_limit) × (windows ≡ windows_of (length P) (length T))
      unfolding agree_verdict
      field_ready =
          let v = (ok_accepted (agree_verdict (length P) (length wi) (length wj)) (tt {0}) t).0 in
          let a = pattern_passed (length P) _ v in
          let b = witnesses_passed (length P) (length wi) (length wj) accepted a.2 in
          (a.0, a.1, b.0, b.1, (room_passed (length P) (length T) (length before) (length before) accepted fit.0).0, fit.1)

      -- and the room for them
      pub room_ready : windows ≤ length before
      room_ready = rw fit.1 (room_passed (length P) (length T) (length before) (length before) accepted fit.0).1

      unnumbered : (s : Spot) (d : Duelled) → duels_number (duels_by accepted s d) ≡ 0
      unnumbered none d = refl
      unnumbered (place a) d = refl

      unplaced : (s : Spot) (d : Duelled) → duels_place (duels_by accepted s d) ≡ 0
      unplaced none d = refl
      unplaced (place a) d = refl

      pub duels-done : {r : Result Duelled Unfought} {after : List ℕ} → Fought P wi wj T before after r → DuelPromise P wi wj T before r after
      duels-done k =
          let s = lowest (untold_at P wi wj) (length P) in
          let d = duelled_of (stack_by P wi wj T) (struck P T) in
          record {
            number = rw (decided ∙ fit.0) (ap duels_number k.answer ∙ unnumbered s d);
            place = rw (decided ∙ fit.0) (ap duels_place k.answer ∙ unplaced s d);
            answer = rw (decided ∙ fit.0) k.answer;
            survivors_after = k.written;
            bound = k.bound;
          }

  -- no second answer, and no other content of the buffer
  pub duels_only_answer : {r s : Result Duelled Unfought} {after₁ after₂ : List ℕ} → DuelPromise P wi wj T before r after₁ → DuelPromise P wi wj T before s after₂ → (r ≡ s) × (after₁ ≡ after₂)
  duels_only_answer {r} {s} p q =
      let same : r ≡ s = p.answer ∙ sym q.answer in
      (same, p.survivors_after ∙ ap (λ t. after_duels t (filled (reverse (stack_by P wi wj T).kept) (windows_of (length P) (length T))) before) same ∙ sym q.survivors_after)
