-- Shows: a search by the fronts of the host's tables is one by the whole tables; a pattern and lengths that fit give what the search asks,
-- and others the search's refusal; so what the call leaves meets its promise, the demands among it, which no second result or byte
-- satisfies.
-- Assumes nothing.
use Prim.Native.Nat.{ℕ, zero, suc, ◌-◌, ◌/◌, ◌≤◌, ◌<◌}
use mathlib.Core.Path.{◌≡◌, refl, sym, ◌∙◌, ap, ap₂}
use mathlib.Core.List.{List, ◌++◌}
use mathlib.Core.Bool.{Bool, cond}
use native.Mathlib.Omega.{arith}
use native.Mathlib.Nat.{sub-zero}
use Rattle.std.specs.Prelude.{Result, Ok, Err}
use lib.IntN.{ℤ}
use lib.ListN.{length, get_or, take, drop, replicate, length-append, length-replicate}
use lib.Seq.{take_at, length-take-le}
use borrow.Author.Tests.{ne_eqb, le-ltb}
use Rattle.order.specs.declared.refusal.Refusal.{Refusal}
use Rattle.order.specs.declared.steps.Counts.{Counts}
use Rattle.order.specs.Sizes.{Spot, none, place, lowest, or_else, pattern_limit, trace_limit, windows_of}
use Rattle.order.specs.Lost.{first_lost_lem}
use Rattle.order.specs.Refusals.{Verdict, accepted, refused, pattern_verdict, stitches_verdict, witnesses_verdict, tables_verdict, room_verdict, own_verdict, foreign_at, search_verdict}
use Rattle.order.specs.Neighbours.{low_of, high_of}
use Rattle.order.specs.Witnesses.{witness_i_of, witness_j_of}
use Rattle.order.specs.Duels.{survivors as kept-windows}
use Rattle.order.specs.Sweeping.{positions as listed-windows}
use Rattle.order.specs.Written.{over, filled}
use Rattle.order.proofs.Lists.{length-each, get_or-each, windows_of_as}
use Rattle.order.proofs.Dueling.{duels-and-survivors}
use Rattle.order.specs.Written.{after_verdict}
use Rattle.sizes.specs.Lengths.{Room}
use Rattle.search.specs.SearchPromise.{SearchPromise}
use Rattle.sizes.specs.Lengths.{fitting_verdict, FittingPromise}
use Rattle.order.specs.Answers.{answer_by}
use Rattle.order.proofs.Answered.{ok_accepted, err_refused}
use Rattle.order.proofs.Rows.{then_row, row_refuses}
use Rattle.sizes.proofs.Verdicts.{pattern_passed, stitches_passed, tables_passed, room_passed}
use Rattle.sizes.proofs.VerdictRows.{sizes, sizes_row, room_row, pattern_stays}
use Rattle.search.proofs.WrittenOut.{positions-few}
use Rattle.search.proofs.SearchLaws.{search_ready}
use Rattle.words.specs.Bytes.{first_entries, samples_in, entries_in, bytes_of}
use Rattle.host_answers.specs.Results.{result_of, refusal_result, counts_list}
use Rattle.words.specs.Handed.{entries_taken, words_put}
use Rattle.host_answers.proofs.Numbers.{only_accepted}
use Rattle.words.proofs.Handing.{entries_taken_lem, words_put_lem}
use Rattle.host_calls.specs.HostPromises.{HostSearch, search_case, kept_bytes, listed_bytes, count_bytes}
use Rattle.host_calls.specs.Inside.{Fits}
use Rattle.host_answers.specs.Answers.{AnswerPut}
use Rattle.host_calls.proofs.HostDemands.{counts-back, demands-back}

-- ---- the search's arrays hold the host's entries

-- the first entries of one table, in a part of a list and what follows it
pub front_read : (table entries rest : List ℕ) (m : ℕ) {part : List ℕ} → m ≤ length entries → m ≤ length table / 2 → part ≡ entries_taken table (take (m - 0) entries)
    → take m (part ++ rest) ≡ first_entries table m
front_read table entries rest m h t p =
    let long : length (take (m - 0) entries) ≡ m = length-take-le (m - 0) entries (omega arith) ∙ sub-zero m in
    let same = entries_taken_lem table (take (m - 0) entries) p (omega arith) ∙ ap (first_entries table) long in
    ap (λ l. take m (l ++ rest)) same ∙ take_at (first_entries table m) rest m (length-each _ m)

-- ---- the fronts of the tables are what a verdict looks at

lowest_same : (p q : ℕ → Bool) (n : ℕ) → ((k : ℕ) → k < n → p k ≡ q k) → lowest p n ≡ lowest q n
unfolding lowest
lowest_same p q zero f = refl
lowest_same p q (suc n) f =
    ap₂ or_else (lowest_same p q n (λ k h. f k (omega arith))) (ap (λ b. cond b (place n) none) (f n (omega arith)))

entry_same : (bs : List ℕ) (m k : ℕ) → m ≤ length bs / 2 → k < m → get_or (first_entries bs m) k 0 ≡ get_or (entries_in bs) k 0
entry_same bs m k h l = get_or-each _ m k 0 l ∙ sym (get_or-each _ (length bs / 2) k 0 (omega arith))

foreign_same : (bs : List ℕ) (own : ℕ → Spot) (m n : ℕ) → m ≤ length bs / 2 → n ≤ m → lowest (foreign_at (first_entries bs m) own) n ≡ lowest (foreign_at (entries_in bs) own) n
unfolding foreign_at
foreign_same bs own m n h l = lowest_same _ _ n (λ k g. rw (entry_same bs m k h (omega arith)) refl)

own_same : (P : List ℤ) (low high wi wj : List ℕ) (m : ℕ) → Room m (length low / 2) (length high / 2) (length wi / 2) (length wj / 2) → length P ≤ m
    → own_verdict P (first_entries low m) (first_entries high m) (first_entries wi m) (first_entries wj m) ≡ own_verdict P (entries_in low) (entries_in high) (entries_in wi) (entries_in wj)
unfolding own_verdict
own_same P low high wi wj m r h =
    rw (
      foreign_same low (low_of P) m (length P) r.low_room h,
      foreign_same high (high_of P) m (length P) r.high_room h,
      foreign_same wi (witness_i_of P) m (length P) r.witness_i_room h,
      foreign_same wj (witness_j_of P) m (length P) r.witness_j_room h,
    ) refl

-- a pattern without a lost stitch and lengths that pass leave only the tables to look at
only_own : (P : List ℤ) (low high wi wj : List ℕ) (T : List ℤ) (s p : ℕ) → first_lost_lem P ≡ none → Room (length P) (length low) (length high) (length wi) (length wj)
    → length T ≤ trace_limit → windows_of (length P) (length T) ≤ s → windows_of (length P) (length T) ≤ p
    → search_verdict P low high wi wj T s p ≡ own_verdict P low high wi wj
unfolding search_verdict pattern_verdict stitches_verdict tables_verdict witnesses_verdict room_verdict
only_own P low high wi wj T s p l r t a b =
    let some = r.some in
    rw (
      ne_eqb (length P) 0 (λ e. omega arith),
      le-ltb pattern_limit (length P) r.limit,
      l,
      le-ltb (length low) (length P) r.low_room,
      le-ltb (length high) (length P) r.high_room,
      le-ltb (length wi) (length P) r.witness_i_room,
      le-ltb (length wj) (length P) r.witness_j_room,
      le-ltb trace_limit (length T) t,
      le-ltb s (windows_of (length P) (length T)) a,
      le-ltb p (windows_of (length P) (length T)) b,
    ) refl

-- a pattern or lengths that do not pass are refused whatever the tables hold
stays : (P : List ℤ) (l h i j n s p : ℕ) (why : Refusal) (next : Verdict) → fitting_verdict P l h i j n s p ≡ refused why → sizes P l h i j (room_verdict (length P) n s p next) ≡ refused why
unfolding fitting_verdict
stays P l h i j n s p why next e =
    row_refuses (λ v. sizes P l h i j (room_verdict (length P) n s p v)) (then_row (sizes P l h i j) (room_verdict (length P) n s p) (sizes_row P l h i j) (room_row (length P) n s p)) e next

-- ---- the look at the pattern and the lengths

-- what lengths that are accepted tell
pub search_fits : (P : List ℤ) (low high wi wj trace survivors positions windows : ℕ) {r : Result ℕ Refusal}
    → FittingPromise P (low / 2) (high / 2) (wi / 2) (wj / 2) (trace / 4) (survivors / 4) (positions / 4) r → r ≡ Ok windows
    → Fits P low high wi wj trace survivors positions windows
unfolding fitting_verdict
search_fits P low high wi wj trace survivors positions windows p e =
    let f = ok_accepted _ _ (sym e ∙ p.answer) in
    let a = pattern_passed (length P) _ f.0 in
    let o = stitches_passed P _ a.2 in
    let b = tables_passed (length P) (low / 2) (high / 2) (wi / 2) (wj / 2) _ o.1 in
    let c = room_passed (length P) (trace / 4) (survivors / 4) (positions / 4) accepted b.4 in
    let number = f.1 in
    let few = windows_of_as (length P) (trace / 4) in
    let some = a.0 in
    let s = c.1 in
    let q = c.2 in
    record {
      unlost = o.0;
      room = record { some = some; limit = a.1; low_room = b.0; high_room = b.1; witness_i_room = b.2; witness_j_room = b.3 };
      trace_bound = c.0;
      number = number;
      few = omega arith;
      kept_room = omega arith;
      listed_room = omega arith;
    }

-- ---- the answer in the host's buffers

-- what is handed over, by the case of the verdict
record Handed (v : Verdict) (c : Counts) (kept listed survivors positions counts : List ℕ) (r : ℕ) (survivors' positions' counts' : List ℕ) : Type 0 where
  result : r ≡ result_of v
  kept_is : survivors' ≡ after_verdict v (bytes_of 4 kept) survivors
  listed_is : positions' ≡ after_verdict v (bytes_of 4 listed) positions
  counts_is : counts' ≡ after_verdict v (bytes_of 4 (take (length counts / 4) (counts_list c))) counts

-- the front of an array, and all of it in the host's buffer
list_put : (F array buffer : List ℕ) {k : ℕ} {array' : List ℕ} → array' ≡ over F array → length F ≡ k → k ≤ length buffer / 4
    → words_put (take k array') buffer ≡ over (bytes_of 4 F) buffer
list_put F array buffer {k} {array'} e l h =
    let front : take k array' ≡ F = ap (take k) e ∙ take_at F (drop (length F) array) k l in
    ap (λ t. words_put t buffer) front ∙ words_put_lem F buffer (omega arith)

handed : (v : Verdict) (kept listed : List ℕ) {k : ℕ} {c : Counts} {answer : Result Counts Refusal} {F G kept' listed' survivors positions counts survivors' positions' counts' : List ℕ} {r : ℕ}
    → answer ≡ answer_by v c → kept' ≡ after_verdict v F kept → listed' ≡ after_verdict v G listed → length F ≡ k → length G ≡ k
    → k ≤ length survivors / 4 → k ≤ length positions / 4 → AnswerPut answer (take k kept') (take k listed') survivors positions counts r survivors' positions' counts'
    → Handed v c F G survivors positions counts r survivors' positions' counts'
handed accepted kept listed {k} {c} {answer} {F} {G} {kept'} {listed'} {survivors} {positions} a x y f g s l p =
    let q = rw a at p in
    record {
      result = q.result;
      kept_is = q.kept_put ∙ list_put F kept survivors x f s;
      listed_is = q.listed_put ∙ list_put G listed positions y g l;
      counts_is = q.counts_put;
    }
handed (refused why) kept listed a x y f g s l p =
    let q = rw a at p in
    record { result = q.result; kept_is = q.kept_put; listed_is = q.listed_put; counts_is = q.counts_put }

length-filled : (l : List ℕ) (n : ℕ) → length l ≤ n → length (filled l n) ≡ n
length-filled l n h = rw (length-append, length-replicate) (omega arith)

module _ (P : List ℤ) (low high wi wj trace survivors positions counts : List ℕ) where
  abbrev T : List ℤ
  T = samples_in trace

  abbrev m : ℕ
  m = length P

  abbrev n : ℕ
  n = length trace / 4

  abbrev verdict : Verdict
  verdict = search_case P low high wi wj trace survivors positions

  abbrev Lengths : ℕ → Type 0
  Lengths windows = Fits P (length low) (length high) (length wi) (length wj) (length trace) (length survivors) (length positions) windows

  -- the result and the bytes are all that is to be shown of a call: what the host reads of them then meets the demands
  promised : {r : ℕ} {survivors' positions' counts' : List ℕ} → r ≡ result_of verdict → survivors' ≡ after_verdict verdict (kept_bytes P T) survivors
      → positions' ≡ after_verdict verdict (listed_bytes P T) positions → counts' ≡ after_verdict verdict (count_bytes P T (length counts / 4)) counts
      → HostSearch P low high wi wj trace survivors positions counts r survivors' positions' counts'
  promised {r} e s p c =
      record {
        result = e;
        survivors_after = s;
        positions_after = p;
        counts_after = c;
        counts_read = λ z. let a = done z in rw (c, a) (counts-back P T (limit a) counts);
        demands = λ z. let a = done z in rw (s, p, a) (demands-back P T (limit a) survivors positions);
      }
    where
      done : r ≡ 0 → verdict ≡ accepted
      done z = only_accepted verdict (sym e ∙ z)

      limit : verdict ≡ accepted → length T ≤ trace_limit
      limit a =
          (search_ready P (entries_in low) (entries_in high) (entries_in wi) (entries_in wj) T (length survivors / 4) (length positions / 4)
          (sym (ap (λ v. answer_by v (windows_of (length P) (length T))) a))).trace

  -- the verdict on the lists that the search is given is the verdict on the host's
  same_verdict : {windows s p : ℕ} → Lengths windows → windows ≤ s → windows ≤ p
      → search_verdict P (first_entries low m) (first_entries high m) (first_entries wi m) (first_entries wj m) T s p ≡ verdict
  same_verdict {windows} {s} {p} f a b =
      let l = f.unlost in
      let r = f.room in
      let t = f.trace_bound in
      let e = f.number in
      let x = f.kept_room in
      let y = f.listed_room in
      let trace-long : length T ≡ n = length-each _ n in
      let few : windows_of (length P) (length T) ≡ windows = ap (windows_of m) trace-long ∙ sym e in
      let own : Room (length P) (length (first_entries low m)) (length (first_entries high m)) (length (first_entries wi m)) (length (first_entries wj m)) =
      rw (length-each, length-each, length-each, length-each)
      (record { some = r.some; limit = r.limit; low_room = omega arith; high_room = omega arith; witness_i_room = omega arith; witness_j_room = omega arith }) in
      let all : Room (length P) (length (entries_in low)) (length (entries_in high)) (length (entries_in wi)) (length (entries_in wj)) =
      rw (length-each, length-each, length-each, length-each) r in
      only_own P (first_entries low m) (first_entries high m) (first_entries wi m) (first_entries wj m) T s p l own (omega arith) (omega arith) (omega arith)
      ∙ own_same P low high wi wj m r (omega arith)
      ∙ sym (only_own P (entries_in low) (entries_in high) (entries_in wi) (entries_in wj) T (length survivors / 4) (length positions / 4) l all (omega arith) (omega arith) (omega arith))

  pub search_put : {windows size : ℕ} {S : List ℤ} {kept' listed' survivors' positions' counts' : List ℕ} {answer : Result Counts Refusal} {r : ℕ}
      → Lengths windows → n ≤ size
      → SearchPromise P (first_entries low m) (first_entries high m) (first_entries wi m) (first_entries wj m) S (replicate size 0) (replicate size 0) answer kept' listed' → S ≡ T
      → AnswerPut answer (take (windows - 0) kept') (take (windows - 0) listed') survivors positions counts r survivors' positions' counts'
      → HostSearch P low high wi wj trace survivors positions counts r survivors' positions' counts'
  search_put {windows} {size} f w p same a =
      let q = rw same at p in
      let fewer = f.few in
      let s = f.kept_room in
      let l = f.listed_room in
      let array : List ℕ = replicate size 0 in
      let long : windows ≤ length array = rw length-replicate (omega arith) in
      let v = same_verdict f long long in
      let N = windows_of (length P) (length T) in
      let number : N ≡ windows - 0 = ap (windows_of m) (length-each _ n) ∙ sym f.number ∙ sym (sub-zero windows) in
      let h = handed verdict array array (rw v at q.answer) (rw v at q.survivors_after) (rw v at q.positions_after)
      (length-filled (kept-windows P T) N (omega (arith, duels-and-survivors P T)) ∙ number)
      (length-filled (listed-windows P T) N (positions-few P T) ∙ number) (omega arith) (omega arith) a in
      promised h.result h.kept_is h.listed_is h.counts_is

  -- ---- the look at the pattern and the lengths

  abbrev Looked : Result ℕ Refusal → Type 0
  Looked r = FittingPromise P (length low / 2) (length high / 2) (length wi / 2) (length wj / 2) n (length survivors / 4) (length positions / 4) r

  pub search_refused : (why : Refusal) {r : Result ℕ Refusal} {code : ℕ} → Looked r → r ≡ Err why → code ≡ refusal_result why
      → HostSearch P low high wi wj trace survivors positions counts code survivors positions counts
  unfolding search_verdict
  search_refused why p e c =
      let f = err_refused _ _ (sym e ∙ p.answer) in
      let v : verdict ≡ refused why =
      rw (length-each, length-each, length-each, length-each, length-each)
      (stays P (length low / 2) (length high / 2) (length wi / 2) (length wj / 2) n (length survivors / 4) (length positions / 4) why _ f) in
      promised (rw v c) (rw v refl) (rw v refl) (rw v refl)

  -- no second result, and no other byte in a buffer
  pub tension_search_only_answer : {r s : ℕ} {kept₁ listed₁ counts₁ kept₂ listed₂ counts₂ : List ℕ}
      → HostSearch P low high wi wj trace survivors positions counts r kept₁ listed₁ counts₁
      → HostSearch P low high wi wj trace survivors positions counts s kept₂ listed₂ counts₂
      → (r ≡ s) × (kept₁ ≡ kept₂) × (listed₁ ≡ listed₂) × (counts₁ ≡ counts₂)
  tension_search_only_answer p q = (
    p.result ∙ sym q.result,
    p.survivors_after ∙ sym q.survivors_after,
    p.positions_after ∙ sym q.positions_after,
    p.counts_after ∙ sym q.counts_after,
  )

-- ---- by the pattern's bytes

-- a length that is refused is refused before all else
pub search_unfit : (pattern low high wi wj trace survivors positions counts : List ℕ) {why : Refusal} {result : ℕ} {c : Result (Unit {0}) Refusal} → c ≡ answer_by (pattern_verdict (length pattern / 4) accepted) tt → c ≡ Err why
    → result ≡ refusal_result why → HostSearch (samples_in pattern) low high wi wj trace survivors positions counts result survivors positions counts
unfolding search_verdict
search_unfit pattern low high wi wj trace survivors positions counts {why} e g r =
    let v : search_case (samples_in pattern) low high wi wj trace survivors positions ≡ refused why = err_refused _ tt (sym g ∙ pattern_stays _ (rw length-each e) g _) in
    promised (samples_in pattern) low high wi wj trace survivors positions counts (rw v r) (rw v refl) (rw v refl) (rw v refl)
