-- Shows: after each step of the program, what is left of its text: the line of the refusal, or what the next step prints.
-- Assumes nothing.
use Prim.Native.Nat.{ℕ, ◌-◌, ◌≤◌, ◌<◌}
use mathlib.Core.Path.{◌≡◌, refl, sym, ◌∙◌, ap, ap₂}
use mathlib.Core.List.{List, [], ◌++◌}
use native.Mathlib.Omega.{arith}
use Rattle.std.specs.Prelude.{Result, Ok, Err}
use lib.IntN.{ℤ}
use lib.ListN.{length, take, drop, length-take, length-replicate}
use lib.Seq.{take_at}
use borrow.Author.Tests.{lt-ltb, le-ltb}
use Rattle.order.specs.declared.steps.Counts.{Counts}
use Rattle.order.specs.declared.refusal.Refusal.{Refusal}
use Rattle.order.specs.declared.refusal.Refusal.TheVariants.{LongInput}
use Rattle.order.specs.Neighbours.{low_table, high_table}
use Rattle.order.specs.Witnesses.{witness_i_table, witness_j_table}
use Rattle.order.specs.Written.{counts_of, over}
use Rattle.order.specs.Recordings.{sample_count, first_sample, samples_of}
use Rattle.order.specs.Refusals.{Verdict, accepted, prepare_verdict, search_verdict, read_verdict}
use Rattle.order.proofs.Answered.{ok_accepted, err_refused}
use Rattle.order.proofs.Lists.{length-each}
use Rattle.order.proofs.Whole.{demands_hold}
use Rattle.tables.specs.Promises.{PreparePromise}
use Rattle.search.specs.SearchPromise.{SearchPromise}
use Rattle.recording.specs.declared.reading.Reading.{Reading}
use Rattle.order.specs.Written.{after_verdict}
use Rattle.recording.specs.Readings.{reading_of}
use Rattle.recording.specs.Promises.{ReadPromise}
use Rattle.recording.proofs.Readings.{read_accepted}
use Rattle.report.specs.Inside.{Listed}
use Rattle.order.specs.Sizes.{input_limit}
use Rattle.report.specs.Texts.{pattern_room, trace_room, ascii, refusal_line, counts_line, lines, blank, after_search, after_preparation, after_pattern, after_trace, text_of}

-- ---- what a reading leaves in the front of its buffer

-- the first n entries, as the program lends them
abbrev pub first : {A : Type 0} → ℕ → List A → List A
first n l = take (n - 0) (drop 0 l)

module _ {bs : List ℕ} {before after : List ℤ} {r : Result Reading Refusal} (p : ReadPromise bs before r after) {told : Reading} (d : r ≡ Ok told) where
  from : (read_verdict bs (length before) ≡ accepted) × (told.count ≡ sample_count bs) × (told.first ≡ first_sample bs)
  from =
      let e = ok_accepted (read_verdict bs (length before)) (reading_of bs) (sym d ∙ p.answer) in
      (e.0, ap (λ (r : Reading). r.count) e.1, ap (λ (r : Reading). r.first) e.1)

  pub read_few : length after ≡ length before → told.count ≤ length after
  read_few l = let a = (read_accepted bs (length before) from.0).3 in let e = from.1 in omega arith

  samples-are : first told.count after ≡ samples_of bs
  unfolding samples_of
  samples-are =
      let all : told.count - 0 ≡ told.count = omega arith in
      ap (λ k. take k after) all ∙ ap (take told.count) (p.samples_after ∙ ap (λ w. after_verdict w (samples_of bs) before) from.0) ∙ take_at (samples_of bs) _ told.count (length-each _ (sample_count bs) ∙ sym from.1)

-- ---- what is left of the text: the pattern, preparation, or the search is next

pub record AtPattern (text lead : List ℕ) (T : List ℤ) : Type 0 where
  pub left : text ≡ after_pattern lead T (read_verdict lead pattern_room)

pub record AtPreparation (text : List ℕ) (P T : List ℤ) : Type 0 where
  pub left : text ≡ after_preparation P T (prepare_verdict P pattern_room pattern_room pattern_room pattern_room)

pub record AtSearch (text : List ℕ) (P : List ℤ) (low high wi wj : List ℕ) (T : List ℤ) : Type 0 where
  pub left : text ≡ after_search P T (search_verdict P low high wi wj T trace_room trace_room)

-- ---- the input, and the trace

module _ (input : List ℕ) where
  pub text_long : input_limit < length input → text_of input ≡ refusal_line (ascii "input") LongInput
  unfolding text_of
  text_long h = rw (lt-ltb input_limit (length input) h) refl

  module _ (short : length input ≤ input_limit) {before trace : List ℤ} {r : Result Reading Refusal} (p : ReadPromise input before r trace) (room : length before ≡ trace_room) where
    begun : text_of input ≡ after_trace input (read_verdict input (length before))
    unfolding text_of
    begun = rw (le-ltb input_limit (length input) short, room) refl

    pub trace-refused : {why : Refusal} → r ≡ Err why → text_of input ≡ refusal_line (ascii "trace") why
    unfolding after_trace
    trace-refused {why} e = begun ∙ ap (after_trace input) (err_refused (read_verdict input (length before)) (reading_of input) (sym e ∙ p.answer))

    pub trace_read : {told : Reading} → r ≡ Ok told → AtPattern (text_of input) (first told.first input) (first told.count trace)
    unfolding after_trace
    trace_read {told} d =
        let all : told.first - 0 ≡ told.first = omega arith in
        record {
          left = begun ∙ ap (after_trace input) (from p d).0 ∙
              ap₂ (λ (lead : List ℕ) (T : List ℤ). after_pattern lead T (read_verdict lead pattern_room)) (sym (ap (λ k. take k input) (all ∙ (from p d).2))) (sym (samples-are p d));
        }

-- ---- the pattern

module _ {text lead : List ℕ} {T : List ℤ} (e : AtPattern text lead T)
    {before pattern : List ℤ} {r : Result Reading Refusal} (p : ReadPromise lead before r pattern) (room : length before ≡ pattern_room) where
  same_room : read_verdict lead pattern_room ≡ read_verdict lead (length before)
  same_room = ap (read_verdict lead) (sym room)

  pub pattern_refused : {why : Refusal} → r ≡ Err why → text ≡ refusal_line (ascii "pattern") why
  unfolding after_pattern
  pattern_refused {why} d = e.left ∙ ap (after_pattern lead T) (same_room ∙ err_refused (read_verdict lead (length before)) (reading_of lead) (sym d ∙ p.answer))

  pub pattern_read : {told : Reading} → r ≡ Ok told → AtPreparation text (first told.count pattern) T
  unfolding after_pattern
  pattern_read {told} d =
      record {
        left = e.left ∙ ap (after_pattern lead T) (same_room ∙ (from p d).0) ∙
            ap (λ (P : List ℤ). after_preparation P T (prepare_verdict P pattern_room pattern_room pattern_room pattern_room)) (sym (samples-are p d));
      }

-- ---- preparation

blank-long : length blank ≡ pattern_room
unfolding blank
blank-long = length-replicate {A = ℕ} pattern_room 0

module _ {text : List ℕ} {P T : List ℤ} (e : AtPreparation text P T) {r : Result (Unit {0}) Refusal} {low₀ high₀ wi₀ wj₀ low high wi wj : List ℕ}
    (p : PreparePromise P low₀ high₀ wi₀ wj₀ r low high wi wj) (a : low₀ ≡ blank) (b : high₀ ≡ blank) (c : wi₀ ≡ blank) (d : wj₀ ≡ blank) where
  abbrev verdict : Verdict
  verdict = prepare_verdict P (length low₀) (length high₀) (length wi₀) (length wj₀)

  same_verdict : prepare_verdict P pattern_room pattern_room pattern_room pattern_room ≡ verdict
  same_verdict = rw (ap length a ∙ blank-long, ap length b ∙ blank-long, ap length c ∙ blank-long, ap length d ∙ blank-long) refl

  pub prepare_refused : {why : Refusal} → r ≡ Err why → text ≡ refusal_line (ascii "search") why
  unfolding after_preparation
  prepare_refused {why} g = e.left ∙ ap (after_preparation P T) (same_verdict ∙ err_refused verdict tt (sym g ∙ p.answer))

  pub prepare_done : r ≡ Ok tt → AtSearch text P low high wi wj T
  unfolding after_preparation
  prepare_done g =
      let w = (ok_accepted verdict tt (sym g ∙ p.answer)).0 in
      record {
        left = e.left ∙ ap (after_preparation P T) (same_verdict ∙ w) ∙
            rw (
              p.low_after ∙ ap (λ v. after_verdict v (low_table P) low₀) w ∙ ap (over (low_table P)) a,
              p.high_after ∙ ap (λ v. after_verdict v (high_table P) high₀) w ∙ ap (over (high_table P)) b,
              p.witness_i_after ∙ ap (λ v. after_verdict v (witness_i_table P) wi₀) w ∙ ap (over (witness_i_table P)) c,
              p.witness_j_after ∙ ap (λ v. after_verdict v (witness_j_table P) wj₀) w ∙ ap (over (witness_j_table P)) d,
            ) refl;
      }

-- ---- the search

module _ {text : List ℕ} {P T : List ℤ} {low high wi wj kept listed : List ℕ} (e : AtSearch text P low high wi wj T) {r : Result Counts Refusal} {kept' listed' : List ℕ}
    (p : SearchPromise P low high wi wj T kept listed r kept' listed') (room : length kept ≡ trace_room) (room' : length listed ≡ trace_room) where
  same_rooms : search_verdict P low high wi wj T trace_room trace_room ≡ search_verdict P low high wi wj T (length kept) (length listed)
  same_rooms = ap₂ (search_verdict P low high wi wj T) (sym room) (sym room')

  pub search_refused : {why : Refusal} → r ≡ Err why → text ≡ refusal_line (ascii "search") why
  unfolding after_search
  search_refused {why} d = e.left ∙ ap (after_search P T) (same_rooms ∙ err_refused (search_verdict P low high wi wj T (length kept) (length listed)) (counts_of P T) (sym d ∙ p.answer))

  pub search_found : {c : Counts} → r ≡ Ok c → text ≡ counts_line c ++ lines (take c.found listed')
  unfolding after_search
  search_found {c} d =
      let f = ok_accepted (search_verdict P low high wi wj T (length kept) (length listed)) (counts_of P T) (sym d ∙ p.answer) in
      e.left ∙ ap (after_search P T) (same_rooms ∙ f.0) ∙
      ap₂ (λ (c : Counts) (l : List ℕ). counts_line c ++ lines l) (sym f.1) ((demands_hold P T).exact ∙ sym (p.demands c d).exact)

-- the positions buffer holds all that are counted
pub found_few : {P T : List ℤ} {low high wi wj kept listed : List ℕ} {r : Result Counts Refusal} {kept' listed' : List ℕ} {c : Counts}
    → SearchPromise P low high wi wj T kept listed r kept' listed' → r ≡ Ok c → c.found ≤ length listed'
found_few {listed' = listed'} {c = c} p d = let n = (p.demands c d).listed_number in let l = length-take c.found listed' in omega arith

-- so their lines have room
pub answer-room : {before : List ℕ} {held found : ℕ} → before ≡ [] → found ≤ held → held ≡ trace_room → Listed (length before) held found
answer-room b h e = let none = ap length b in record { holds = h; fits = omega arith }

-- what is put where nothing was is all of the text
pub alone : {text line before after : List ℕ} → before ≡ [] → text ≡ line → after ≡ before ++ line → after ≡ text
alone {line = line} b e p = p ∙ ap (λ l. l ++ line) b ∙ sym e
