-- Shows: an accepted search has all that its work asks; what the work leaves meets the search's promise, the demands on the answer
-- among it; and no second answer, nor other content of a buffer, satisfies the promise.
-- Assumes nothing.
use Prim.Native.Nat.{ℕ, ◌≤◌}
use mathlib.Core.Path.{◌≡◌, refl, sym, ◌∙◌, ap, subst₃}
use mathlib.Core.List.{List}
use native.Mathlib.Omega.{arith}
use Rattle.std.specs.Prelude.{Result, Ok, Err}
use lib.IntN.{ℤ}
use lib.ListN.{length, take}
use lib.Seq.{take_at}
use Rattle.order.specs.declared.refusal.Refusal.{Refusal}
use Rattle.order.specs.declared.steps.Counts.{Counts}
use Rattle.order.specs.Sizes.{windows_of}
use Rattle.order.specs.Duels.{survivors}
use Rattle.order.specs.Sweeping.{positions}
use Rattle.order.specs.Written.{counts_of, over, filled}
use Rattle.order.specs.Demands.{Demands}
use Rattle.order.specs.Refusals.{Verdict, search_verdict}
use Rattle.order.proofs.Dueling.{duels-and-survivors}
use Rattle.order.proofs.Whole.{demands_hold}
use Rattle.order.specs.Answers.{answer_by}
use Rattle.order.proofs.Answered.{ok_accepted, err_refused}
use Rattle.search.specs.Inside.Asked.{Searchable, SearchedOf}
use Rattle.search.specs.SearchPromise.{SearchPromise}
use Rattle.sizes.proofs.Verdicts.{pattern_passed, stitches_passed, tables_passed, room_passed}
use Rattle.tables.proofs.ForeignEntries.{accepted-own}
use Rattle.lists.proofs.FilledUp.{filled-over}
use Rattle.search.proofs.WrittenOut.{positions-few}

-- ---- what an accepted search has

module _ (P : List ℤ) (low high wi wj : List ℕ) (T : List ℤ) (s p : ℕ) {windows : ℕ}
    (f : Ok windows ≡ answer_by (search_verdict P low high wi wj T s p) (windows_of (length P) (length T))) where
  ready : Searchable P low high wi wj T windows × (windows ≤ s) × (windows ≤ p)
  unfolding search_verdict
  ready =
      let v = ok_accepted (search_verdict P low high wi wj T s p) (windows_of (length P) (length T)) f in
      let a = pattern_passed (length P) _ v.0 in
      let l = stitches_passed P _ a.2 in
      let b = tables_passed (length P) (length low) (length high) (length wi) (length wj) _ l.1 in
      let c = room_passed (length P) (length T) s p _ b.4 in
      let o = accepted-own P low high wi wj c.3 in
      let n = v.1 in (
        record {
          some = a.0;
          number = n;
          neighbours = record { limit = a.1; low_room = b.0; high_room = b.1; low_own = o.0; high_own = o.1 };
          witnesses = record { limit = a.1; i_long = b.2; j_long = b.3; i_own = o.2; j_own = o.3 };
          trace = c.0;
        },
        omega arith,
        omega arith,
      )

  pub search_ready : Searchable P low high wi wj T windows
  search_ready = ready.0

  -- and room for all its windows
  pub search_room : (windows ≤ s) × (windows ≤ p)
  search_room = (ready.1, ready.2)

-- ---- the promise

-- the list at the front of what is written
front : (l before : List ℕ) (n : ℕ) {after : List ℕ} → length l ≤ n → after ≡ over (filled l n) before → take (length l) after ≡ l
front l before n h e = ap (take (length l)) (e ∙ filled-over l before n h) ∙ take_at l _ (length l) refl

module _ (P : List ℤ) (low high wi wj : List ℕ) (T : List ℤ) (kept listed : List ℕ) where
  abbrev verdict : Verdict
  verdict = search_verdict P low high wi wj T (length kept) (length listed)

  pub search_refused : {why : Refusal} → Err why ≡ answer_by verdict (windows_of (length P) (length T)) → SearchPromise P low high wi wj T kept listed (Err why) kept listed
  search_refused e =
      let w = err_refused verdict (windows_of (length P) (length T)) e in
      record {
        number = rw w refl;
        place = rw w refl;
        answer = rw w refl;
        survivors_after = rw w refl;
        positions_after = rw w refl;
        demands = λ c d. absurd (let z : ◌≡◌ {A = ℕ} 0 1 = cc in omega arith);
      }

  pub search_done : {kept' listed' : List ℕ} {c : Counts} {windows : ℕ} → Ok windows ≡ answer_by verdict (windows_of (length P) (length T)) → SearchedOf P T kept listed kept' listed' c → SearchPromise P low high wi wj T kept listed (Ok c) kept' listed'
  unfolding counts_of
  search_done {kept'} {listed'} {c} e s =
      let w = (ok_accepted verdict (windows_of (length P) (length T)) e).0 in
      record {
        number = rw w refl;
        place = rw w refl;
        answer = rw w (ap Ok s.counts);
        survivors_after = rw w s.survivors_written;
        positions_after = rw w s.positions_written;
        demands = λ d g. answered d (sym (same d g) ∙ s.counts);
      }
    where
      same : (d : Counts) → ◌≡◌ {A = Result Counts Refusal} (Ok c) (Ok d) → c ≡ d
      same d g = cc

      few : length (survivors P T) ≤ windows_of (length P) (length T)
      few = let a = duels-and-survivors P T in omega arith

      answered : (d : Counts) → d ≡ counts_of P T → Demands P T (take d.survivors kept') (take d.found listed') d
      answered d g =
          subst₃ (λ (k l : List ℕ) (c : Counts). Demands P T k l c)
          (sym (ap (λ (c : Counts). take c.survivors kept') g ∙ kept_are))
          (sym (ap (λ (c : Counts). take c.found listed') g ∙ listed-are))
          (sym g)
          (demands_hold P T)
        where
          kept_are : take (counts_of P T).survivors kept' ≡ survivors P T
          kept_are = front (survivors P T) kept (windows_of (length P) (length T)) few s.survivors_written

          listed-are : take (counts_of P T).found listed' ≡ positions P T
          listed-are = front (positions P T) listed (windows_of (length P) (length T)) (positions-few P T) s.positions_written

  -- no second answer, and no other content of a buffer
  pub search_only_answer : {r s : Result Counts Refusal} {kept₁ listed₁ kept₂ listed₂ : List ℕ}
      → SearchPromise P low high wi wj T kept listed r kept₁ listed₁ → SearchPromise P low high wi wj T kept listed s kept₂ listed₂
      → (r ≡ s) × (kept₁ ≡ kept₂) × (listed₁ ≡ listed₂)
  search_only_answer p q =
      (p.answer ∙ sym q.answer, p.survivors_after ∙ sym q.survivors_after, p.positions_after ∙ sym q.positions_after)
