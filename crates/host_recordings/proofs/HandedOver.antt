-- Shows: what is handed to the host of a reading's answer and of a writing's, case by case, and that nothing else can be.
-- Assumes nothing.
use Prim.Native.Nat.{ℕ}
use mathlib.Core.Path.{◌≡◌, refl, sym, ◌∙◌}
use mathlib.Core.List.{List}
use lib.IntN.{ℤ}
use Rattle.std.specs.Prelude.{Result, Ok, Err}
use lib.ListN.{length}
use Rattle.order.specs.declared.refusal.Refusal.{Refusal}
use Rattle.order.specs.Refusals.{read_verdict, write_verdict}
use Rattle.order.proofs.Answered.{ok_accepted, err_refused}
use Rattle.recording.specs.declared.reading.Reading.{Reading}
use Rattle.recording.specs.Readings.{reading_of}
use Rattle.recording.specs.Recorded.{new_length}
use Rattle.recording.specs.Promises.{ReadPromise, WritePromise}
use Rattle.host_answers.specs.Results.{refusal_result}
use Rattle.host_answers.proofs.Numbers.{told-apart}
use Rattle.host_recordings.specs.Promises.{HostRead, HostWrite}

module _ (bs : List ℕ) (samples : List ℤ) (count first : ℕ) where
  pub read_refused : {answer : Result Reading Refusal} {why : Refusal} {code : ℕ} {samples' : List ℤ} → answer ≡ Err why → ReadPromise bs samples answer samples' → code ≡ refusal_result why
      → HostRead bs samples count first code samples' count first
  read_refused {answer} {why} g p e =
      let w = err_refused (read_verdict bs (length samples)) (reading_of bs) (sym g ∙ p.answer) in
      record {
        result = rw w e;
        samples_after = p.samples_after;
        count_after = rw w refl;
        first_after = rw w refl;
        pointed = λ z. absurd (told-apart (read_verdict bs (length samples)) why w (rw w (sym e ∙ z)));
      }

  -- no second number, and no other content of what was lent
  pub tension_read_only_answer : {r s : ℕ} {samples₁ samples₂ : List ℤ} {count₁ first₁ count₂ first₂ : ℕ}
      → HostRead bs samples count first r samples₁ count₁ first₁ → HostRead bs samples count first s samples₂ count₂ first₂
      → (r ≡ s) × (samples₁ ≡ samples₂) × (count₁ ≡ count₂) × (first₁ ≡ first₂)
  tension_read_only_answer p q = (
    p.result ∙ sym q.result,
    p.samples_after ∙ sym q.samples_after,
    p.count_after ∙ sym q.count_after,
    p.first_after ∙ sym q.first_after,
  )

module _ (before : List ℕ) (k : ℕ) (samples : List ℤ) (end : ℕ) where
  pub write_refused : {answer : Result ℕ Refusal} {why : Refusal} {code : ℕ} {after : List ℕ} → answer ≡ Err why → WritePromise before k samples answer after → code ≡ refusal_result why
      → HostWrite before k samples end code after end
  write_refused {answer} {why} g p e =
      let w = err_refused (write_verdict (length before) k (length samples)) (new_length k samples) (sym g ∙ p.answer) in
      record {
        result = rw w e;
        bytes_after = p.bytes_after;
        length_after = rw w refl;
        read_back = λ z. absurd (told-apart (write_verdict (length before) k (length samples)) why w (rw w (sym e ∙ z)));
      }

  pub write_done : {answer : Result ℕ Refusal} {new : ℕ} {after : List ℕ} → answer ≡ Ok new → WritePromise before k samples answer after → HostWrite before k samples end 0 after new
  write_done {answer} {new} g p =
      let d = ok_accepted (write_verdict (length before) k (length samples)) (new_length k samples) (sym g ∙ p.answer) in
      record { result = rw d.0 refl; bytes_after = p.bytes_after; length_after = rw d.0 d.1; read_back = λ z. p.read_back new g }

  pub tension_write_only_answer : {r s : ℕ} {after₁ after₂ : List ℕ} {end₁ end₂ : ℕ} → HostWrite before k samples end r after₁ end₁ → HostWrite before k samples end s after₂ end₂
      → (r ≡ s) × (after₁ ≡ after₂) × (end₁ ≡ end₂)
  tension_write_only_answer p q = (p.result ∙ sym q.result, p.bytes_after ∙ sym q.bytes_after, p.length_after ∙ sym q.length_after)
