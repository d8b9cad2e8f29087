-- Shows: what is handed to the host of a frame's answer, case by case, and that nothing else can be.
-- Assumes nothing.
use Prim.Native.Nat.{ℕ}
use mathlib.Core.Path.{◌≡◌, refl, sym, ◌∙◌}
use mathlib.Core.List.{List}
use Rattle.std.specs.Prelude.{Result, Err}
use Rattle.order.specs.declared.refusal.Refusal.{Refusal}
use Rattle.order.specs.Refusals.{Verdict}
use Rattle.order.proofs.Answered.{err_refused}
use Rattle.frames.specs.declared.answers.Sighted.{Sighted}
use Rattle.frames.specs.FramePromise.{sighted_of, buffers_verdict, FramePromise}
use Rattle.host_answers.specs.Results.{refusal_result}
use Rattle.host_answers.proofs.Numbers.{told-apart}
use Rattle.host_frames.specs.Promises.{HostFrame}

module _ (F : List ℕ) (height width pitch : ℕ) (Q : List ℕ) (h k : ℕ) (before : List ℕ) (places found : ℕ) where
  abbrev verdict : Verdict
  verdict = buffers_verdict F height width pitch Q h k before

  pub frame_refused : {answer : Result Sighted Refusal} {why : Refusal} {code : ℕ} {after : List ℕ} → answer ≡ Err why → FramePromise F height width pitch Q h k before answer after → code ≡ refusal_result why
      → HostFrame F height width pitch Q h k before places found code after places found
  frame_refused {answer} {why} g p e =
      let w = err_refused verdict (sighted_of F height width pitch Q h k) (sym g ∙ p.answer) in
      record {
        result = rw w e;
        positions_after = p.positions_after;
        places_after = rw w refl;
        found_after = rw w refl;
        exact = λ z. absurd (told-apart verdict why w (rw w (sym e ∙ z)));
      }

  -- no second number, and no other content of what was lent
  pub tension_frame_only_answer : {r s : ℕ} {after₁ after₂ : List ℕ} {places₁ found₁ places₂ found₂ : ℕ} → HostFrame F height width pitch Q h k before places found r after₁ places₁ found₁
      → HostFrame F height width pitch Q h k before places found s after₂ places₂ found₂ → (r ≡ s) × (after₁ ≡ after₂) × (places₁ ≡ places₂) × (found₁ ≡ found₂)
  tension_frame_only_answer p q = (
    p.result ∙ sym q.result,
    p.positions_after ∙ sym q.positions_after,
    p.places_after ∙ sym q.places_after,
    p.found_after ∙ sym q.found_after,
  )
