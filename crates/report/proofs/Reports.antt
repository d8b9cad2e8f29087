-- Shows: that no second answer of a report, nor other content of the buffer, satisfies its promise.
-- Assumes nothing.
use mathlib.Core.Path.{◌≡◌, sym, ◌∙◌}
use mathlib.Core.List.{List}
use Prim.Native.Nat.{ℕ}
use Rattle.std.specs.Prelude.{Result}
use Rattle.report.specs.declared.reporting.ShortText.{ShortText}
use Rattle.report.specs.Promises.{ReportPromise}

-- no second answer, and no other content of the buffer
pub report_only_answer : {input before : List ℕ} {r s : Result ℕ ShortText} {after₁ after₂ : List ℕ} → ReportPromise input before r after₁ → ReportPromise input before s after₂
    → (r ≡ s) × (after₁ ≡ after₂)
report_only_answer p q = (p.answer ∙ sym q.answer, p.text_after ∙ sym q.text_after)
