-- Shows: nothing but the answer's can be handed to the host.
-- Assumes nothing.
use Prim.Native.Nat.{ℕ}
use mathlib.Core.Path.{◌≡◌, sym, ◌∙◌}
use mathlib.Core.List.{List}
use Rattle.order.specs.declared.refusal.Refusal.{Refusal}
use Rattle.order.specs.declared.steps.Counts.{Counts}
use Rattle.std.specs.Prelude.{Result}
use Rattle.host_answers.specs.Answers.{AnswerPut}

-- no second number, and no other byte
pub put_only_answer : {answer : Result Counts Refusal} {kept listed survivors positions counts survivors₁ positions₁ counts₁ survivors₂ positions₂ counts₂ : List ℕ} {r s : ℕ}
    → AnswerPut answer kept listed survivors positions counts r survivors₁ positions₁ counts₁ → AnswerPut answer kept listed survivors positions counts s survivors₂ positions₂ counts₂
    → (r ≡ s) × (survivors₁ ≡ survivors₂) × (positions₁ ≡ positions₂) × (counts₁ ≡ counts₂)
put_only_answer p q = (p.result ∙ sym q.result, p.kept_put ∙ sym q.kept_put, p.listed_put ∙ sym q.listed_put, p.counts_put ∙ sym q.counts_put)
