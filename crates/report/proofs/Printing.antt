-- Shows: what two texts that are put one after another come to; how long numbers are at most; and that a position more is a line more.
-- Assumes nothing.
use Prim.Native.Nat.{ℕ, ◌+◌, ◌/◌, ◌%◌, ◌≤◌, ◌<◌}
use mathlib.Core.Path.{◌≡◌, refl, sym, ◌∙◌, ap}
use mathlib.Core.List.{List, [], ◌∷◌, ◌++◌, append_assoc, append-nil}
use native.Mathlib.Omega.{arith}
use native.Mathlib.Numerals.{add-one}
use lib.ListN.{length, get_or, take, length-append}
use lib.Seq.{take-suc}
use Rattle.order.specs.declared.steps.Counts.{Counts}
use Rattle.report.specs.Decimals.{digit, decimal}
use Rattle.report.specs.Texts.{newline, item, counts_line, lines}
use Rattle.report.specs.Inside.{number_room}
use Rattle.report.proofs.Numerals.{decimal-short, decimal_high}

-- what a text that is put behind another comes to
pub long : (a s : List ℕ) {b : List ℕ} → b ≡ a ++ s → length b ≡ length a + length s
long a s p = ap length p ∙ length-append a s

pub short_64 : (v : ℕ) → v < 18446744073709551616 → length (decimal v) ≤ number_room
short_64 v h = decimal-short 19 v (omega arith)

pub short_32 : (v : ℕ) → v < 4294967296 → length (decimal v) ≤ 10
short_32 v h = decimal-short 9 v (omega arith)

-- ---- a number, digit by digit

pub number_put : (a : List ℕ) (v : ℕ) {b c : List ℕ} → 10 ≤ v → b ≡ a ++ decimal (v / 10) → c ≡ b ++ (digit (v % 10) ∷ []) → c ≡ a ++ decimal v
number_put a v h p q = rw (q, p, decimal_high v h, append_assoc) refl

-- ---- the counts' line

-- six texts, one behind another
six : (a s₁ s₂ s₃ s₄ s₅ s₆ : List ℕ) {b₁ b₂ b₃ b₄ b₅ b₆ : List ℕ}
    → b₁ ≡ a ++ s₁ → b₂ ≡ b₁ ++ s₂ → b₃ ≡ b₂ ++ s₃ → b₄ ≡ b₃ ++ s₄ → b₅ ≡ b₄ ++ s₅ → b₆ ≡ b₅ ++ s₆ → b₆ ≡ a ++ (s₁ ++ s₂ ++ s₃ ++ s₄ ++ s₅ ++ s₆)
six a s₁ s₂ s₃ s₄ s₅ s₆ p₁ p₂ p₃ p₄ p₅ p₆ = rw (p₆, p₅, p₄, p₃, p₂, p₁) (simp append_assoc refl)

pub counts_put : (a : List ℕ) (c : Counts) {b₁ b₂ b₃ b₄ b₅ b₆ : List ℕ}
    → b₁ ≡ a ++ item "windows " c.windows → b₂ ≡ b₁ ++ item " duels " c.duels → b₃ ≡ b₂ ++ item " survivors " c.survivors
    → b₄ ≡ b₃ ++ item " sweep " c.sweep → b₅ ≡ b₄ ++ item " found " c.found → b₆ ≡ b₅ ++ newline → b₆ ≡ a ++ counts_line c
unfolding counts_line
counts_put a c = six a (item "windows " c.windows) (item " duels " c.duels) (item " survivors " c.survivors) (item " sweep " c.sweep) (item " found " c.found) newline

-- ---- the positions' lines

lines_more : (xs : List ℕ) (x : ℕ) → lines (xs ++ (x ∷ [])) ≡ lines xs ++ (decimal x ++ newline)
unfolding lines
lines_more [] x = append-nil (decimal x ++ newline)
lines_more (y ∷ ys) x = ap (λ l. decimal y ++ newline ++ l) (lines_more ys x) ∙ sym (append_assoc (decimal y ++ newline) (lines ys) (decimal x ++ newline))

lines_next : (l : List ℕ) (k : ℕ) → k < length l → lines (take (k + 1) l) ≡ lines (take k l) ++ (decimal (get_or l k 0) ++ newline)
lines_next l k h = ap (λ n. lines (take n l)) (add-one k) ∙ ap lines (take-suc l k 0 h) ∙ lines_more (take k l) (get_or l k 0)

pub line_put : (a l : List ℕ) (k : ℕ) {b c : List ℕ} → k < length l → b ≡ a ++ lines (take k l) → c ≡ b ++ (decimal (get_or l k 0) ++ newline)
    → c ≡ a ++ lines (take (k + 1) l)
line_put a l k h p q = rw (q, p, lines_next l k h, append_assoc) refl
