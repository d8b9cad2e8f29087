-- What the functions inside this crate ask of each other and leave behind.
use Rattle.std.specs.Prelude.{ℕ, ◌+◌, ◌*◌, ◌≤◌, ◌≡◌, List, ◌++◌, Result, Err}
use Rattle.order.specs.declared.refusal.Refusal.{Refusal}
use Rattle.report.specs.Texts.{refusal_line}
use Rattle.report.specs.Promises.{text_room}

-- the most bytes of a number of 64 bits
abbrev pub number_room : ℕ
number_room = 20

-- of a refusal's line after its word: two such numbers, " refusal ", " place " and the line's end
abbrev pub refusal_room : ℕ
refusal_room = 57

-- of the counts' line: five such numbers, their words and the line's end
abbrev pub counts_room : ℕ
counts_room = 141

-- of a position's line: a number of 32 bits and the line's end
abbrev pub line_room : ℕ
line_room = 11

-- behind so many bytes room for the counts and for so many listed positions, which the positions buffer holds
pub record Listed (before held found : ℕ) : Type 0 where
  pub holds : found ≤ held
  pub fits : before + counts_room + line_room * found ≤ text_room

-- the line of an answer, if it is a refusal, behind a text
abbrev pub Said : {A : Type 0} → List ℕ → List ℕ → Result A Refusal → List ℕ → Type 0
Said before word answer after = (why : Refusal) → answer ≡ Err why → after ≡ before ++ refusal_line word why
