-- What an answer on two windows says. Its number and its place are those of every answer: order's specs/Answers.antt.
use Rattle.std.specs.Prelude.{Bool, false, Result, Ok, Err}
use Rattle.order.specs.declared.refusal.Refusal.{Refusal}

-- whether it says that the windows agree
abbrev pub says_agree : Result Bool Refusal → Bool
says_agree (Ok b) = b
says_agree (Err r) = false
