-- What a report promises: the whole answer and the buffer's final content.
use Rattle.std.specs.Prelude.{ℕ, ◌≤◌, ◌≡◌, List, Bool, true, false, cond, ltb, length, take, Result, Ok, Err}
use Rattle.order.specs.Written.{over}
use Rattle.report.specs.declared.reporting.ShortText.{ShortText}
use Rattle.report.specs.Texts.{text_of}

-- a buffer of so many bytes holds every text
abbrev pub text_room : ℕ
text_room = 24576

-- the length of the text that each case of the answer tells
abbrev pub reported_length : Result ℕ ShortText → ℕ
reported_length (Ok n) = n
reported_length (Err short) = short.0

-- which case it is, by whether the buffer is too short
abbrev pub reported_by : Bool → ℕ → Result ℕ ShortText
reported_by true n = Err (record { 0 = n })
reported_by false n = Ok n

-- the report of an input into a buffer that holds `before`: the answer r, and what the buffer holds after it
pub record ReportPromise (input before : List ℕ) (r : Result ℕ ShortText) (after : List ℕ) : Type 0 where
  pub length_told : reported_length r ≡ length (text_of input)
  pub answer : r ≡ reported_by (ltb (length before) (length (text_of input))) (length (text_of input))
  -- the text from byte 0 on, then what the buffer held; as it was if it is too short
  pub text_after : after ≡ cond (ltb (length before) (length (text_of input))) before (over (text_of input) before)
  -- what is written is the text
  pub written : (n : ℕ) → r ≡ Ok n → (n ≤ length after) × (take n after ≡ text_of input)
  -- and there is always room in text_room bytes
  pub enough : length (text_of input) ≤ text_room
