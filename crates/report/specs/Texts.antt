-- "The program": the text that `bench` prints for an input, byte for byte.
use Rattle.std.specs.Prelude.{ℕ, List, [], ◌∷◌, ◌++◌, cond, ltb, ℤ, length, take, replicate}
use Prim.Native.Char.{code}
use Prim.Native.String.{String, [] as nothing, ◌∷◌ as ◌then◌}
use Rattle.order.specs.declared.steps.Counts.{Counts}
use Rattle.order.specs.declared.refusal.Refusal.{Refusal}
use Rattle.order.specs.declared.refusal.Refusal.TheVariants.{LongInput}
use Rattle.order.specs.Sizes.{input_limit}
use Rattle.order.specs.Neighbours.{low_table, high_table}
use Rattle.order.specs.Witnesses.{witness_i_table, witness_j_table}
use Rattle.order.specs.Sweeping.{positions}
use Rattle.order.specs.Written.{counts_of, over}
use Rattle.order.specs.Recordings.{first_sample, samples_of}
use Rattle.order.specs.Refusals.{Verdict, accepted, refused, number_of, place_of, prepare_verdict, search_verdict, read_verdict}
use Rattle.report.specs.Decimals.{decimal}

-- ---- sizes

-- the samples that the program's buffers hold
abbrev pub pattern_room : ℕ
pattern_room = 1024

abbrev pub trace_room : ℕ
trace_room = 2048

-- ---- lines

-- a text of ASCII characters as bytes
abbrev pub ascii : String → List ℕ
ascii nothing = []
ascii (c then s) = code c ∷ ascii s

abbrev pub newline : List ℕ
newline = 10 ∷ []

abbrev pub item : String → ℕ → List ℕ
item word v = ascii word ++ decimal v

-- `WORD refusal N place P`
unfoldable pub refusal_line : List ℕ → Refusal → List ℕ
refusal_line word why = word ++ item " refusal " (number_of why) ++ item " place " (place_of why) ++ newline

-- N, D, S, W and R
unfoldable pub counts_line : Counts → List ℕ
counts_line c =
    item "windows " c.windows ++ item " duels " c.duels ++ item " survivors " c.survivors ++ item " sweep " c.sweep ++
    item " found " c.found ++ newline

-- each number on a line
unfoldable pub lines : List ℕ → List ℕ
lines [] = []
lines (x ∷ xs) = decimal x ++ newline ++ lines xs

-- ---- the steps, from the last to the first: each says its refusal's line, or what the next step prints

-- the search of the pattern P in the trace T
unfoldable pub after_search : List ℤ → List ℤ → Verdict → List ℕ
after_search P T accepted = counts_line (counts_of P T) ++ lines (positions P T)
after_search P T (refused why) = refusal_line (ascii "search") why

-- preparation, with tables of 1,024 entries that hold zeros: a table as it leaves it
unfoldable pub blank : List ℕ
blank = replicate pattern_room 0

abbrev pub prepared : List ℕ → List ℕ
prepared table = over table blank

unfoldable pub after_preparation : List ℤ → List ℤ → Verdict → List ℕ
after_preparation P T accepted =
    after_search P T
    (search_verdict P (prepared (low_table P)) (prepared (high_table P)) (prepared (witness_i_table P)) (prepared (witness_j_table P)) T trace_room trace_room)
after_preparation P T (refused why) = refusal_line (ascii "search") why

-- the pattern, read from the bytes before the trace's first sample
unfoldable pub after_pattern : List ℕ → List ℤ → Verdict → List ℕ
after_pattern lead T accepted =
    after_preparation (samples_of lead) T (prepare_verdict (samples_of lead) pattern_room pattern_room pattern_room pattern_room)
after_pattern lead T (refused why) = refusal_line (ascii "pattern") why

-- the trace, read from the whole input
unfoldable pub after_trace : List ℕ → Verdict → List ℕ
after_trace input accepted =
    after_pattern (take (first_sample input) input) (samples_of input) (read_verdict (take (first_sample input) input) pattern_room)
after_trace input (refused why) = refusal_line (ascii "trace") why

unfoldable pub text_of : List ℕ → List ℕ
text_of input =
    cond (ltb input_limit (length input)) (refusal_line (ascii "input") LongInput) (after_trace input (read_verdict input trace_room))
