-- Shows: the text of a few inputs comes out of the definition: the worked example of docs/RULES.md, a refusal of each word, and lost
-- stitches in the trace and in the pattern.
-- One list, one claim, by computation.
-- Assumes nothing.
use Prim.Native.Nat.{ℕ, ◌*◌, ◌/◌, ◌%◌}
use Prim.Native.String.{String}
use mathlib.Core.Path.{◌≡◌, refl}
use mathlib.Core.List.{List, [], ◌∷◌, ◌++◌}
use mathlib.Core.Bool.{Bool, true, false, ◌&&◌}
use lib.Dec.{eqb}
use lib.ListN.{length, replicate}
use Rattle.order.specs.Sizes.{is_none, entry, windows_of, each, those, lowest, or_else}
use Rattle.order.specs.Relations.{rel}
use Rattle.order.specs.Lost.{is_lost, first_lost_lem, holds_lost_lem}
use Rattle.order.specs.Neighbours.{nearer, nearest, low_of, high_of, low_table, high_table}
use Rattle.order.specs.PlaceTest.{matches, is_same_spot, against, then_high, test_of, passes, cost, failed_at}
use Rattle.order.specs.Witnesses.{first_fail, neighbour_at, witness_i_of, witness_j_of, witness_i_table, witness_j_table}
use Rattle.order.specs.Agree.{agree}
use Rattle.order.specs.Duels.{fallen, duel, by_witness, meets, after, arrive, arrive_all_lem, is_struck, struck, entrants, duelled, duels, survivors}
use Rattle.order.specs.Sweeping.{on_test, tests, sweep_one_lem, sweep_all_lem, tests_of, swept_by, sweep_cost, positions}
use Rattle.order.specs.Written.{counts_of}
use Rattle.order.specs.Recordings.{word, signed, distance_back, sample_count, marked, first_sample, samples_of}
use Rattle.order.specs.Refusals.{pattern_verdict, stitches_verdict, witnesses_verdict, tables_verdict, prepare_verdict, foreign_at, own_verdict, room_verdict, search_verdict, trailer_verdict, points_verdict, read_verdict}
use Rattle.report.specs.Decimals.{digits, decimal}
use Rattle.report.specs.Texts.{ascii, refusal_line, counts_line, lines, after_search, blank, after_preparation, after_pattern, after_trace, text_of}

-- an input, and the text that it gives
pub data Printed : Type 0 where
  prints : List ℕ → String → Printed

pub same : List ℕ → List ℕ → Bool
same [] [] = true
same [] (y ∷ ys) = false
same (x ∷ xs) [] = false
same (x ∷ xs) (y ∷ ys) = eqb x y && same xs ys

pub all_right : List Printed → Bool
all_right [] = true
all_right (prints input text ∷ es) = same (text_of input) (ascii text) && all_right es

-- the recording of a few samples, each told by its 32 bits
pub samples : List ℕ → List ℕ
samples [] = []
samples (x ∷ xs) = x % 256 ∷ x / 256 % 256 ∷ x / 65536 % 256 ∷ x / 16777216 ∷ samples xs

pub recorded : List ℕ → List ℕ
recorded xs = samples xs ++ (4 * length xs ∷ 0 ∷ 0 ∷ 0 ∷ length xs ∷ 0 ∷ 0 ∷ 0 ∷ ascii "KREC")

-- the bits of a lost stitch
pub lost_bits : ℕ
lost_bits = 2147483648

pub examples : List Printed
examples =
    prints (recorded (4 ∷ 9 ∷ 6 ∷ 6 ∷ []) ++ recorded (5 ∷ 8 ∷ 6 ∷ 6 ∷ 9 ∷ 7 ∷ 7 ∷ 2 ∷ 4 ∷ 3 ∷ 3 ∷ []))
    "windows 8 duels 5 survivors 3 sweep 12 found 3\n0\n3\n7\n" ∷
    -- a trace with a lost stitch, which strikes two windows
    prints (recorded (1 ∷ 2 ∷ []) ++ recorded (1 ∷ 2 ∷ lost_bits ∷ 1 ∷ 2 ∷ [])) "windows 4 duels 0 survivors 2 sweep 2 found 2\n0\n3\n" ∷
    -- an input that is too long
    prints (replicate 16385 0) "input refusal 13 place 16384\n" ∷
    -- five bytes
    prints (ascii "hello") "trace refusal 8 place 5\n" ∷
    -- four times the count is not 0
    prints (0 ∷ 0 ∷ 0 ∷ 0 ∷ 0 ∷ 0 ∷ 0 ∷ 64 ∷ ascii "KREC") "trace refusal 10 place 0\n" ∷
    -- nothing before the trace
    prints (recorded (1 ∷ 2 ∷ [])) "pattern refusal 8 place 0\n" ∷
    -- a pattern of no samples
    prints (recorded [] ++ recorded (1 ∷ 2 ∷ [])) "search refusal 1 place 0\n" ∷
    -- a pattern with two lost stitches
    prints (recorded (3 ∷ lost_bits ∷ lost_bits ∷ []) ++ recorded (1 ∷ 2 ∷ [])) "search refusal 21 place 1\n" ∷
    []

pub texts_come_out : all_right examples ≡ true
unfolding same all_right samples recorded lost_bits examples agree is_none entry windows_of each those lowest or_else rel is_lost first_lost_lem holds_lost_lem nearer nearest low_of high_of low_table high_table matches is_same_spot against then_high test_of passes cost failed_at first_fail neighbour_at witness_i_of witness_j_of witness_i_table witness_j_table fallen duel by_witness meets after arrive arrive_all_lem is_struck struck entrants duelled duels survivors on_test tests sweep_one_lem sweep_all_lem tests_of swept_by sweep_cost positions counts_of word signed distance_back sample_count marked first_sample samples_of pattern_verdict stitches_verdict witnesses_verdict tables_verdict prepare_verdict foreign_at own_verdict room_verdict search_verdict trailer_verdict points_verdict read_verdict digits decimal refusal_line counts_line lines after_search blank after_preparation after_pattern after_trace text_of
texts_come_out = refl
