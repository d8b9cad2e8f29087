-- Shows: the worked examples a to j, m, o and p of docs/RULES.md come out of the definitions, and with them the call on two windows and a level run, which has the
-- rightmost of several equals as each place's neighbour. One list, one claim, by computation.
-- Assumes nothing.
use Prim.Native.Nat.{ℕ}
use mathlib.Core.Path.{◌≡◌, refl}
use mathlib.Core.List.{List, [], ◌∷◌, map}
use mathlib.Core.Bool.{Bool, true, false, ◌&&◌, beq}
use lib.Dec.{eqb}
use lib.IntN.{ℤ, pos, negsuc}
use lib.ListN.{length, replicate}
use Rattle.order.specs.Sizes.{is_none, entry, windows_of, each, those, lowest, or_else}
use Rattle.order.specs.Relations.{rel}
use Rattle.order.specs.Lost.{lost, is_lost, first_lost_lem, holds_lost_lem}
use Rattle.order.specs.Isomorphic.{all_below, is_iso}
use Rattle.order.specs.Neighbours.{nearer, nearest, low_of, high_of, low_table, high_table}
use Rattle.order.specs.PlaceTest.{matches, is_same_spot, against, then_high, test_of, passes, cost, failed_at}
use Rattle.order.specs.Witnesses.{first_fail, neighbour_at, witness_i_of, witness_j_of, witness_i_table, witness_j_table}
use Rattle.order.specs.Agree.{agree, agree_by_table}
use Rattle.order.specs.Duels.{fallen, duel, by_witness, meets, after, arrive, arrive_all_lem, is_struck, struck, entrants, duelled, duels, survivors}
use Rattle.order.specs.Sweeping.{on_test, tests, sweep_one_lem, sweep_all_lem, tests_of, swept_by, sweep_cost, positions}
use Rattle.order.specs.Refusals.{verdict_number, verdict_place, pattern_verdict, stitches_verdict, witnesses_verdict, tables_verdict, prepare_verdict, foreign_at, own_verdict}
use Rattle.order.specs.Written.{occurrences}

pub data Example : Type 0 where
  -- a pattern; its low, high, witness i and witness j tables
  tables : List ℤ → List ℕ → List ℕ → List ℕ → List ℕ → Example
  -- a pattern and a trace; N, D, the survivors, W, the listed positions and the number struck
  searched : List ℤ → List ℤ → ℕ → ℕ → List ℕ → ℕ → List ℕ → ℕ → Example
  -- a pattern and the length of its four tables; the number and place by which its preparation is refused
  unprepared : List ℤ → ℕ → ℕ → ℕ → Example
  -- a pattern; what stands in its four tables; the number and place by which they are refused
  foreign : List ℤ → List ℕ → List ℕ → List ℕ → List ℕ → ℕ → ℕ → Example
  -- a pattern's length, a table of first entries and two windows; whether the call on them says that they agree
  together : ℕ → List ℕ → ℕ → ℕ → Bool → Example

pub same_list : List ℕ → List ℕ → Bool
same_list [] [] = true
same_list [] (y ∷ ys) = false
same_list (x ∷ xs) [] = false
same_list (x ∷ xs) (y ∷ ys) = eqb x y && same_list xs ys

pub right : Example → Bool
right (tables P low high i j) =
    same_list (low_table P) low && (same_list (high_table P) high && (same_list (witness_i_table P) i && same_list (witness_j_table P) j))
right (searched P T n d s w l k) =
    eqb (windows_of (length P) (length T)) n && (eqb (duels P T) d && (same_list (survivors P T) s &&
    (eqb (sweep_cost P T) w && (same_list (positions P T) l && (same_list (occurrences P T) l && eqb (struck P T) k)))))
right (unprepared P room n k) =
    eqb (verdict_number (prepare_verdict P room room room room)) n && eqb (verdict_place (prepare_verdict P room room room room)) k
right (foreign P low high i j n k) =
    eqb (verdict_number (own_verdict P low high i j)) n && eqb (verdict_place (own_verdict P low high i j)) k
right (together m ws x y b) = beq (agree_by_table m ws x y) b

pub all_right : List Example → Bool
all_right [] = true
all_right (e ∷ es) = right e && all_right es

-- a list of samples that are not negative
abbrev up : List ℕ → List ℤ
up = map pos

abbrev P₀ : List ℤ
P₀ = up (4 ∷ 9 ∷ 6 ∷ 6 ∷ [])

abbrev ∅ : ℕ
∅ = 65535

-- its tables, a and b
abbrev low₀ : List ℕ
low₀ = ∅ ∷ 0 ∷ 0 ∷ 2 ∷ []

abbrev high₀ : List ℕ
high₀ = ∅ ∷ ∅ ∷ 1 ∷ 2 ∷ []

abbrev i₀ : List ℕ
i₀ = ∅ ∷ 0 ∷ 0 ∷ ∅ ∷ []

abbrev j₀ : List ℕ
j₀ = ∅ ∷ 1 ∷ 1 ∷ ∅ ∷ []

pub examples : List Example
examples =
    -- a and b
    tables P₀ low₀ high₀ i₀ j₀ ∷
    -- c
    searched P₀ (up (5 ∷ 8 ∷ 6 ∷ 6 ∷ 9 ∷ 7 ∷ 7 ∷ 2 ∷ 4 ∷ 3 ∷ 3 ∷ [])) 8 5 (0 ∷ 3 ∷ 7 ∷ []) 12 (0 ∷ 3 ∷ 7 ∷ []) 0 ∷
    -- d
    searched P₀ (up (5 ∷ 5 ∷ 5 ∷ 5 ∷ 5 ∷ [])) 2 1 [] 0 [] 0 ∷
    -- e
    searched P₀ (up (1 ∷ 2 ∷ 3 ∷ 4 ∷ 5 ∷ [])) 2 1 (1 ∷ []) 3 [] 0 ∷
    -- f
    searched (up (7 ∷ [])) (up (3 ∷ 3 ∷ [])) 2 0 (0 ∷ 1 ∷ []) 0 (0 ∷ 1 ∷ []) 0 ∷
    -- g
    searched P₀ (up (1 ∷ 2 ∷ 3 ∷ [])) 0 0 [] 0 [] 0 ∷
    -- h
    searched P₀ (up (4 ∷ 9 ∷ 7 ∷ 6 ∷ [])) 1 0 (0 ∷ []) 4 [] 0 ∷
    -- i
    searched (up (1 ∷ 2 ∷ 3 ∷ [])) (up (1 ∷ 2 ∷ 3 ∷ 4 ∷ 5 ∷ [])) 3 0 (0 ∷ 1 ∷ 2 ∷ []) 4 (0 ∷ 1 ∷ 2 ∷ []) 0 ∷
    -- j
    searched (negsuc 2147483646 ∷ pos 2147483647 ∷ []) (pos 2147483647 ∷ negsuc 2147483646 ∷ pos 0 ∷ []) 2 0 (0 ∷ 1 ∷ []) 2 (1 ∷ []) 0 ∷
    -- m, one table after the other, and the tables as they are
    foreign P₀ (∅ ∷ 0 ∷ 0 ∷ 3 ∷ []) high₀ i₀ j₀ 14 3 ∷
    foreign P₀ low₀ (∅ ∷ ∅ ∷ 1 ∷ 3 ∷ []) i₀ j₀ 15 3 ∷
    foreign P₀ low₀ high₀ (∅ ∷ 0 ∷ 0 ∷ 3 ∷ []) j₀ 16 3 ∷
    foreign P₀ low₀ high₀ i₀ (∅ ∷ 1 ∷ 1 ∷ 3 ∷ []) 17 3 ∷
    foreign P₀ low₀ high₀ i₀ j₀ 0 0 ∷
    -- a later table that differs at a lower entry decides nothing, and of one table the lowest entry does
    foreign P₀ (∅ ∷ 0 ∷ 0 ∷ 3 ∷ []) high₀ i₀ (0 ∷ 1 ∷ 1 ∷ ∅ ∷ []) 14 3 ∷
    foreign P₀ (∅ ∷ 0 ∷ 0 ∷ 3 ∷ []) (0 ∷ ∅ ∷ 1 ∷ 2 ∷ []) i₀ j₀ 14 3 ∷
    foreign P₀ low₀ (∅ ∷ ∅ ∷ 1 ∷ 3 ∷ []) (0 ∷ 0 ∷ 0 ∷ ∅ ∷ []) j₀ 15 3 ∷
    foreign P₀ low₀ high₀ (∅ ∷ 0 ∷ 0 ∷ 3 ∷ []) (0 ∷ 1 ∷ 1 ∷ ∅ ∷ []) 16 3 ∷
    foreign P₀ low₀ high₀ i₀ (∅ ∷ 0 ∷ 1 ∷ 3 ∷ []) 17 1 ∷
    -- the call on two windows, with b's table: apart by 1, by 3, by 2 and turned round, by the pattern's length; and, with an
    -- entry 0 that is no "none", by nothing
    together 4 i₀ 5 6 false ∷
    together 4 i₀ 5 8 true ∷
    together 4 i₀ 7 5 false ∷
    together 4 i₀ 1 5 true ∷
    together 4 (0 ∷ 0 ∷ 0 ∷ ∅ ∷ []) 5 5 true ∷
    -- o: lost stitches in the trace, and in every window of it
    searched (up (7 ∷ [])) (lost ∷ lost ∷ []) 2 0 [] 0 [] 2 ∷
    searched (up (1 ∷ 2 ∷ [])) (pos 1 ∷ pos 2 ∷ lost ∷ pos 1 ∷ pos 2 ∷ []) 4 0 (0 ∷ 3 ∷ []) 2 (0 ∷ 3 ∷ []) 2 ∷
    searched (up (1 ∷ 2 ∷ 3 ∷ [])) (pos 1 ∷ pos 2 ∷ pos 2 ∷ lost ∷ pos 1 ∷ pos 2 ∷ pos 3 ∷ []) 5 0 (0 ∷ 4 ∷ []) 4 (4 ∷ []) 3 ∷
    -- p: lost stitches in the pattern, which are looked for before the tables' lengths, and not in one that is too long
    unprepared (lost ∷ pos 2147483647 ∷ []) 2 21 0 ∷
    unprepared (pos 3 ∷ lost ∷ lost ∷ []) 0 21 1 ∷
    unprepared (pos 3 ∷ negsuc 2147483646 ∷ []) 0 3 1 ∷
    unprepared (replicate 1025 lost) 1025 2 1025 ∷
    -- a level run
    tables (up (6 ∷ 6 ∷ 6 ∷ [])) (∅ ∷ 0 ∷ 1 ∷ []) (∅ ∷ 0 ∷ 1 ∷ []) (∅ ∷ ∅ ∷ ∅ ∷ []) (∅ ∷ ∅ ∷ ∅ ∷ []) ∷
    []

pub examples_come_out : all_right examples ≡ true
unfolding foreign_at own_verdict pattern_verdict stitches_verdict witnesses_verdict tables_verdict prepare_verdict is_lost first_lost_lem holds_lost_lem agree is_none agree_by_table all_right right examples same_list entry windows_of each those lowest or_else rel all_below is_iso nearer nearest low_of high_of low_table high_table matches is_same_spot against then_high test_of passes cost failed_at first_fail neighbour_at witness_i_of witness_j_of witness_i_table witness_j_table fallen duel by_witness meets after arrive arrive_all_lem is_struck struck entrants duelled duels survivors on_test tests sweep_one_lem sweep_all_lem tests_of swept_by sweep_cost positions occurrences
examples_come_out = refl
