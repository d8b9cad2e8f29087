-- "Counts" and "What is written": the counts of an accepted search, and what each call leaves in a buffer.
use Rattle.std.specs.Prelude.{ℕ, ◌-◌, List, ◌++◌, not, ◌&&◌, ℤ, length, drop, replicate}
use Rattle.order.specs.declared.steps.Counts.{Counts}
use Rattle.order.specs.Sizes.{unused, windows_of, window, those}
use Rattle.order.specs.Isomorphic.{is_iso}
use Rattle.order.specs.Duels.{is_struck, struck, duels, survivors}
use Rattle.order.specs.Sweeping.{sweep_cost, positions}
use Rattle.order.specs.Refusals.{Verdict, accepted, refused}

-- N, D, S, W, R and the number struck
unfoldable pub counts_of : List ℤ → List ℤ → Counts
counts_of P T =
    record {
      windows = windows_of (length P) (length T);
      duels = duels P T;
      survivors = length (survivors P T);
      sweep = sweep_cost P T;
      found = length (positions P T);
      struck = struck P T;
    }

-- the windows without a lost stitch that are isomorphic with the pattern, ascending
unfoldable pub occurrences : List ℤ → List ℤ → List ℕ
occurrences P T = those (λ x. not (is_struck P T x) && is_iso P (window T x (length P))) (windows_of (length P) (length T))

-- entries written from 0 on; those past them keep their content
abbrev pub over : {A : Type 0} → List A → List A → List A
over l before = l ++ drop (length l) before

-- a list, then "unused" up to entry n - 1
abbrev pub filled : List ℕ → ℕ → List ℕ
filled l n = l ++ replicate (n - length l) unused

-- what a buffer holds after a call that writes l from entry 0 on: a refused call leaves it as it was
abbrev pub after_verdict : {A : Type 0} → Verdict → List A → List A → List A
after_verdict accepted l before = over l before
after_verdict (refused r) l before = before
