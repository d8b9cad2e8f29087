-- The test of a place by its neighbours' entries alone, on any list and with any two entries: an entry that is no place of the
-- list counts as none. With the pattern's own entries it comes to the rules' test (proofs/TestByEntries).
use Rattle.std.specs.Prelude.{ℕ, ◌+◌, List, Bool, cond, ltb, eqb, ℤ, length}
use Rattle.std.specs.declared.cmp.Ordering.{Ordering}
use Rattle.std.specs.declared.cmp.Ordering.TheVariants.{Less, Equal, Greater}
use Rattle.order.specs.declared.steps.Tested.{Tested}
use Rattle.order.specs.declared.steps.Tested.TheVariants.{Passed, Failed}
use Rattle.order.specs.Sizes.{as_place, at}
use Rattle.order.specs.Relations.{rel, alike}

-- whether v[j] against v[i] compares as r
abbrev pub told : List ℤ → ℕ → ℕ → Ordering → Bool
told v j i r = alike (rel (at v j) (at v i)) r

-- whether v[j] is less than its high neighbour, after c comparisons were spent
unfoldable pub under_high_lem : List ℤ → ℕ → ℕ → ℕ → Tested
under_high_lem v high j c = cond (ltb high (length v)) (cond (told v j high Less) (Passed (c + 1)) (Failed (c + 1) (as_place high))) (Passed c)

-- low first, then high; one comparison, for equality, where the two are one place
unfoldable pub test_by : List ℤ → ℕ → ℕ → ℕ → Tested
test_by v low high j =
    cond (ltb j (length v))
    (cond (ltb low (length v))
    (cond (eqb low high)
    (cond (told v j low Equal) (Passed 1) (Failed 1 (as_place low)))
    (cond (told v j low Greater) (under_high_lem v high j 1) (Failed 1 (as_place low))))
    (under_high_lem v high j 0))
    (Passed 0)
