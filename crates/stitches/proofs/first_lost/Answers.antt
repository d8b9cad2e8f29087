-- The goals of `first_lost` that the check leaves.
use Prim.Native.Nat.{◌+◌, ◌-◌}
use mathlib.Core.Path.{◌≡◌, refl, subst}
use native.Mathlib.Omega.{arith}
use Prim.Native.Nat.{ℕ, ◌≤◌, ◌<◌}
use mathlib.Core.List.{List}
use mathlib.Core.Bool.{true, false}
use borrow.Author.Tests.{tests}
use lib.ListN.{length, get_or}
use Rattle.std.specs.Option.{MatchOption}
use Rattle.std.specs.List.{range_with_len, AllWithin, HoldsAt}
use Rattle.std.proofs.lemmas.Iterator.{YieldsList-from_range, IsFirst-from_position}
use Rattle.std.proofs.lemmas.List.FromFn.{length-range_with_len, get_or-range_with_len}
use Rattle.order.specs.Lost.{is_lost}
use Rattle.order.specs.Sizes.{at}
use Rattle.stitches.specs.Inside.{FreeWithin}
use Rattle.stitches.proofs.Looks.{free_none, free_then, found_there, found_none}
use borrow.Author.Rules.{rules}
use Rattle.stitches.proofs.first_lost.Goals as goal
use Rattle.stitches.proofs.first_lost.Goals.{After-position}

pub returns-then-samples-eq0 : goal.returns-then-samples-eq0
returns-then-samples-eq0 c = let e = c.if-samples-eq0.true in found_none (free_none _ 0) (omega arith) (omega arith)

pub returns-then-equals_lost : goal.returns-then-equals_lost
returns-then-equals_lost c =
    let some = c.if-samples-eq0.false in
    found_there (free_none _ 0) (omega arith) (search (rules, tests))

-- what the search tells of a place
abbrev Yes : (c : After-position) → ℕ → Type 0
Yes c i = is_lost (at c.args.samples.now i) ≡ true

abbrev No : (c : After-position) → ℕ → Type 0
No c i = is_lost (at c.args.samples.now i) ≡ false

-- the places behind the blocks
abbrev rest : (c : After-position) → List ℕ
rest c = range_with_len c.free_blocks-free.result (length c.args.samples.now - c.free_blocks-free.result)

first : (c : After-position) → MatchOption c.position.result (AllWithin (No c) (rest c) 0 (length (rest c)))
    (λ i. (i < length (rest c)) × HoldsAt (Yes c) (rest c) i × AllWithin (No c) (rest c) 0 i)
first c =
    let end = length c.args.samples.now in
    IsFirst-from_position _ _ c.position.result (Yes c) (No c) c.position.ensures.ran
    (YieldsList-from_range c.free_blocks-free.result end (end - c.free_blocks-free.result) refl refl) (λ x q k. search (rules, tests)) (λ x q k. search (rules, tests))

-- their number
count : (c : After-position) → length (rest c) ≡ length c.args.samples.now - c.free_blocks-free.result
count c = length-range_with_len _ _

there : (c : After-position) (k : ℕ) → k < length (rest c) → get_or (rest c) k 0 ≡ c.free_blocks-free.result + k
there c k h = let l = count c in get_or-range_with_len _ (length c.args.samples.now - c.free_blocks-free.result) k 0 (omega arith)

passed : (c : After-position) (n : ℕ) → n ≤ length (rest c) → AllWithin (No c) (rest c) 0 n → FreeWithin c.args.samples.now 0 (c.free_blocks-free.result + n)
passed c n w all =
    free_then c.free_blocks-free.ensures.0 (record {
      free = λ i h k. let f = c.free_blocks-free.result in
          let same : f + (i - f) ≡ i = omega arith in
          subst (λ j. is_lost (at c.args.samples.now j) ≡ false) same (rw (there c (i - f) (omega arith)) at (all (i - f) 0 (omega arith) (omega arith)));
    })

pub returns-in-Some : goal.returns-in-Some
returns-in-Some c =
    let p = (goal.at.returns-in-Some c).After-position in
    let f = rw c.in-Some.is at (first p) in
    let l = count p in
    let w = f.0 in
    found_there (passed p c.in-Some.k (omega arith) f.2) (omega arith) (rw (there p c.in-Some.k f.0) at (f.1 0))

pub returns-in-None : goal.returns-in-None
returns-in-None c =
    let p = (goal.at.returns-in-None c).After-position in
    let f = rw c.in-None.is at (first p) in
    let l = count p in
    let w = c.free_blocks-free.ensures.1 in
    let all : c.free_blocks-free.result + length (rest p) ≡ length c.args.samples.now = omega arith in
    found_none (rw all at (passed p (length (rest p)) (omega arith) f)) (omega arith) (omega arith)
