-- The goals of `climb` that the check leaves: the samples before the first that breaks the way go on, and so do all where there is none.
use Prim.Native.Nat.{ℕ, ◌+◌, ◌-◌, ◌≤◌, ◌<◌}
use mathlib.Core.Path.{◌≡◌, refl, subst₂}
use mathlib.Core.List.{List}
use mathlib.Core.Bool.{true, false}
use native.Mathlib.Omega.{arith}
use borrow.Author.Rules.{rules}
use borrow.Author.Tests.{tests}
use lib.ListN.{length, get_or}
use Rattle.std.specs.Option.{MatchOption}
use Rattle.std.specs.List.{range_with_len, AllWithin, HoldsAt}
use Rattle.std.proofs.lemmas.Iterator.{YieldsList-from_range, IsFirst-from_position}
use Rattle.std.proofs.lemmas.List.FromFn.{length-range_with_len, get_or-range_with_len}
use Rattle.order.specs.EntryTest.{told}
use Rattle.search.specs.Inside.Sweeps.{Climbed}
use Rattle.search.proofs.Climbing.{Climbs, climb_begins, climbs_far, climb_fails, climb_ends}
use Rattle.search.proofs.steady.Survivors.climb.Goals as goal
use Rattle.search.proofs.steady.Survivors.climb.Goals.{After-position}

-- whether a sample compares with the one before it as the pattern's do
abbrev Goes : (c : After-position) → ℕ → Type 0
Goes c e = told c.args.self.trace.now e (e - 1) c.args.self.way ≡ true

abbrev Breaks : (c : After-position) → ℕ → Type 0
Breaks c e = told c.args.self.trace.now e (e - 1) c.args.self.way ≡ false

abbrev samples : (c : After-position) → List ℕ
samples c = range_with_len c.max-first.result (c.args.x.0 + length c.args.self.pattern.now - c.max-first.result)

first : (c : After-position) → MatchOption c.position.result (AllWithin (Goes c) (samples c) 0 (length (samples c)))
    (λ i. (i < length (samples c)) × HoldsAt (Breaks c) (samples c) i × AllWithin (Goes c) (samples c) 0 i)
first c =
    let stop = c.args.x.0 + length c.args.self.pattern.now in
    IsFirst-from_position _ _ c.position.result (Breaks c) (Goes c) c.position.ensures.ran
    (YieldsList-from_range c.max-first.result stop (stop - c.max-first.result) refl refl) (λ x q k. search (rules, tests)) (λ x q k. search (rules, tests))

-- the number of the samples
count : (c : After-position) → length (samples c) ≡ c.args.x.0 + length c.args.self.pattern.now - c.max-first.result
count c = length-range_with_len _ _

there : (c : After-position) (k : ℕ) → k < length (samples c) → get_or (samples c) k 0 ≡ c.max-first.result + k
there c k h = let l = count c in get_or-range_with_len _ (c.args.x.0 + length c.args.self.pattern.now - c.max-first.result) k 0 (omega arith)

-- the tests up to the first sample, and through the samples that go on after it
begun : (c : After-position) → Climbs c.args.self.pattern.now c.args.self.trace.now c.args.x.0 c.args.from c.args.before c.max-first.result c.args.before
begun c =
    rw c.max-first.ensures (climb_begins c.args.self.pattern.now c.args.self.trace.now c.args.x.0 c.args.from c.args.before c.args.self.steady.some c.requires.0.begun)

climbed : (c : After-position) (n : ℕ) → n ≤ length (samples c) → AllWithin (Goes c) (samples c) 0 n
    → Climbs c.args.self.pattern.now c.args.self.trace.now c.args.x.0 c.args.from c.args.before (c.max-first.result + n) (c.args.before + n)
climbed c n h all =
    let l = count c in
    climbs_far c.args.self.steady (begun c) n (omega arith) (λ k g. rw (there c k (omega arith)) at (all k 0 (omega arith) g))

pub returns-in-Some : goal.returns-in-Some
returns-in-Some c =
    let p = (goal.at.returns-in-Some c).After-position in
    let f = rw c.in-Some.is at (first p) in
    let l = count p in
    climb_fails c.args.self.steady (climbed p c.in-Some.passed (omega arith) f.2) (omega arith) (rw (there p c.in-Some.passed f.0) at (f.1 0))

pub returns-in-None : goal.returns-in-None
returns-in-None c =
    let p = (goal.at.returns-in-None c).After-position in
    let l = count p in
    let m = c.max-first.ensures in
    let u = c.requires.1 in
    let o = c.args.self.steady.some in
    subst₂ (λ (e w : ℕ). Climbed c.args.self.pattern.now c.args.self.trace.now c.args.x.0 c.args.from c.args.before e w true) (omega arith) (omega arith)
    (climb_ends c.args.self.steady (climbed p (length (samples p)) (omega arith) (rw c.in-None.is at (first p))) (omega arith))
