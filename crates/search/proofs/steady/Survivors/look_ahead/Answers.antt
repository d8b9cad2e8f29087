-- `look_ahead` meets its contract: a block's survivors start one after the other if the first and the last lie as far apart as there are
-- others, and each passes its last place if that is free or the samples go on.
use Prim.Native.Nat.{◌+◌, ◌-◌}
use mathlib.Core.Path.{◌≡◌, refl}
use native.Mathlib.Omega.{arith}
use lib.ListN.{length, get_or}
use Rattle.search.specs.Inside.Runs.{block}
use Rattle.search.proofs.RunLaws.{all_inside, free-block, stepped_block}
use Rattle.search.proofs.steady.Survivors.look_ahead.Goals as goal
use Rattle.search.proofs.steady.Survivors.look_ahead.Goals.{Else-reach-x}

-- the last of a block starts so many samples after the first
apart : (c : Else-reach-x) → get_or c.args.self.windows.now (c.args.k + (block - 1)) 0 ≡
    get_or c.args.self.windows.now c.args.k 0 + (block - 1)
apart c = c.if-self-last-2.false

-- and the first has its last place alone left
at_last : (c : Else-reach-x) → c.args.reach + 1 ≡
    get_or c.args.self.windows.now c.args.k 0 + length c.args.self.pattern.now
at_last c = c.if-reach-x.false

pub returns-then-self-eq1 : goal.returns-then-self-eq1
returns-then-self-eq1 c =
    let far = c.if-self-last.false in
    record {
      passing = λ e. free-block c.args.self.rows c.args.k _ (block - 1) refl far (apart (goal.at.returns-then-self-eq1 c).Else-reach-x) (at_last (goal.at.returns-then-self-eq1 c).Else-reach-x) c.if-self-eq1.true;
      looked = λ b many. let one = c.if-self-eq1.true in absurd (omega (arith, one));
      few = omega arith;
      ahead = omega arith;
    }

pub goes_on-requires : goal.goes_on-requires
goes_on-requires c =
    let far = c.if-self-last.false in
    let i = all_inside c.args.self.rows c.args.k _ (block - 1) refl far (apart (goal.at.goes_on-requires c).Else-reach-x) in
    let l = at_last (goal.at.goes_on-requires c).Else-reach-x in
    let some = c.args.self.steady.some in
    let many = c.if-self-eq1.false in
    (omega (arith, many), c.args.self.rows.trace)

pub returns : goal.returns
returns c =
    let far = c.if-self-last.false in
    let l = at_last (goal.at.returns c).Else-reach-x in
    let some = c.args.self.steady.some in
    let many = c.if-self-eq1.false in
    record {
      passing = λ e. stepped_block c.args.self.rows c.args.k _ (block - 1) refl far (apart (goal.at.returns c).Else-reach-x) c.args.self.steady (omega (arith, many)) l (omega (arith, many)) (c.goes_on.ensures e);
      looked = λ b many. refl;
      few = omega arith;
      ahead = omega arith;
    }
