-- `duel` meets its contract: where the older window stands the newer falls, and otherwise its own comparison tells.
use Prim.Native.Nat.{◌+◌}
use mathlib.Core.Path.{◌≡◌, ◌∙◌, ap₂}
use mir.Syntax.{w32}
use mir.Val.{SFits}
use mir.Facts.{to_z-of_z}
use borrow.Author.Rules.{rules}
use Rattle.order.specs.Sizes.{at}
use Rattle.order.specs.Relations.{rel}
use Rattle.duels.specs.Inside.Codes.{code}
use Rattle.duels.proofs.CodeLaws.{newer_falls, older_alone_falls, both_fall}
use Rattle.duels.proofs.field.Field.duel.Goals as goal
use Rattle.duels.proofs.field.Field.duel.Goals.{After-code_between-seen}

-- what the one comparison tells
seen : (c : After-code_between-seen) → c.code_between-seen.result ≡ code (rel (at c.args.self.trace.now (c.args.y.0 + c.args.i.0)) (at c.args.self.trace.now (c.args.y.0 + c.args.j.0)))
seen c =
    let f₁ : SFits w32 (at c.args.self.trace.now (c.args.y.0 + c.args.i.0)) = search rules in
    let f₂ : SFits w32 (at c.args.self.trace.now (c.args.y.0 + c.args.j.0)) = search rules in
    c.code_between-seen.ensures ∙ ap₂ (λ x y. code (rel x y)) (to_z-of_z f₁) (to_z-of_z f₂)

pub returns-then-seen-codes : goal.returns-then-seen-codes
returns-then-seen-codes c =
    newer_falls c.requires.0 c.requires.1 c.requires.2 (seen (goal.at.returns-then-seen-codes c).After-code_between-seen) c.if-seen-codes.true

pub returns-then-seen-codes-2 : goal.returns-then-seen-codes-2
returns-then-seen-codes-2 c =
    older_alone_falls c.requires.0 c.requires.1 c.requires.2 (seen (goal.at.returns-then-seen-codes-2 c).After-code_between-seen) c.if-seen-codes.false c.if-seen-codes-2.true

pub returns : goal.returns
returns c =
    both_fall c.requires.0 c.requires.1 c.requires.2 (seen (goal.at.returns c).After-code_between-seen) c.if-seen-codes.false c.if-seen-codes-2.false
