-- `codes_of` meets its contract: a place outside tells no witness, and two inside are compared.
use Prim.Native.Nat.{◌+◌, ◌<◌}
use native.Mathlib.Omega.{arith}
use mathlib.Core.Path.{◌≡◌, ◌∙◌, ap₂}
use mir.Syntax.{w32}
use mir.Val.{SFits}
use mir.Facts.{to_z-of_z}
use borrow.Author.Rules.{rules}
use lib.ListN.{length}
use Rattle.order.specs.Sizes.{at}
use Rattle.order.specs.Relations.{rel}
use Rattle.duels.specs.Inside.Codes.{code, own_code_lem, start_code}
use Rattle.duels.proofs.CodeLaws.{outside_looked, alike-looked, told-looked}
use Rattle.duels.proofs.codes.codes_of.Goals as goal
use Rattle.duels.proofs.codes.codes_of.Goals.{After-code_between-newer}

pub returns-then-room-max : goal.returns-then-room-max
returns-then-room-max c =
    let m = c.max.ensures in
    let h = c.if-room-max.true in
    let i = c.from-s.ensures in
    let j = c.from-t.ensures in
    outside_looked c.args.pattern.now c.args.a.0 c.args.i c.args.j (omega arith) c.if-i-eq-NONE.false

-- what the two comparisons tell, of places inside
told : (c : After-code_between-newer) →
    (c.args.a.0 + c.args.i < length c.args.pattern.now) × (c.args.a.0 + c.args.j < length c.args.pattern.now) ×
    (c.code_between-older.result ≡ own_code_lem c.args.pattern.now c.args.a.0 c.args.i c.args.j) × (c.code_between-newer.result ≡ start_code c.args.pattern.now c.args.i c.args.j)
told c =
    let m = c.max.ensures in
    let h = c.if-room-max.false in
    let i = c.from-s.ensures in
    let j = c.from-t.ensures in
    let P = c.args.pattern.now in
    let f₁ : SFits w32 (at P (c.args.a.0 + c.from-s.result)) = search rules in
    let f₂ : SFits w32 (at P (c.args.a.0 + c.from-t.result)) = search rules in
    let f₃ : SFits w32 (at P c.from-s.result) = search rules in
    let f₄ : SFits w32 (at P c.from-t.result) = search rules in (
      omega arith,
      omega arith,
      c.code_between-older.ensures ∙ ap₂ (λ x y. code (rel x y)) (to_z-of_z f₁) (to_z-of_z f₂) ∙ ap₂ (own_code_lem P c.args.a.0) i j,
      c.code_between-newer.ensures ∙ ap₂ (λ x y. code (rel x y)) (to_z-of_z f₃) (to_z-of_z f₄) ∙ ap₂ (start_code P) i j,
    )

pub returns-then-older-newer : goal.returns-then-older-newer
returns-then-older-newer c =
    let t = told (goal.at.returns-then-older-newer c).After-code_between-newer in
    alike-looked c.args.pattern.now c.args.a.0 c.args.i c.args.j c.requires.1 t.0 t.1 t.2 t.3 c.if-older-newer.true

pub returns : goal.returns
returns c =
    let t = told (goal.at.returns c).After-code_between-newer in
    told-looked c.args.pattern.now c.args.a.0 c.args.i c.args.j c.requires.1 t.0 t.1 t.2 t.3 c.if-older-newer.false
