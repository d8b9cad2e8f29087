-- `course` meets its contract: a pattern whose offset 1 has no witness is steady, and its first step tells which way.
use mathlib.Core.Path.{◌≡◌, sym, ◌∙◌, ap₂, subst}
use native.Mathlib.Omega.{arith}
use mir.Syntax.{w32}
use mir.Val.{SFits}
use mir.Facts.{to_z-of_z}
use Rattle.order.specs.Sizes.{at}
use Rattle.order.specs.Relations.{rel}
use Rattle.search.specs.Inside.Courses.{Steady}
use Rattle.search.proofs.SteadyLaws.{goes_one_way, no_witness}
use borrow.Author.Rules.{rules}
use Rattle.search.proofs.checked.Checked.course.Goals as goal

pub returns-then-self : goal.returns-then-self
returns-then-self c =
    let P = c.args.self.pattern.now in
    let h = c.if-self-le1.false in
    let none = no_witness c.args.self.own.witnesses (omega arith) c.if-self.true in
    record {
      steady = λ way e.
          let r : c.compare.result ≡ way = cc in
          let fa : SFits w32 (at P 1) = search rules in
          let fb : SFits w32 (at P 0) = search rules in
          subst (Steady P) (sym (c.compare.ensures ∙ ap₂ rel (to_z-of_z fa) (to_z-of_z fb)) ∙ r) (goes_one_way P none c.args.self.own.some);
    }
