-- `put_number` meets its contract: the digits before the last one, and then that one.
use native.Mathlib.Omega.{arith}
use Prim.Native.Nat.{◌/◌, ◌%◌}
use mathlib.Core.List.{[], ◌∷◌}
use Rattle.report.specs.Decimals.{digit, decimal}
use Rattle.report.proofs.Numerals.{decimal_high}
use Rattle.report.proofs.Printing.{long, number_put}
use Rattle.report.proofs.texts.Text.+put_number.Goals as goal

pub put_number-requires : goal.put_number-requires
put_number-requires t c =
    let h = c.if-v-lt10.false in
    let l = long (decimal (c.args.v / 10)) (digit (c.args.v % 10) ∷ []) (decimal_high c.args.v h) in
    let p = c.requires in
    let e = c.decreases in
    (omega arith, omega arith)

pub put_digit-requires-2 : goal.put_digit-requires-2
put_digit-requires-2 t c =
    let l = long (decimal (c.args.v / 10)) (digit (c.args.v % 10) ∷ []) (decimal_high c.args.v c.if-v-lt10.false) in
    let p = c.requires in
    let n = long c.args.self.now (decimal (c.args.v / 10)) c.put_number.ensures in
    (omega arith, omega arith)

pub returns : goal.returns
returns t c = number_put c.args.self.now _ c.if-v-lt10.false c.put_number.ensures c.put_digit-2.ensures
