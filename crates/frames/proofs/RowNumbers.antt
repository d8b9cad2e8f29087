-- Shows: numbers made of a row and a column, as row × width + column: one row more, and that a row and a column below the width are told by
-- their number.
-- Assumes nothing.
use Prim.Native.Nat.{ℕ, ◌+◌, ◌*◌, ◌/◌, ◌%◌, ◌<◌}
use mathlib.Core.Path.{◌≡◌, ◌∙◌, ap}
use native.Mathlib.Omega.{arith}
use native.Mathlib.Nat.{add-mul, mul-add-div_right, mul-add-mod_self_right, div-eq_of_lt, mod-eq_of_lt}

pub next_row : (row width : ℕ) → (row + 1) * width ≡ row * width + width
next_row row width = add-mul row 1 width ∙ ap (λ n. row * width + n) (let e : 1 * width ≡ width = omega arith in e)

pub row_of : (width row column : ℕ) → column < width → (row * width + column) / width ≡ row
row_of width row column h =
    mul-add-div_right (let z : 0 < width = omega arith in z) row column ∙ ap (λ n. row + n) (div-eq_of_lt h) ∙ (let z : row + 0 ≡ row = omega arith in z)

pub column_of : (width row column : ℕ) → column < width → (row * width + column) % width ≡ column
column_of width row column h = mul-add-mod_self_right row width column ∙ mod-eq_of_lt h
