-- "Sizes": the limits, windows and their number, and how a list is made of the numbers below another, or of those of a list.
use Rattle.std.specs.Prelude.{ℕ, zero, suc, ◌+◌, ◌-◌, List, [], ◌∷◌, ◌++◌, Bool, true, false, cond, leb, ℤ, pos, get_or, take, drop}
use Rattle.order.specs.declared.kinds.Place.{Place}

-- the longest pattern and the longest trace
abbrev pub pattern_limit : ℕ
pattern_limit = 1024

abbrev pub trace_limit : ℕ
trace_limit = 65536

-- the longest recording that is written, in samples
abbrev pub recording_limit : ℕ
recording_limit = 65536

-- the longest input of the program, in bytes
abbrev pub input_limit : ℕ
input_limit = 16384

-- a table entry that names no place, and a buffer's entry that holds no window
abbrev pub no_place : ℕ
no_place = 65535

abbrev pub unused : ℕ
unused = 4294967295

-- the place of a number, as the code's own type for places has it
abbrev pub as_place : ℕ → Place
as_place i = record { 0 = i }

-- a place of a list, or none
pub data Spot : Type 0 where
  none : Spot
  place : ℕ → Spot

unfoldable pub is_none : Spot → Bool
is_none none = true
is_none (place i) = false

-- a place as a table holds it
unfoldable pub entry : Spot → ℕ
entry none = no_place
entry (place i) = i

-- the sample at a place of a list
abbrev pub at : List ℤ → ℕ → ℤ
at l i = get_or l i (pos 0)

-- N, the number of windows of m samples in a trace of n
unfoldable pub windows_of : ℕ → ℕ → ℕ
windows_of m n = cond (leb m n) (n - m + 1) 0

-- window x: the m samples from x on
abbrev pub window : List ℤ → ℕ → ℕ → List ℤ
window T x m = take m (drop x T)

-- what f gives for 0, 1, .. below n
unfoldable pub each : {A : Type 0} → (ℕ → A) → ℕ → List A
each f zero = []
each f (suc n) = each f n ++ (f n ∷ [])

-- the numbers below n that pass a test, ascending
unfoldable pub those : (ℕ → Bool) → ℕ → List ℕ
those p zero = []
those p (suc n) = those p n ++ cond (p n) (n ∷ []) []

-- those of a list, in its order
unfoldable pub passing : (ℕ → Bool) → List ℕ → List ℕ
passing p [] = []
passing p (x ∷ xs) = cond (p x) (x ∷ []) [] ++ passing p xs

-- the first of two spots, unless it is none
unfoldable pub or_else : Spot → Spot → Spot
or_else none s = s
or_else (place i) s = place i

-- the lowest number below n that passes a test
unfoldable pub lowest : (ℕ → Bool) → ℕ → Spot
lowest p zero = none
lowest p (suc n) = or_else (lowest p n) (cond (p n) (place n) none)
