-- "Sweep", of a buffer l that holds a list of windows in its first entries.
use Rattle.std.specs.Prelude.{ℕ, ◌+◌, List, Bool, cond, ◌&&◌, ltb, length, set}

-- window x at the end of a list of so many, if it passed all its places; past the buffer's end nothing is stored
abbrev pub listed : List ℕ → ℕ → ℕ → Bool → List ℕ
listed l found x whole = cond whole (set l found x) l

-- how many are listed then
abbrev pub listed_count : List ℕ → ℕ → Bool → ℕ
listed_count l found whole = cond (whole && ltb found (length l)) (found + 1) found
