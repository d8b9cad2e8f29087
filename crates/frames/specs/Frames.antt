-- "Frames": the grey levels of a patch and those under it at a place, whether the two match, and how the places that match are listed.
use Rattle.std.specs.Prelude.{ℕ, zero, suc, ◌+◌, ◌*◌, ◌/◌, ◌%◌, List, [], ◌++◌, map, Bool, ℤ, pos, get_or}
use Rattle.order.specs.Sizes.{windows_of, each, those}
use Rattle.order.specs.Isomorphic.{is_iso}
use Rattle.levels.specs.Levels.{levels}

-- the level at a row and a column of a frame
unfoldable pub level_at : List ℕ → ℕ → ℕ → ℕ → ℤ
level_at F pitch row column = pos (get_or F (row * pitch + column) 0)

-- the levels under a patch of h rows and k columns that is laid at a row and a column, read row by row
unfoldable pub under : List ℕ → ℕ → ℕ → ℕ → ℕ → ℕ → List ℤ
under F pitch h k row column = each (λ j. level_at F pitch (row + j / k) (column + j % k)) (h * k)

-- whether the patch Q matches there, whose levels are the first h × k of its buffer
unfoldable pub matches_at : List ℕ → ℕ → List ℕ → ℕ → ℕ → ℕ → ℕ → Bool
matches_at F pitch Q h k row column = is_iso (levels Q (h * k)) (under F pitch h k row column)

-- the columns below n of a row that pass a test, ascending, each written as row × width + column
unfoldable pub row_listed : (ℕ → Bool) → ℕ → ℕ → ℕ → List ℕ
row_listed test row width n = map (λ column. row * width + column) (those test n)

-- those of the rows below a number, row after row
unfoldable pub rows_listed : (ℕ → ℕ → Bool) → ℕ → ℕ → ℕ → List ℕ
rows_listed test width columns zero = []
rows_listed test width columns (suc row) = rows_listed test width columns row ++ row_listed (test row) row width columns

-- all places that match
unfoldable pub places_listed : List ℕ → ℕ → ℕ → ℕ → List ℕ → ℕ → ℕ → List ℕ
places_listed F height width pitch Q h k = rows_listed (matches_at F pitch Q h k) width (windows_of k width) (windows_of h height)
