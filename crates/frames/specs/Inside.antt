-- What the functions inside this crate ask of their callers and tell them, part by part.
use Rattle.std.specs.Prelude.{ℕ, ◌+◌, ◌-◌, ◌*◌, ◌/◌, ◌%◌, ◌≤◌, ◌<◌, ◌≡◌, List, ◌++◌, map, Bool, true, false, cond, ◌&&◌, ltb, eqb, length, get_or, take, drop}
use Rattle.order.specs.Sizes.{each, those}
use Rattle.order.specs.Isomorphic.{all_below}
use Rattle.order.specs.Written.{over, filled}
use Rattle.frame_sizes.specs.FrameSizes.{places_of}
use Rattle.frames.specs.declared.places.Step.{Step}
use Rattle.frames.specs.Frames.{rows_listed, places_listed}

-- ---- the patch over the frame

-- an offset that stands for none
abbrev pub nowhere : ℕ
nowhere = 18446744073709551615

-- of no place
abbrev pub no_step : Step
no_step = record { here = 0; below = 0; above = 0 }

-- a place's own offset
abbrev pub here_at : List Step → ℕ → ℕ
here_at steps j = (get_or steps j no_step).here

-- how far place j of a patch of k columns lies from its first sample, in the frame
unfoldable pub offset_of : ℕ → ℕ → ℕ → ℕ
offset_of pitch k j = (j / k) * pitch + j % k

-- a place whose neighbours are not laid yet
abbrev pub lone : ℕ → Step
lone offset = record { here = offset; below = 0; above = 0 }

-- those of m places
unfoldable pub offsets_of : ℕ → ℕ → ℕ → List Step
offsets_of pitch k m = each (λ j. lone (offset_of pitch k j)) m

-- the offset of the place that an entry of place j names; where it names none, none if the other entry names one, else place j's own
unfoldable pub near_of : List Step → ℕ → ℕ → ℕ → ℕ
near_of steps j e other = cond (ltb e (length steps)) (here_at steps e) (cond (ltb other (length steps)) nowhere (here_at steps j))

-- place j with its neighbours, by its two entries
abbrev pub near_step : List Step → ℕ → ℕ → ℕ → Step
near_step steps j low high = record { here = here_at steps j; below = near_of steps j low high; above = near_of steps j high low }

-- all places with their neighbours, by the two tables
unfoldable pub near_steps : List Step → List ℕ → List ℕ → List Step
near_steps steps low high = each (λ j. near_step steps j (get_or low j 0) (get_or high j 0)) (length steps)

-- the place behind column `column` of a row that starts at `start`: there, or at the start of the next row
pub record Turned (start column k pitch start' column' : ℕ) : Type 0 where
  pub stays : (column ≡ k → ⊥) → (start' ≡ start) × (column' ≡ column)
  pub turns : column ≡ k → (start' ≡ start + pitch) × (column' ≡ 0)

-- the last of m places has an offset that is a number of the machine's
pub record LastFits (pitch k m : ℕ) : Type 0 where
  pub some : 0 < k
  pub fits : (row : ℕ) → row * k < m → row * pitch + k < 18446744073709551616

-- the test of a place of the patch on the frame's samples, if the patch's first sample lies on sample s
unfoldable pub step_test : List ℕ → ℕ → Step → Bool
step_test F s p =
    cond (eqb p.below p.above) (eqb (get_or F (s + p.here) 0) (get_or F (s + p.below) 0))
    (cond (eqb p.below nowhere) (ltb (get_or F (s + p.here) 0) (get_or F (s + p.above) 0))
    (cond (eqb p.above nowhere) (ltb (get_or F (s + p.below) 0) (get_or F (s + p.here) 0))
    (ltb (get_or F (s + p.below) 0) (get_or F (s + p.here) 0) && ltb (get_or F (s + p.here) 0) (get_or F (s + p.above) 0))))

-- that of place j
unfoldable pub step_passes_lem : List ℕ → List Step → ℕ → ℕ → Bool
step_passes_lem F steps s j = step_test F s (get_or steps j no_step)

-- the places below j all pass; and all of them
unfoldable pub pass_below : ℕ → List ℕ → List Step → ℕ → Bool
pass_below j F steps s = all_below j (step_passes_lem F steps s)

abbrev pub all_places_pass : List ℕ → List Step → ℕ → Bool
all_places_pass F steps s = pass_below (length steps) F steps s

-- the same by the tables of the neighbours' places
unfoldable pub pass_by_tables : List ℕ → List Step → List ℕ → List ℕ → ℕ → Bool
pass_by_tables F steps low high s = all_places_pass F (near_steps steps low high) s

-- over n neighbouring starts from s on a place and its neighbours lie inside the frame
pub record StepWithin (F : List ℕ) (s n : ℕ) (p : Step) : Type 0 where
  pub here_in : s + p.here + n ≤ length F
  pub one_in : p.below ≡ p.above → s + p.below + n ≤ length F
  pub low_in : (p.below ≡ nowhere → ⊥) → s + p.below + n ≤ length F
  pub high_in : (p.above ≡ nowhere → ⊥) → s + p.above + n ≤ length F

-- so does each place, and so do the starts
pub record Within (F : List ℕ) (steps : List Step) (s n : ℕ) : Type 0 where
  pub start : s + n ≤ length F
  pub inside : (j : ℕ) → j < length steps → StepWithin F s n (get_or steps j no_step)

-- ---- masks

-- a number that is 0 only if none of a mask stands, and its length only if all do. A mask is of so few columns that eight bits hold their number
pub record Counted (mask : List Bool) (n : ℕ) : Type 0 where
  pub few : length mask ≤ 128
  pub none_left : n ≡ 0 → (i : ℕ) → i < length mask → get_or mask i false ≡ false
  pub all_left : n ≡ length mask → (i : ℕ) → i < length mask → get_or mask i false ≡ true

-- all of a mask stands
pub record AllStand (mask : List Bool) : Type 0 where
  pub few : length mask ≤ 128
  pub stands : (i : ℕ) → i < length mask → get_or mask i false ≡ true

-- what stood in a mask and passes a test stands after it
pub record Narrowed (t : ℕ → Bool) (before : List Bool) (r : ℕ) (after : List Bool) : Type 0 where
  pub stands : (i : ℕ) → i < length before → get_or after i false ≡ (get_or before i false && t i)
  pub counted : Counted after r

-- where a mask of the starts from s on stands the places below j pass, and where it has fallen not all do
pub record Stands (F : List ℕ) (steps : List Step) (s j : ℕ) (mask : List Bool) : Type 0 where
  pub standing : (i : ℕ) → i < length mask → get_or mask i false ≡ true → pass_below j F steps (s + i) ≡ true
  pub fallen : (i : ℕ) → i < length mask → get_or mask i false ≡ false → all_places_pass F steps (s + i) ≡ false

-- a mask after `done` of the places
pub record Looked (F : List ℕ) (steps : List Step) (s done standing : ℕ) (mask : List Bool) : Type 0 where
  pub within : done ≤ length steps
  pub stands : Stands F steps s done mask
  pub counted : Counted mask standing

-- a mask after all of them, and its number
pub record BlockTested (F : List ℕ) (steps : List Step) (s r : ℕ) (mask : List Bool) : Type 0 where
  pub nowhere_passes : r ≡ 0 → (i : ℕ) → i < length mask → all_places_pass F steps (s + i) ≡ false
  pub all_pass : r ≡ length mask → (i : ℕ) → i < length mask → all_places_pass F steps (s + i) ≡ true
  pub told : (r ≡ 0 → ⊥) → (i : ℕ) → i < length mask → get_or mask i false ≡ all_places_pass F steps (s + i)

-- ---- lists of places

-- a list of `found` in a buffer has grown to r: each number below n that passes a test is written behind it, added to base
pub record Listed (t : ℕ → Bool) (base n found : ℕ) (before : List ℕ) (r : ℕ) (after : List ℕ) : Type 0 where
  pub grown : take r after ≡ take found before ++ map (λ i. base + i) (those t n)
  pub at_most : r ≤ found + n
  pub beyond : (e : ℕ) → found + n ≤ e → drop e after ≡ drop e before

-- a buffer's list is that of the rows below a number, and its entries past what those can fill are as they were
pub record RowsListed (t : ℕ → ℕ → Bool) (width columns rows : ℕ) (before : List ℕ) (r : ℕ) (after : List ℕ) : Type 0 where
  pub are : take r after ≡ rows_listed t width columns rows
  pub at_most : r ≤ rows * columns
  pub beyond : (e : ℕ) → rows * columns ≤ e → drop e after ≡ drop e before

-- all places listed, and "unused" behind them
pub record PlacesWritten (F : List ℕ) (height width pitch : ℕ) (Q : List ℕ) (h k : ℕ) (before : List ℕ) (r : ℕ) (after : List ℕ) : Type 0 where
  pub number : r ≡ length (places_listed F height width pitch Q h k)
  pub within : length (places_listed F height width pitch Q h k) ≤ places_of height width h k
  pub written : after ≡ over (filled (places_listed F height width pitch Q h k) (places_of height width h k)) before

-- ---- what is asked of those who look at whole frames

-- the places tried are inside: at each row over all columns
pub record Grid (F : List ℕ) (steps : List Step) (pitch rows columns : ℕ) : Type 0 where
  pub row_within : (row : ℕ) → row < rows → Within F steps (row * pitch) columns

-- the same by the offsets of the patch's places alone, and room for their neighbours
pub record OffsetsInside (F : List ℕ) (steps : List Step) (low high : List ℕ) (pitch rows columns : ℕ) : Type 0 where
  pub low_room : length steps ≤ length low
  pub high_room : length steps ≤ length high
  pub somewhere : (j : ℕ) → j < length steps → here_at steps j ≡ nowhere → ⊥
  pub row_start : (row : ℕ) → row < rows → row * pitch + columns ≤ length F
  pub row_inside : (row j : ℕ) → row < rows → j < length steps → row * pitch + here_at steps j + columns ≤ length F

-- the patch lies inside the frame at the last place tried, and its places are few
pub record PatchInside (F : List ℕ) (pitch width h k rows columns : ℕ) : Type 0 where
  pub some_rows : 0 < rows
  pub some_columns : 0 < columns
  pub few_rows : rows ≤ 1024
  pub across : columns + k ≤ width + 1
  pub narrow : width ≤ 1024
  pub one_column : 0 < k
  pub one_row : 0 < h
  pub few : h * k ≤ 1024
  pub wide_pitch : width ≤ pitch
  pub last_row : (rows + h - 2) * pitch + width ≤ length F
