-- Shows: the offsets of a patch's places, laid row by row; that at every place tried they lie inside the frame; and that what they lead to is
-- what the rules read under the patch.
-- Assumes nothing.
use Prim.Native.Nat.{ℕ, ◌+◌, ◌-◌, ◌*◌, ◌/◌, ◌%◌, ◌≤◌, ◌<◌}
use mathlib.Core.Path.{◌≡◌, refl, sym, ◌∙◌, ap, ap₂, subst}
use mathlib.Core.Logic.{⊎_elim}
use mathlib.Core.List.{List, ◌++◌, append-nil}
use mathlib.Core.Bool.{Bool, true, false}
use native.Mathlib.Omega.{arith}
use native.Mathlib.Nat.{add-mul, mul-le-mul_right, div-lt_iff_lt-mul, mod-lt, div-add-mod', eq-or-lt_of_le, lt_of_mul-lt-mul_right}
use lib.Dec.{ltb, eqb}
use lib.IntN.{pos}
use lib.ListN.{length, get_or, take, set, drop_of_length-le, length-take}
use lib.Seq.{get_or-set_other}
use borrow.Author.Tests.{ltb-true, ltb-false, eqb-true, eqb-false}
use Rattle.order.specs.Sizes.{each}
use Rattle.order.proofs.Filling.{Filled, filled_none, filled_more, filled_at}
use Rattle.order.proofs.Lists.{length-each, get_or-each, each_same}
use Rattle.frames.specs.Frames.{level_at, under}
use Rattle.frames.specs.declared.places.Step.{Step}
use Rattle.frames.specs.Inside.{nowhere, no_step, here_at, offset_of, lone, offsets_of, near_of, near_step, near_steps, all_places_pass, pass_by_tables, Turned, LastFits, StepWithin, Within, RowsListed, Grid, OffsetsInside, PatchInside}
use Rattle.frames.proofs.RowNumbers.{next_row, row_of, column_of}
use Rattle.frames.proofs.StepLaws.{seen, Apart, near_there, near_none, near_self}
use Rattle.frames.proofs.ListingLaws.{rows_same}

-- ---- row by row

-- place j lies in a row that starts at `start`, in column `column`, or right behind its last one
pub record Corner (pitch k j start column : ℕ) : Type 0 where
  pub row : ℕ
  pub start_is : start ≡ row * pitch
  pub place_is : j ≡ row * k + column
  pub within : column ≤ k

pub first_corner : (pitch k : ℕ) → Corner pitch k 0 0 0
first_corner pitch k = record { row = 0; start_is = omega arith; place_is = omega arith; within = omega arith }

-- after a turn the column is inside its row, and place j's offset is the sum of the two
pub record CornerIn (pitch k j start column : ℕ) : Type 0 where
  pub row : ℕ
  pub start_is : start ≡ row * pitch
  pub place_is : j ≡ row * k + column
  pub inside : column < k

pub corner_turned : {pitch k j start column start' column' : ℕ} → 0 < k → Corner pitch k j start column → Turned start column k pitch start' column'
    → CornerIn pitch k j start' column'
corner_turned {pitch} {k} {j} {start} {column} {start'} {column'} some c t = go (eqb column k) refl
  where
    go : (b : Bool) → eqb column k ≡ b → CornerIn pitch k j start' column'
    go true e =
        let q : column ≡ k = eqb-true column k e in
        let u = t.turns q in
        let a = next_row c.row k in
        let b = next_row c.row pitch in
        let s = c.start_is in
        let p = c.place_is in
        record { row = c.row + 1; start_is = u.0 ∙ (let z : start + pitch ≡ (c.row + 1) * pitch = omega arith in z); place_is = (let y = u.1 in omega arith); inside = (let y = u.1 in omega arith) }
    go false e =
        let q : column ≡ k → ⊥ = eqb-false column k e in
        let u = t.stays q in
        let w = c.within in
        let y = u.1 in
        let p = c.place_is in
        let l : column < k = ⊎_elim (λ (e : column ≡ k). absurd (q e)) (λ (g : column < k). g) (eq-or-lt_of_le w) in
        record { row = c.row; start_is = u.0 ∙ c.start_is; place_is = omega arith; inside = omega arith }

pub offset_there : {pitch k j start column : ℕ} → CornerIn pitch k j start column → start + column ≡ offset_of pitch k j
unfolding offset_of
offset_there {pitch} {k} {j} {start} {column} c =
    let i : column < k = c.inside in
    let d : j / k ≡ c.row = ap (λ n. n / k) c.place_is ∙ row_of k c.row column i in
    let r : j % k ≡ column = ap (λ n. n % k) c.place_is ∙ column_of k c.row column i in
    ap (λ n. n + column) c.start_is ∙ sym (ap₂ (λ a b. a * pitch + b) d r)

pub next_corner : {pitch k j start column : ℕ} → CornerIn pitch k j start column → Corner pitch k (j + 1) start (column + 1)
next_corner c = let p = c.place_is in let i = c.inside in record { row = c.row; start_is = c.start_is; place_is = omega arith; within = omega arith }

-- all places of a buffer laid
pub laid_whole : {A : Type 0} {f : ℕ → A} {j : ℕ} {before now : List A} → Filled f j before now → length before ≤ j → j ≤ length before → now ≡ each f (length before)
laid_whole {f = f} {j} {before} w h g =
    w.holds ∙ ap (λ l. each f j ++ l) (drop_of_length-le before h) ∙ append-nil (each f j) ∙ ap (each f) (let e : j ≡ length before = omega arith in e)

-- the part of an array that has as many steps as a patch has places
pub room_long : (m : ℕ) (l : List Step) → m ≤ 1024 → length l ≡ 1024 → length (take (m - 0) l) ≡ m
room_long m l h e = let a = length-take (m - 0) l in omega arith

-- ---- inside the frame

module _ {F : List ℕ} {pitch width h k rows columns : ℕ} (i : PatchInside F pitch width h k rows columns) where
  -- up to the last row that the patch covers
  row_reaches : (row : ℕ) → row ≤ rows + h - 2 → row * pitch ≤ (rows + h - 2) * pitch
  row_reaches row g = mul-le-mul_right pitch g

  pub last_fits : length F < 18446744073709551616 → LastFits pitch k (h * k)
  last_fits g =
      record {
        some = i.one_column;
        fits = λ row q.
            let below : row < h = lt_of_mul-lt-mul_right k q in
            let a = i.some_rows in
            let b = row_reaches row (omega arith) in
            let d = i.last_row in
            let e = i.across in
            let f = i.some_columns in
            omega arith;
      }

  offset_inside : (row j : ℕ) → row < rows → j < h * k → row * pitch + offset_of pitch k j + columns ≤ length F
  unfolding offset_of
  offset_inside row j q g =
      let below : j / k < h = (div-lt_iff_lt-mul i.one_column).1 g in
      let across : j % k < k = mod-lt j i.one_column in
      let reach = row_reaches (row + j / k) (omega arith) in
      let sum = add-mul row (j / k) pitch in
      let d = i.last_row in
      let e = i.across in
      omega arith

  laid_at : (j : ℕ) → j < h * k → here_at (each (λ j. lone (offset_of pitch k j)) (h * k)) j ≡ offset_of pitch k j
  laid_at j g = ap (λ (p : Step). p.here) (get_or-each (λ j. lone (offset_of pitch k j)) (h * k) j no_step g)

  -- no two places have one offset, and none has that of none
  pub offsets_apart : length F < 18446744073709551616 → Apart (offsets_of pitch k (h * k))
  unfolding offsets_of offset_of
  offsets_apart f =
      let n = length-each (λ j. lone (offset_of pitch k j)) (h * k) in
      record {
        distinct = λ a b p q e.
            let u : a < h * k = rw n at p in
            let v : b < h * k = rw n at q in
            one_place a b (sym (laid_at a u) ∙ e ∙ laid_at b v);
        somewhere = λ a p e.
            let u : a < h * k = rw n at p in
            let c = offset_inside 0 a i.some_rows u in
            let d = laid_at a u in
            let g = i.some_columns in
            omega arith;
      }
    where
      one_place : (a b : ℕ) → offset_of pitch k a ≡ offset_of pitch k b → a ≡ b
      one_place a b e =
          let p : a % k < pitch = narrow_column a in
          let q : b % k < pitch = narrow_column b in
          let row : a / k ≡ b / k = sym (row_of pitch (a / k) (a % k) p) ∙ ap (λ m. m / pitch) e ∙ row_of pitch (b / k) (b % k) q in
          let column : a % k ≡ b % k = sym (column_of pitch (a / k) (a % k) p) ∙ ap (λ m. m % pitch) e ∙ column_of pitch (b / k) (b % k) q in
          sym (div-add-mod' a k) ∙ ap₂ (λ x y. x * k + y) row column ∙ div-add-mod' b k
        where
          narrow_column : (a : ℕ) → a % k < pitch
          narrow_column a = let m = mod-lt a i.one_column in let w = i.wide_pitch in let e = i.across in let g = i.some_columns in omega arith

  pub offsets_inside : {low high : List ℕ} → length F < 18446744073709551616 → h * k ≤ length low → h * k ≤ length high → OffsetsInside F (offsets_of pitch k (h * k)) low high pitch rows columns
  unfolding offsets_of
  offsets_inside {low} {high} fits l g =
      let n = length-each (λ j. lone (offset_of pitch k j)) (h * k) in
      let e = i.across in
      let o = i.one_column in
      let a = i.one_row in
      record {
        low_room = rw n l;
        high_room = rw n g;
        somewhere = (offsets_apart fits).somewhere;
        row_start = λ row q. let reach = row_reaches row (omega arith) in let d = i.last_row in omega arith;
        row_inside = λ row j q z. let b : j < h * k = rw n at z in rw (laid_at j b) (offset_inside row j q b);
      }

-- the places' neighbours lie inside where the places do
pub grid : {F : List ℕ} {offsets : List Step} {low high : List ℕ} {pitch rows columns : ℕ} → OffsetsInside F offsets low high pitch rows columns
    → Grid F (near_steps offsets low high) pitch rows columns
unfolding near_steps
grid {F} {offsets} {low} {high} {pitch} {rows} {columns} i =
    let m = length offsets in
    let l = length-each (λ j. near_step offsets j (get_or low j 0) (get_or high j 0)) m in
    record {
      row_within = λ row q.
          record {
            start = i.row_start row q;
            inside = λ j z.
                let g : j < m = rw l at z in
                rw (get_or-each (λ j. near_step offsets j (get_or low j 0) (get_or high j 0)) m j no_step g) (step-within row j q g (get_or low j 0) (get_or high j 0));
          };
    }
  where
    Reached : ℕ → ℕ → Type 0
    Reached row o = row * pitch + o + columns ≤ length F

    -- an entry's offset is that of a place, or none while the other's is a place's
    reached : (row j : ℕ) → row < rows → j < length offsets → (e other : ℕ) → (near_of offsets j e other ≡ nowhere → ⊥) → Reached row (near_of offsets j e other)
    reached row j q z e other f = go (ltb e (length offsets)) (ltb other (length offsets)) refl refl
      where
        go : (t u : Bool) → ltb e (length offsets) ≡ t → ltb other (length offsets) ≡ u → Reached row (near_of offsets j e other)
        go true u a b = let h = ltb-true e (length offsets) a in rw (near_there offsets j e other h) (i.row_inside row e q h)
        go false true a b = absurd (f (near_none offsets j e other (ltb-false e (length offsets) a) (ltb-true other (length offsets) b)))
        go false false a b = rw (near_self offsets j e other (ltb-false e (length offsets) a) (ltb-false other (length offsets) b)) (i.row_inside row j q z)

    -- both are none for no place
    not_both : (j : ℕ) → j < length offsets → (e other : ℕ) → near_of offsets j e other ≡ near_of offsets j other e → near_of offsets j e other ≡ nowhere → ⊥
    not_both j z e other s n = go (ltb e (length offsets)) (ltb other (length offsets)) refl refl
      where
        go : (t u : Bool) → ltb e (length offsets) ≡ t → ltb other (length offsets) ≡ u → ⊥
        go true u a b = let h = ltb-true e (length offsets) a in i.somewhere e h (sym (near_there offsets j e other h) ∙ n)
        go false true a b = let h = ltb-true other (length offsets) b in i.somewhere other h (sym (near_there offsets j other e h) ∙ sym s ∙ n)
        go false false a b = i.somewhere j z (sym (near_self offsets j e other (ltb-false e (length offsets) a) (ltb-false other (length offsets) b)) ∙ n)

    step-within : (row j : ℕ) → row < rows → j < length offsets → (e other : ℕ) → StepWithin F (row * pitch) columns (near_step offsets j e other)
    step-within row j q z e other =
        record {
          here_in = i.row_inside row j q z;
          one_in = λ s. reached row j q z e other (not_both j z e other s);
          low_in = reached row j q z e other;
          high_in = reached row j q z other e;
        }

-- ---- what the offsets lead to

pub seen_under : (F : List ℕ) (pitch h k row column : ℕ) → seen F (offsets_of pitch k (h * k)) (row * pitch + column) ≡ under F pitch h k row column
unfolding seen under level_at offset_of offsets_of
seen_under F pitch h k row column =
    ap (each (λ j. pos (get_or F (row * pitch + column + here_at (each (λ j. lone (offset_of pitch k j)) (h * k)) j) 0))) (length-each (λ j. lone (offset_of pitch k j)) (h * k)) ∙
    each_same (λ j. pos (get_or F (row * pitch + column + here_at (each (λ j. lone (offset_of pitch k j)) (h * k)) j) 0)) (λ j. pos (get_or F ((row + j / k) * pitch + (column + j % k)) 0)) (h * k)
    (λ j g. ap (λ n. pos (get_or F n 0)) (ap (λ n. row * pitch + column + n) (ap (λ (p : Step). p.here) (get_or-each (λ j. lone (offset_of pitch k j)) (h * k) j no_step g)) ∙ sum j))
  where
    sum : (j : ℕ) → row * pitch + column + offset_of pitch k j ≡ (row + j / k) * pitch + (column + j % k)
    sum j = let e = add-mul row (j / k) pitch in omega arith

pub within_same : {F : List ℕ} {steps : List Step} {s n m : ℕ} → m ≡ n → Within F steps s n → Within F steps s m
within_same {F} {steps} {s} e i = subst (λ (k : ℕ). Within F steps s k) (sym e) i

-- ---- what the functions that lay them out hand on

module _ (F : List ℕ) (offsets : List Step) (low high : List ℕ) {steps : List Step} (e : steps ≡ near_steps offsets low high) where
  pub grid_laid : {pitch rows columns : ℕ} → OffsetsInside F offsets low high pitch rows columns → Grid F steps pitch rows columns
  grid_laid i = rw e (grid i)

  pub rows_laid : (pitch : ℕ) {width columns rows r : ℕ} {before after : List ℕ}
      → RowsListed (λ row column. all_places_pass F steps (row * pitch + column)) width columns rows before r after
      → RowsListed (λ row column. pass_by_tables F offsets low high (row * pitch + column)) width columns rows before r after
  unfolding pass_by_tables
  rows_laid pitch w = rows_same w (λ row column h g. ap (λ l. all_places_pass F l (row * pitch + column)) e)

module _ (F low high : List ℕ) {offsets : List Step} (pitch k m : ℕ) (e : offsets ≡ offsets_of pitch k m) where
  pub offsets_laid : {rows columns : ℕ} → OffsetsInside F (offsets_of pitch k m) low high pitch rows columns
      → OffsetsInside F offsets low high pitch rows columns
  offsets_laid i = rw e i

-- ---- neighbours laid beside the offsets, one place a turn

-- where no offset has moved a neighbour's is the same
near_kept : (before now : List Step) → length now ≡ length before → ((i : ℕ) → here_at now i ≡ here_at before i) → (j e other : ℕ) → near_of now j e other ≡ near_of before j e other
unfolding near_of
near_kept before now l f j e other = rw (l, f e, f j) refl

-- the places below j have their neighbours, and the others are as they were
pub record NearTo (low high : List ℕ) (j : ℕ) (before now : List Step) : Type 0 where
  pub laid : Filled (λ i. near_step before i (get_or low i 0) (get_or high i 0)) j before now
  pub waiting : (i : ℕ) → j ≤ i → get_or now i no_step ≡ get_or before i no_step

pub near_to_none : (low high : List ℕ) (before : List Step) → NearTo low high 0 before before
near_to_none low high before = record { laid = filled_none (λ i. near_step before i (get_or low i 0) (get_or high i 0)) before; waiting = λ i h. refl }

module _ {low high : List ℕ} {j : ℕ} {before now : List Step} (w : NearTo low high j before now) where
  abbrev f : ℕ → Step
  f i = near_step before i (get_or low i 0) (get_or high i 0)

  -- a place's own offset stays
  here_kept : (i : ℕ) → here_at now i ≡ here_at before i
  here_kept i = go (ltb i j) refl
    where
      go : (t : Bool) → ltb i j ≡ t → here_at now i ≡ here_at before i
      go true e = ap (λ (p : Step). p.here) (filled_at f i no_step w.laid (ltb-true i j e))
      go false e = ap (λ (p : Step). p.here) (w.waiting i (ltb-false i j e))

  pub near_there_still : {below above : ℕ} → below ≡ near_of now j (get_or low j 0) (get_or high j 0) → above ≡ near_of now j (get_or high j 0) (get_or low j 0)
      → (here : ℕ) → here ≡ here_at now j → ◌≡◌ {A = Step} (record { here = here; below = below; above = above }) (f j)
  near_there_still b a here e =
      let k = near_kept before now w.laid.long here_kept in
      rw (e ∙ here_kept j, b ∙ k j (get_or low j 0) (get_or high j 0), a ∙ k j (get_or high j 0) (get_or low j 0)) refl

  pub near_to_more : {p : Step} → j < length before → p ≡ f j → NearTo low high (j + 1) before (set now j p)
  near_to_more {p} h e =
      record {
        laid = filled_more f w.laid h e;
        waiting = λ i g. get_or-set_other now j i p no_step (λ z. omega arith) ∙ w.waiting i (omega arith);
      }

  pub near_to_all : length before ≤ j → j ≤ length before → now ≡ near_steps before low high
  unfolding near_steps
  near_to_all h g = laid_whole w.laid h g
