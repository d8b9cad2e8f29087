-- Shows: which places are listed, and in which order; that a search that was checked meets its promise; and that no second answer, nor other
-- content of positions, satisfies it.
-- Assumes nothing.
use Prim.Native.Nat.{ℕ, zero, suc, ◌+◌, ◌-◌, ◌*◌, ◌/◌, ◌%◌, ◌≤◌, ◌<◌}
use mathlib.Core.Path.{◌≡◌, refl, sym, ◌∙◌, ap, ap₂, subst}
use mathlib.Core.Logic.{⊎_elim, ◌↔◌}
use mathlib.Core.List.Memᴰ
use mathlib.Core.List.{List, [], ◌∷◌, ◌++◌, map, Memᴰ}
use mathlib.Core.Bool.{Bool, true}
use native.Mathlib.Omega.{arith}
use native.Mathlib.Nat.{eq-or-lt_of_le, le_of_suc-le-suc}
use lib.ListN.{length, take, drop, replicate}
use Rattle.std.specs.Prelude.{Result, Ok, Err}
use lib.Seq.{take_at, length-take-le}
use Rattle.order.specs.declared.refusal.Refusal.{Refusal}
use Rattle.order.specs.Sizes.{unused, windows_of, those}
use Rattle.order.specs.Isomorphic.{Iso}
use Rattle.order.specs.Refusals.{Verdict, accepted, refused, verdict_number, verdict_place}
use Rattle.order.specs.Answers.{answer_by}
use Rattle.order.specs.Written.{over, filled, after_verdict}
use Rattle.order.proofs.Lists.{mem_those, those_mem, Ascending, those_ascend, windows_of_as}
use Rattle.order.proofs.Isomorphisms.{iso_computed, computed_iso}
use Rattle.lists.proofs.FilledUp.{filled-over, written_out}
use Rattle.levels.specs.Levels.{levels}
use Rattle.frame_sizes.specs.FrameSizes.{samples_needed, places_of}
use Rattle.frame_sizes.specs.Tried.{SizesFit}
use Rattle.frame_sizes.proofs.FrameRows.{sizes_fit}
use Rattle.frames.specs.declared.answers.Sighted.{Sighted}
use Rattle.frames.specs.Frames.{under, matches_at, row_listed, rows_listed, places_listed}
use Rattle.frames.specs.FramePromise.{sighted_of, buffers_verdict, FramePromise}
use Rattle.frames.proofs.RowNumbers.{row_of, column_of}
use Rattle.frames.proofs.ListingLaws.{row_room}
use Rattle.frames.specs.Inside.{RowsListed, PlacesWritten, PatchInside}

-- ---- which numbers are listed

-- a number is listed as row × width + column of a place that passes
pub record PlaceOf (t : ℕ → ℕ → Bool) (width columns rows x : ℕ) : Type 0 where
  pub row : ℕ
  pub column : ℕ
  pub row_below : row < rows
  pub column_below : column < columns
  pub number_is : x ≡ row * width + column
  pub passed : t row column ≡ true

pub listed_place : {x : ℕ} (t : ℕ → ℕ → Bool) (width columns rows : ℕ) → Memᴰ x (rows_listed t width columns rows) → PlaceOf t width columns rows x
unfolding rows_listed row_listed
listed_place t width columns zero m = absurd (Memᴰ.not-nil m)
listed_place {x} t width columns (suc rows) m =
    ⊎_elim
    (λ (k : Memᴰ x (rows_listed t width columns rows)).
    let p = listed_place t width columns rows k in
    let b = p.row_below in
    record { row = p.row; column = p.column; row_below = omega arith; column_below = p.column_below; number_is = p.number_is; passed = p.passed })
    (λ (k : Memᴰ x (map (λ column. rows * width + column) (those (t rows) columns))).
    let q = Memᴰ.of_map (λ column. rows * width + column) (those (t rows) columns) k in
    let r = mem_those (t rows) columns q.1 in
    record { row = rows; column = q.0; row_below = omega arith; column_below = r.0; number_is = sym q.2; passed = r.1 })
    (Memᴰ.append_cases (rows_listed t width columns rows) m)

pub place_listed : (t : ℕ → ℕ → Bool) (width columns rows row column : ℕ) → row < rows → column < columns → t row column ≡ true
    → Memᴰ (row * width + column) (rows_listed t width columns rows)
unfolding rows_listed row_listed
place_listed t width columns zero row column h g e = absurd (omega arith)
place_listed t width columns (suc rows) row column h g e =
    ⊎_elim
    (λ (q : row ≡ rows).
    rw q
    (Memᴰ.append_right (rows_listed t width columns rows) (Memᴰ.map (λ column. rows * width + column) (those_mem (t rows) columns column g (rw (← q) e)))))
    (λ (q : row < rows). Memᴰ.append_left _ (place_listed t width columns rows row column q g e))
    (eq-or-lt_of_le (le_of_suc-le-suc h))

-- exactly the places that pass
pub exactly : (t : ℕ → ℕ → Bool) (width columns rows row column : ℕ) → columns ≤ width → column < width
    → Memᴰ (row * width + column) (rows_listed t width columns rows) ↔ (row < rows) × (column < columns) × (t row column ≡ true)
exactly t width columns rows row column h g = (
  (λ m.
      let p = listed_place t width columns rows m in
      let b : p.column < width = (let a = p.column_below in omega arith) in
      let r : row ≡ p.row = sym (row_of width row column g) ∙ ap (λ n. n / width) p.number_is ∙ row_of width p.row p.column b in
      let c : column ≡ p.column = sym (column_of width row column g) ∙ ap (λ n. n % width) p.number_is ∙ column_of width p.row p.column b in
      ((let a = p.row_below in omega arith), (let a = p.column_below in omega arith), ap₂ t r c ∙ p.passed)),
  (λ q. place_listed t width columns rows row column q.0 q.1 q.2),
)

-- ---- in which order

ascending_append : (l r : List ℕ) → Ascending l → Ascending r → ((a b : ℕ) → Memᴰ a l → Memᴰ b r → a < b) → Ascending (l ++ r)
ascending_append [] r x y f = y
ascending_append (a ∷ l) r x y f = (
  (λ z m. ⊎_elim (λ (k : Memᴰ z l). x.0 z k) (λ (k : Memᴰ z r). f a z (Memᴰ.head refl) k) (Memᴰ.append_cases l m)),
  ascending_append l r x.1 y (λ b c m n. f b c (Memᴰ.tail m) n),
)

ascending_shift : (base : ℕ) (l : List ℕ) → Ascending l → Ascending (map (λ i. base + i) l)
ascending_shift base [] x = x
ascending_shift base (a ∷ l) x = (
  (λ z m.
      let q = Memᴰ.of_map (λ i. base + i) l m in
      let b = x.0 q.0 q.1 in
      let e : base + q.0 ≡ z = q.2 in
      omega arith),
  ascending_shift base l x.1,
)

-- row after row, in each the columns in their order: so the numbers ascend, and none comes twice
pub rows_ascend : (t : ℕ → ℕ → Bool) (width columns rows : ℕ) → columns ≤ width → Ascending (rows_listed t width columns rows)
unfolding rows_listed row_listed
rows_ascend t width columns zero h = tt
rows_ascend t width columns (suc rows) h =
    ascending_append (rows_listed t width columns rows) (map (λ column. rows * width + column) (those (t rows) columns)) (rows_ascend t width columns rows h)
    (ascending_shift (rows * width) (those (t rows) columns) (those_ascend (t rows) columns))
    (λ a b m n.
    let p = listed_place t width columns rows m in
    let q = Memᴰ.of_map (λ column. rows * width + column) (those (t rows) columns) n in
    let e : rows * width + q.0 ≡ b = q.2 in
    let r = row_room p.row rows width p.row_below in
    let c = p.column_below in
    let x = p.number_is in
    omega arith)

pub places_ascend : (F : List ℕ) (height width pitch : ℕ) (Q : List ℕ) (h k : ℕ) → 0 < k → Ascending (places_listed F height width pitch Q h k)
unfolding places_listed
places_ascend F height width pitch Q h k some =
    let w = windows_of_as k width in
    rows_ascend (matches_at F pitch Q h k) width (windows_of k width) (windows_of h height) (omega arith)

-- ---- what accepted sizes tell of the rows and columns tried

pub inside_of : {samples height width pitch patch h k room rows columns : ℕ} {F : List ℕ} → SizesFit samples height width pitch patch h k room → samples ≡ length F
    → rows ≡ windows_of h height → columns ≡ windows_of k width → (rows ≡ 0 → ⊥) → (columns ≡ 0 → ⊥) → PatchInside F pitch width h k rows columns
unfolding samples_needed
inside_of {samples} {height} {width} {pitch} {patch} {h} {k} {room} {rows} {columns} {F} f l r c some any =
    let a = windows_of_as h height in
    let b = windows_of_as k width in
    let w = f.some_rows in
    let v = f.some_columns in
    let e : 0 < rows = above rows some in
    let d : 0 < columns = above columns any in
    let hl = f.height_bound in
    let last : rows + h - 2 ≡ height - 1 = omega arith in
    record {
      some_rows = e;
      some_columns = d;
      few_rows = omega arith;
      across = omega arith;
      narrow = f.width_bound;
      one_column = v;
      one_row = w;
      few = f.patch_bound;
      wide_pitch = f.wide_pitch;
      last_row = let s = f.samples_there in rw last (omega arith);
    }
  where
    above : (n : ℕ) → (n ≡ 0 → ⊥) → 0 < n
    above zero f = absurd (f refl)
    above (suc n) f = omega arith

-- they fit whatever the room for the places, if it is enough
pub fit_exactly : {samples height width pitch patch h k room : ℕ} → SizesFit samples height width pitch patch h k room → SizesFit samples height width pitch patch h k (places_of height width h k)
fit_exactly f =
    record {
      some_width = f.some_width;
      some_rows = f.some_rows;
      some_columns = f.some_columns;
      height_bound = f.height_bound;
      width_bound = f.width_bound;
      patch_bound = f.patch_bound;
      wide_pitch = f.wide_pitch;
      samples_there = f.samples_there;
      patch_there = f.patch_there;
      room = omega arith;
    }

-- ---- the promise

module _ (F : List ℕ) (height width pitch : ℕ) (Q : List ℕ) (h k : ℕ) (before : List ℕ) where
  abbrev verdict : Verdict
  verdict = buffers_verdict F height width pitch Q h k before

  abbrev told : Sighted
  told = sighted_of F height width pitch Q h k

  abbrev list : List ℕ
  list = places_listed F height width pitch Q h k

  pub frame_refused : (why : Refusal) → verdict ≡ refused why → FramePromise F height width pitch Q h k before (Err why) before
  frame_refused why v =
      record {
        number = ap verdict_number (sym v);
        place = ap verdict_place (sym v);
        answer = ap (λ w. answer_by w told) (sym v);
        positions_after = ap (λ w. after_verdict w (filled list (places_of height width h k)) before) (sym v);
        exact = λ s e. cc;
      }

  -- what is written tells the list again
  list_again : (after : List ℕ) (n : ℕ) → length list ≤ n → after ≡ over (filled list n) before → take (length list) after ≡ list
  list_again after n g e =
      ap (take (length list)) (e ∙ filled-over list before n g) ∙ take_at list (replicate (n - length list) unused ++ drop n before) (length list) refl

  -- the places, listed and filled up
  pub places-written : {rows columns found : ℕ} {now after : List ℕ} → rows * columns ≤ length before → rows ≡ windows_of h height → columns ≡ windows_of k width
      → RowsListed (matches_at F pitch Q h k) width columns rows before found now → length now ≡ length before
      → after ≡ take found now ++ (replicate (rows * columns - found) unused ++ drop (rows * columns) now)
      → PlacesWritten F height width pitch Q h k before found after
  unfolding places_listed places_of
  places-written {rows} {columns} {found} {now} {after} room r c w l e =
      let places : rows * columns ≡ windows_of h height * windows_of k width = ap₂ ◌*◌ r c in
      let most = w.at_most in
      let are : take found now ≡ list = w.are ∙ ap₂ (λ a b. rows_listed (matches_at F pitch Q h k) width b a) r c in
      let number : found ≡ length list = sym (length-take-le found now (omega arith)) ∙ ap length are in
      record {
        number = number;
        within = omega arith;
        written = written_out list before now found (rows * columns) are number most (w.beyond (rows * columns) (omega arith)) e ∙ ap (λ n. over (filled list n) before) places;
      }

  pub frame-done : {places found : ℕ} {after : List ℕ} → verdict ≡ accepted → places ≡ places_of height width h k → PlacesWritten F height width pitch Q h k before found after
      → FramePromise F height width pitch Q h k before (Ok (record { places = places; found = found })) after
  unfolding places_listed matches_at
  frame-done {places} {found} {after} v e w =
      let wide = windows_of_as k width in
      let some = (sizes_fit v).some_columns in
      record {
        number = ap verdict_number (sym v);
        place = ap verdict_place (sym v);
        answer = rw (e, w.number) refl ∙ ap (λ u. answer_by u told) (sym v);
        positions_after = w.written ∙ ap (λ u. after_verdict u (filled list (places_of height width h k)) before) (sym v);
        exact = λ s q row column g.
            let same : found ≡ s.found = counted q in
            let again : take s.found after ≡ list = ap (λ n. take n after) (sym same ∙ w.number) ∙ list_again after (places_of height width h k) w.within w.written in
            let x = exactly (matches_at F pitch Q h k) width (windows_of k width) (windows_of h height) row column (omega arith) g in (
              (λ m. let y = x.0 (subst (Memᴰ (row * width + column)) again m) in (y.0, y.1, match_iso row column y.2)),
              (λ y. subst (Memᴰ (row * width + column)) (sym again) (x.1 (y.0, y.1, iso_match row column y.2))),
            );
      }
    where
      counted : {a b : Sighted} → ◌≡◌ {A = Result Sighted Refusal} (Ok a) (Ok b) → a.found ≡ b.found
      counted {a} {b} e = let f : a ≡ b = cc in ap (λ (s : Sighted). s.found) f

      match_iso : (row column : ℕ) → matches_at F pitch Q h k row column ≡ true → Iso (levels Q (h * k)) (under F pitch h k row column)
      match_iso row column e = computed_iso (levels Q (h * k)) (under F pitch h k row column) e

      iso_match : (row column : ℕ) → Iso (levels Q (h * k)) (under F pitch h k row column) → matches_at F pitch Q h k row column ≡ true
      iso_match row column i = iso_computed (levels Q (h * k)) (under F pitch h k row column) i

  -- no second answer, and no other content
  pub frame_only_answer : {r s : Result Sighted Refusal} {after₁ after₂ : List ℕ} → FramePromise F height width pitch Q h k before r after₁ → FramePromise F height width pitch Q h k before s after₂
      → (r ≡ s) × (after₁ ≡ after₂)
  frame_only_answer p q = (p.answer ∙ sym q.answer, p.positions_after ∙ sym q.positions_after)
