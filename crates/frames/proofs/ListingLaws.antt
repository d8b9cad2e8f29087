-- Shows: a list of places in a buffer as it grows, by one column, by a block behind another, by a row; and which numbers the list of all rows
-- holds.
-- Assumes nothing.
use Prim.Native.Nat.{ℕ, zero, suc, ◌+◌, ◌-◌, ◌*◌, ◌≤◌, ◌<◌}
use mathlib.Core.Path.{◌≡◌, refl, sym, ◌∙◌, ap, ap₂, subst}
use mathlib.Core.Logic.{⊎_elim, ◌⊎◌}
use mathlib.Core.List.{List, [], ◌∷◌, ◌++◌, map, append_assoc, append-nil, map-append}
use mathlib.Core.Bool.{Bool, true, false, cond}
use native.Mathlib.Omega.{arith}
use native.Mathlib.Numerals.{add-one}
use native.Mathlib.Nat.{mul-le-mul_right}
use lib.ListN.{length, take, drop, set, length-take, length-drop, drop_of_length-le}
use lib.Seq.{take-set-le, take-suc-set, drop-set-lt, take_all, length-take-le, take-append-add, drop-append-add, drop-drop}
use mir.Val.{bool_byte}
use borrow.Rule.Slice.PartMut.{mid_of, put_mid, mid_len}
use Rattle.std.proofs.lemmas.Slice.{take-put_mid, drop-put_mid}
use Rattle.order.specs.Sizes.{each, those}
use Rattle.order.proofs.Lists.{those-suc, length-each}
use Rattle.frames.proofs.RowNumbers.{next_row}
use Rattle.frames.specs.declared.places.Step.{Step}
use Rattle.frames.specs.Frames.{row_listed, rows_listed}
use Rattle.frames.specs.Inside.{all_places_pass, Listed, RowsListed}

-- ---- lists of numbers

abbrev shift : ℕ → List ℕ → List ℕ
shift base l = map (λ i. base + i) l

shift_shift : (a b : ℕ) (l : List ℕ) → shift (a + b) l ≡ shift a (shift b l)
shift_shift a b [] = refl
shift_shift a b (x ∷ l) = ap₂ (λ n t. n ∷ t) (omega arith) (shift_shift a b l)

pub those_same : (p q : ℕ → Bool) (n : ℕ) → ((i : ℕ) → i < n → p i ≡ q i) → those p n ≡ those q n
unfolding those
those_same p q zero f = refl
those_same p q (suc n) f = ap₂ (λ l t. l ++ cond t (n ∷ []) []) (those_same p q n (λ i h. f i (omega arith))) (f n (omega arith))

those_none : (p : ℕ → Bool) (n : ℕ) → ((i : ℕ) → i < n → p i ≡ false) → those p n ≡ []
unfolding those
those_none p zero f = refl
those_none p (suc n) f = ap₂ (λ l t. l ++ cond t (n ∷ []) []) (those_none p n (λ i h. f i (omega arith))) (f n (omega arith))

-- of the numbers below a + n, those below a and then those from a on
those_add : (p : ℕ → Bool) (a n : ℕ) → those p (a + n) ≡ those p a ++ shift a (those (λ i. p (a + i)) n)
unfolding those
those_add p a zero = ap (those p) (let e : a + 0 ≡ a = omega arith in e) ∙ sym (append-nil (those p a))
those_add p a (suc n) =
    ap (those p) (let e : a + suc n ≡ suc (a + n) = omega arith in e) ∙ those-suc p (a + n) ∙
    ap₂ ◌++◌ (those_add p a n) (one (p (a + n))) ∙
    append_assoc (those p a) (shift a (those (λ i. p (a + i)) n)) (shift a (cond (p (a + n)) (n ∷ []) [])) ∙
    ap (λ l. those p a ++ l) (sym (map-append (λ i. a + i) (those (λ i. p (a + i)) n) (cond (p (a + n)) (n ∷ []) [])))
  where
    one : (t : Bool) → cond t ((a + n) ∷ []) [] ≡ shift a (cond t (n ∷ []) [])
    one true = refl
    one false = refl

-- ---- a list that grows

pub listed_none : (t : ℕ → Bool) (base found : ℕ) (before : List ℕ) → Listed t base 0 found before found before
unfolding those
listed_none t base found before = record { grown = sym (append-nil (take found before)); at_most = omega arith; beyond = λ e h. refl }

-- one column more: it is stored behind the list, which grows over it if it stands
pub listed_more : {t : ℕ → Bool} {base i found n : ℕ} {before now : List ℕ} (b : Bool) → Listed t base i found before n now → b ≡ t i → n < length now
    → Listed t base (i + 1) found before (n + bool_byte b) (set now n (base + i))
listed_more {t} {base} {i} {found} {n} {before} {now} b w e h =
    record {
      grown = go b e;
      at_most = let m = w.at_most in few b;
      beyond = λ f g. let m = w.at_most in drop-set-lt f now n (base + i) (omega arith) ∙ w.beyond f (omega arith);
    }
  where
    few : (b : Bool) → n + bool_byte b ≤ found + (i + 1)
    few true = let m = w.at_most in omega arith
    few false = let m = w.at_most in omega arith

    those_one : (b : Bool) → b ≡ t i → those t (i + 1) ≡ those t i ++ cond b (i ∷ []) []
    those_one b e = ap (those t) (add-one i) ∙ those-suc t i ∙ ap (λ c. those t i ++ cond c (i ∷ []) []) (sym e)

    go : (b : Bool) → b ≡ t i → take (n + bool_byte b) (set now n (base + i)) ≡ take found before ++ shift base (those t (i + 1))
    go true e =
        ap (λ k. take k (set now n (base + i))) (add-one n) ∙ take-suc-set now n (base + i) h ∙ ap (λ l. l ++ ((base + i) ∷ [])) w.grown ∙
        append_assoc (take found before) (shift base (those t i)) ((base + i) ∷ []) ∙
        ap (λ l. take found before ++ l) (sym (ap (shift base) (those_one true e) ∙ map-append (λ i. base + i) (those t i) (i ∷ [])))
    go false e =
        ap (λ k. take k (set now n (base + i))) (let z : n + 0 ≡ n = omega arith in z) ∙ take-set-le n now n (base + i) (omega arith) ∙ w.grown ∙
        ap (λ l. take found before ++ shift base l) (sym (those_one false e ∙ append-nil (those t i)))

pub listed_all : {t : ℕ → Bool} {base i m found n : ℕ} {before now : List ℕ} → Listed t base i found before n now → i ≡ m → Listed t base m found before n now
listed_all {t} {base} {found = found} {n} {before} {now} w e = subst (λ (m : ℕ). Listed t base m found before n now) e w

-- the same where all columns stand
abbrev everywhere : ℕ → Bool
everywhere i = true

each_those : (base n : ℕ) → each (λ i. base + i) n ≡ shift base (those everywhere n)
unfolding each those
each_those base zero = refl
each_those base (suc n) = ap (λ l. l ++ ((base + n) ∷ [])) (each_those base n) ∙ sym (map-append (λ i. base + i) (those everywhere n) (n ∷ []))

pub listed_each : {base n : ℕ} {before entries : List ℕ} → n ≤ length before → entries ≡ each (λ i. base + i) (length (mid_of 0 (n - 0) before))
    → Listed everywhere base n 0 before n (put_mid 0 (n - 0) before entries)
listed_each {base} {n} {before} {entries} h e =
    let long : length (mid_of 0 (n - 0) before) ≡ n = mid_len 0 n before h ∙ (let z : n - 0 ≡ n = omega arith in z) in
    let all : entries ≡ each (λ i. base + i) n = e ∙ ap (each (λ i. base + i)) long in
    let number : length entries ≡ n = ap length all ∙ length-each (λ i. base + i) n in
    record {
      grown = take-put_mid 0 (n - 0) before entries n (omega arith) (omega arith) ∙ all ∙ each_those base n;
      at_most = omega arith;
      beyond = λ f g. drop-put_mid 0 (n - 0) before entries f (omega arith) (omega arith) (omega arith);
    }

-- what is listed in the entries behind a list, in the whole buffer
pub listed_behind : {t : ℕ → Bool} {base n k r : ℕ} {now part : List ℕ} → k ≤ length now → Listed t base n 0 (mid_of k (length now - k) now) r part → Listed t base n k now (k + r) (put_mid k (length now - k) now part)
listed_behind {t} {base} {n} {k} {r} {now} {part} h w =
    record {
      grown = ap (take (k + r)) whole ∙ ap (λ m. take (m + r) (take k now ++ part)) (sym long) ∙ take-append-add (take k now) part r ∙ ap (λ l. take k now ++ l) w.grown;
      at_most = let m = w.at_most in omega arith;
      beyond = λ e g.
          let l = long in
          let r = rest in
          let there : e ≡ length (take k now) + (e - k) = omega arith in
          let again : k + (e - k) ≡ e = omega arith in
          ap (drop e) whole ∙ ap (λ m. drop m (take k now ++ part)) there ∙ drop-append-add (take k now) part (e - k) ∙ w.beyond (e - k) (omega arith) ∙
          ap (drop (e - k)) (take_all (length now - k) (drop k now) (omega arith)) ∙ drop-drop (e - k) k now ∙ ap (λ m. drop m now) again;
    }
  where
    long : length (take k now) ≡ k
    long = length-take-le k now h

    rest : length (drop k now) ≡ length now - k
    rest = length-drop k now

    whole : put_mid k (length now - k) now part ≡ take k now ++ part
    whole = ap (λ l. take k now ++ (part ++ l)) (drop_of_length-le (drop k now) (let r = rest in omega arith)) ∙ ap (λ l. take k now ++ l) (append-nil part)

-- a block behind what is listed
pub listed_then : {t : ℕ → Bool} {base a n found k r : ℕ} {before now after : List ℕ} → Listed t base a found before k now
    → Listed (λ i. t (a + i)) (base + a) n k now r after → Listed t base (a + n) found before r after
listed_then {t} {base} {a} {n} {found} {k} {r} {before} {now} {after} v w =
    record {
      grown = w.grown ∙ ap (λ l. l ++ shift (base + a) (those (λ i. t (a + i)) n)) v.grown ∙
          append_assoc (take found before) (shift base (those t a)) (shift (base + a) (those (λ i. t (a + i)) n)) ∙
          ap (λ l. take found before ++ l) (ap (λ l. shift base (those t a) ++ l) (shift_shift base a (those (λ i. t (a + i)) n)) ∙
          sym (ap (shift base) (those_add t a n) ∙ map-append (λ i. base + i) (those t a) (shift a (those (λ i. t (a + i)) n))));
      at_most = let p = v.at_most in let q = w.at_most in omega arith;
      beyond = λ e h. let p = v.at_most in w.beyond e (omega arith) ∙ v.beyond e (omega arith);
    }

-- the same columns by another test that tells the same
pub listed_same : {t u : ℕ → Bool} {base n found r : ℕ} {before after : List ℕ} → Listed t base n found before r after → ((i : ℕ) → i < n → t i ≡ u i) → Listed u base n found before r after
listed_same {t} {u} {base} {n} {found} {r} {before} w f =
    record { grown = w.grown ∙ ap (λ l. take found before ++ shift base l) (those_same t u n f); at_most = w.at_most; beyond = w.beyond }

-- columns none of which passes leave the list as it is
pub listed-nowhere : {t : ℕ → Bool} (base n found : ℕ) (before : List ℕ) → ((i : ℕ) → i < n → t i ≡ false) → Listed t base n found before found before
listed-nowhere {t} base n found before f =
    record { grown = sym (append-nil (take found before)) ∙ ap (λ l. take found before ++ shift base l) (sym (those_none t n f)); at_most = omega arith; beyond = λ e h. refl }

-- a block of a row behind others
pub block_then : (F : List ℕ) (steps : List Step) (at : ℕ) {base a n found k r : ℕ} {before now after : List ℕ}
    → Listed (λ i. all_places_pass F steps (at + i)) base a found before k now → Listed (λ i. all_places_pass F steps (at + a + i)) (base + a) n k now r after
    → Listed (λ i. all_places_pass F steps (at + i)) base (a + n) found before r after
block_then F steps at {a = a} v w =
    listed_then v (listed_same w (λ i h. ap (all_places_pass F steps) (let e : at + a + i ≡ at + (a + i) = omega arith in e)))

-- ---- rows

pub rows_none : (t : ℕ → ℕ → Bool) (width columns : ℕ) (before : List ℕ) → RowsListed t width columns 0 before 0 before
unfolding rows_listed
rows_none t width columns before = record { are = refl; at_most = omega arith; beyond = λ e h. refl }

rows-suc : (t : ℕ → ℕ → Bool) (width columns row : ℕ) → rows_listed t width columns (row + 1) ≡ rows_listed t width columns row ++ row_listed (t row) row width columns
unfolding rows_listed
rows-suc t width columns row = rw add-one refl

pub rows_more : {t : ℕ → ℕ → Bool} {width columns row k r : ℕ} {before now after : List ℕ} → RowsListed t width columns row before k now
    → Listed (t row) (row * width) columns k now r after → RowsListed t width columns (row + 1) before r after
unfolding row_listed
rows_more {t} {width} {columns} {row} {k} {r} {before} {now} {after} v w =
    let e = next_row row columns in
    record {
      are = w.grown ∙ ap (λ l. l ++ shift (row * width) (those (t row) columns)) v.are ∙ sym (rows-suc t width columns row);
      at_most = let p = v.at_most in let q = w.at_most in omega arith;
      beyond = λ f h. let p = v.at_most in w.beyond f (omega arith) ∙ v.beyond f (omega arith);
    }

pub rows_listed_same : (t u : ℕ → ℕ → Bool) (width columns rows : ℕ) → ((row column : ℕ) → row < rows → column < columns → t row column ≡ u row column)
    → rows_listed t width columns rows ≡ rows_listed u width columns rows
unfolding rows_listed row_listed
rows_listed_same t u width columns zero f = refl
rows_listed_same t u width columns (suc rows) f =
    ap₂ ◌++◌ (rows_listed_same t u width columns rows (λ row column h g. f row column (omega arith) g))
    (ap (shift (rows * width)) (those_same (t rows) (u rows) columns (λ column g. f rows column (omega arith) g)))

pub rows_same : {t u : ℕ → ℕ → Bool} {width columns rows r : ℕ} {before after : List ℕ} → RowsListed t width columns rows before r after
    → ((row column : ℕ) → row < rows → column < columns → t row column ≡ u row column) → RowsListed u width columns rows before r after
rows_same {t} {u} {width} {columns} {rows} w f = record { are = w.are ∙ rows_listed_same t u width columns rows f; at_most = w.at_most; beyond = w.beyond }

-- room for one row more, and numbers that fit
pub row_room : (row rows columns : ℕ) → row < rows → row * columns + columns ≤ rows * columns
row_room row rows columns h = let a = mul-le-mul_right columns (let z : row + 1 ≤ rows = omega arith in z) in let b = next_row row columns in omega arith

-- the part of a block's array that is a mask of so many columns
pub block-part : (columns : ℕ) (l : List Bool) → columns ≤ 128 → length l ≡ 128 → length (take (columns - 0) l) ≡ columns
block-part columns l h e = let a = length-take (columns - 0) l in omega arith

-- no rows, or rows without columns, list nothing
pub no_columns : (t : ℕ → ℕ → Bool) (width rows : ℕ) → rows_listed t width 0 rows ≡ []
unfolding rows_listed row_listed those
no_columns t width zero = refl
no_columns t width (suc rows) = append-nil (rows_listed t width 0 rows) ∙ no_columns t width rows

pub nothing-listed : (t : ℕ → ℕ → Bool) (width columns rows : ℕ) (before : List ℕ) → (rows ≡ 0) ⊎ (columns ≡ 0) → RowsListed t width columns rows before 0 before
unfolding rows_listed
nothing-listed t width columns rows before e =
    record { are = sym (⊎_elim (λ (z : rows ≡ 0). rw z (none_there columns)) (λ (z : columns ≡ 0). rw z (no_columns t width rows)) e); at_most = omega arith; beyond = λ f h. refl }
  where
    none_there : (columns : ℕ) → rows_listed t width columns 0 ≡ []
    none_there columns = refl
