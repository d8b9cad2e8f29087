-- Shows: a frame of one row, and a patch of one, are a trace and a pattern: the places listed are the windows that the search of the trace
-- lists.
-- Assumes nothing.
use Prim.Native.Nat.{ℕ, ◌+◌, ◌*◌, ◌/◌, ◌%◌, ◌≤◌, ◌<◌}
use mathlib.Core.Path.{◌≡◌, refl, sym, ◌∙◌, ap, ap₂}
use mathlib.Core.List.{List, [], ◌∷◌, map}
use mathlib.Core.Bool.{false, not, ◌&&◌}
use native.Mathlib.Omega.{arith}
use native.Mathlib.Nat.{div-eq_of_lt, mod-eq_of_lt}
use lib.IntN.{ℤ, pos}
use lib.ListN.{length, get_or, drop, length-take, length-drop}
use lib.Seq.{ext_get_or}
use Rattle.order.specs.Sizes.{at, windows_of, window, those}
use Rattle.order.specs.Lost.{is_lost}
use Rattle.order.specs.Isomorphic.{is_iso}
use Rattle.order.specs.Duels.{is_struck}
use Rattle.order.specs.Sweeping.{positions}
use Rattle.order.specs.Written.{occurrences}
use Rattle.order.proofs.Lists.{length-each, get_or-each, windows_of_as}
use Rattle.order.proofs.Isomorphisms.{at_part}
use Rattle.order.proofs.LostStitches.{none_holds}
use Rattle.order.proofs.Whole.{positions-are}
use Rattle.levels.specs.Levels.{levels}
use Rattle.levels.proofs.LevelLaws.{level_found, length-levels, at_levels}
use Rattle.frames.specs.Frames.{level_at, under, matches_at, row_listed, rows_listed, places_listed}
use Rattle.frames.proofs.ListingLaws.{those_same}

module _ (F : List ℕ) (n : ℕ) where
  -- a window of levels
  at_window : (x k i : ℕ) → x + k ≤ n → i < k → at (window (levels F n) x k) i ≡ pos (get_or F (x + i) 0)
  at_window x k i h g = at_part k x (levels F n) i g ∙ at_levels F n (x + i) (omega arith)

  long-window : (x k : ℕ) → x + k ≤ n → length (window (levels F n) x k) ≡ k
  long-window x k h = let a = length-take k (drop x (levels F n)) in let b = length-drop x (levels F n) in let c = length-levels F n in omega arith

  none_struck : (P : List ℤ) (x : ℕ) → x + length P ≤ n → is_struck P (levels F n) x ≡ false
  unfolding is_struck
  none_struck P x h =
      none_holds (window (levels F n) x (length P))
      (λ i g. let l = long-window x (length P) h in ap is_lost (at_window x (length P) i h (omega arith)) ∙ level_found (get_or F (x + i) 0))

  -- what lies under a patch of one row is a window
  under-window : (x k : ℕ) → x + k ≤ n → under F n 1 k 0 x ≡ window (levels F n) x k
  unfolding under level_at
  under-window x k h =
      let one : 1 * k ≡ k = omega arith in
      let w = length-each (λ j. pos (get_or F ((0 + j / k) * n + (x + j % k)) 0)) (1 * k) in
      let l = long-window x k h in
      ext_get_or (pos 0) _ _ (w ∙ one ∙ sym l)
      (λ i g.
      let b : i < k = omega arith in
      get_or-each (λ j. pos (get_or F ((0 + j / k) * n + (x + j % k)) 0)) (1 * k) i (pos 0) (omega arith) ∙
      ap₂ (λ q r. pos (get_or F ((0 + q) * n + (x + r)) 0)) (div-eq_of_lt b) (mod-eq_of_lt b) ∙
      ap (λ m. pos (get_or F m 0)) (let z : (0 + 0) * n + (x + i) ≡ x + i = omega arith in z) ∙ sym (at_window x k i h b))

  pub one_row : (Q : List ℕ) (k : ℕ) → 0 < k → places_listed F 1 n n Q 1 k ≡ positions (levels Q k) (levels F n)
  unfolding places_listed rows_listed row_listed matches_at occurrences windows_of those
  one_row Q k some =
      plain (those (λ c. is_iso (levels Q (1 * k)) (under F n 1 k 0 c)) (windows_of k n)) ∙
      those_same _ _ (windows_of k n)
      (λ c h.
      let a = windows_of_as k n in
      let inside : c + k ≤ n = omega arith in
      let m : length (levels Q k) ≡ k = long in
      ap₂ is_iso (ap (levels Q) (let e : 1 * k ≡ k = omega arith in e)) (under-window c k inside ∙ ap (window (levels F n) c) (sym m)) ∙
      ap (λ b. not b && is_iso (levels Q k) (window (levels F n) c (length (levels Q k)))) (sym (none_struck (levels Q k) c (omega arith)))) ∙
      ap₂ (λ a b. those (λ x. not (is_struck (levels Q k) (levels F n) x) && is_iso (levels Q k) (window (levels F n) x (length (levels Q k)))) (windows_of a b)) (sym long) (sym (length-levels F n)) ∙
      sym (positions-are (levels Q k) (levels F n))
    where
      long : length (levels Q k) ≡ k
      long = length-levels Q k

      plain : (l : List ℕ) → map (λ column. 0 * n + column) l ≡ l
      plain [] = refl
      plain (x ∷ l) = ap₂ (λ y t. y ∷ t) (let z : 0 * n + x ≡ x = omega arith in z) (plain l)
