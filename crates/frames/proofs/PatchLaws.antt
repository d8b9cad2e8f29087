-- Shows: by the neighbours of the patch's own levels the places found are those where the patch matches.
-- Assumes nothing.
use Prim.Native.Nat.{ℕ, ◌+◌, ◌-◌, ◌*◌, ◌≤◌, ◌<◌}
use mathlib.Core.Path.{◌≡◌, sym, ◌∙◌, ap}
use mathlib.Core.List.{List}
use native.Mathlib.Omega.{arith}
use native.Mathlib.Nat.{mul-le-mul}
use lib.IntN.{pos}
use Rattle.std.specs.Prelude.{Result}
use lib.ListN.{length, take}
use lib.Seq.{length-take-le, get_or-take}
use Rattle.order.specs.Isomorphic.{is_iso}
use Rattle.order.proofs.Lists.{length-each, each_same}
use Rattle.order.specs.declared.refusal.Refusal.{Refusal}
use Rattle.tables.specs.Inside.Asked.{OwnNeighbours}
use Rattle.levels.specs.Levels.{levels}
use Rattle.levels.specs.Promises.{NeighboursPromise}
use Rattle.levels.proofs.LevelLaws.{length-levels}
use Rattle.levels.proofs.Promised.{own-levels}
use Rattle.frames.specs.Frames.{matches_at}
use Rattle.frames.specs.Inside.{offset_of, lone, offsets_of, pass_by_tables, RowsListed, PatchInside}
use Rattle.frames.proofs.StepLaws.{all_as_iso}
use Rattle.frames.proofs.OffsetLaws.{offsets_apart, seen_under}
use Rattle.frames.proofs.ListingLaws.{rows_same}

-- the levels of a buffer's front are the buffer's first
levels_front : (Q : List ℕ) (m : ℕ) → m ≤ length Q → levels (take (m - 0) Q) (length (take (m - 0) Q)) ≡ levels Q m
unfolding levels
levels_front Q m h = let e : m - 0 ≡ m = omega arith in rw (e, length-take-le m Q h) (each_same _ _ m (λ k l. ap pos (get_or-take m Q k 0 l)))

module _ (Q : List ℕ) {F : List ℕ} {pitch width h k rows columns : ℕ} (i : PatchInside F pitch width h k rows columns) where
  some-places : 0 < h * k
  some-places = mul-le-mul i.one_row i.one_column

  own_front : {low high low' high' : List ℕ} {r : Result (Unit {0}) Refusal} → h * k ≤ length Q → NeighboursPromise (levels (take (h * k - 0) Q) (length (take (h * k - 0) Q))) low high r low' high'
      → h * k ≤ length low → h * k ≤ length high → length low' ≡ length low → length high' ≡ length high → OwnNeighbours (levels Q (h * k)) low' high'
  own_front {low} {high} q p l g e f = own-levels Q (h * k) low high (rw (levels_front Q (h * k) q) at p) some-places i.few l g e f

  pub patch_found : {low high low' high' : List ℕ} {r : Result (Unit {0}) Refusal} {found : ℕ} {before after : List ℕ} → length F < 18446744073709551616 → h * k ≤ length Q
      → NeighboursPromise (levels (take (h * k - 0) Q) (length (take (h * k - 0) Q))) low high r low' high'
      → h * k ≤ length low → h * k ≤ length high → length low' ≡ length low → length high' ≡ length high
      → RowsListed (λ row column. pass_by_tables F (offsets_of pitch k (h * k)) low' high' (row * pitch + column)) width columns rows before found after
      → RowsListed (matches_at F pitch Q h k) width columns rows before found after
  unfolding matches_at offsets_of
  patch_found {low' = low'} {high'} fits q p l g e f w =
      rows_same w
      (λ row column a b.
      all_as_iso (levels Q (h * k)) F (offsets_of pitch k (h * k)) low' high' (row * pitch + column) (own_front q p l g e f) long (offsets_apart i fits) ∙
      ap (is_iso (levels Q (h * k))) (seen_under F pitch h k row column))
    where
      long : length (offsets_of pitch k (h * k)) ≡ length (levels Q (h * k))
      long = length-each (λ j. lone (offset_of pitch k j)) (h * k) ∙ sym (length-levels Q (h * k))
