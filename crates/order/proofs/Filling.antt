-- Shows: a buffer that is written from entry 0 on, one entry a turn, holds what each entry was given and then its old content.
-- Assumes nothing.
use mathlib.Core.Path.{◌≡◌, refl, sym, ◌∙◌, ap}
use mathlib.Core.List.{List, [], ◌∷◌, ◌++◌, append_assoc}
use Prim.Native.Nat.{ℕ, suc, ◌+◌, ◌<◌}
use native.Mathlib.Numerals.{add-one}
use lib.ListN.{length, get_or, drop, set, length-set, take-append-drop, get_or-append}
use lib.Seq.{take-suc, drop-cons, set_at, get_or-set_same}
use Rattle.order.specs.Sizes.{each}
use Rattle.order.specs.Written.{over}
use Rattle.order.proofs.Lists.{each_more, length-each, get_or-each}

-- of a buffer that held `before`, the n first entries are written, and the rest is as it was
pub record Filled {A : Type 0} (f : ℕ → A) (n : ℕ) (before out : List A) : Type 0 where
  pub long : length out ≡ length before
  pub holds : out ≡ each f n ++ drop n before

module _ {A : Type 0} (f : ℕ → A) where
  pub filled_none : (before : List A) → Filled f 0 before before
  unfolding each
  filled_none before = record { long = refl; holds = refl }

  -- one store more
  next : (n : ℕ) (before : List A) → n < length before → set (each f n ++ drop n before) n (f n) ≡ each f (n + 1) ++ drop (n + 1) before
  next n before h =
      rw (
        each_more f n,
        add-one,
        drop-cons before n (f n) h,
        set_at (each f n) (get_or before n (f n)) (drop (suc n) before) (f n) n (length-each f n),
        append_assoc,
      ) refl

  pub filled_more : {n : ℕ} {v : A} {before out : List A} → Filled f n before out → n < length before → v ≡ f n →
      Filled f (n + 1) before (set out n v)
  filled_more {n} {v} {before} {out} w h e =
      record { long = length-set out n v ∙ w.long; holds = rw (w.holds, e) (next n before h) }

  -- entry 0 is written, and what the buffer holds then is where the rest starts from
  pub filled-first : {v : A} (before : List A) → v ≡ f 0 → 0 < length before → Filled f 1 (set before 0 v) (set before 0 v)
  unfolding each
  filled-first {v} before e h =
      record { long = refl; holds = start (set before 0 v) (get_or-set_same before 0 v v h ∙ e) (rw length-set h) }
    where
      start : (l : List A) → get_or l 0 v ≡ f 0 → 0 < length l → l ≡ each f 1 ++ drop 1 l
      start l g k = sym (take-append-drop 1 l) ∙ ap (λ h. h ++ drop 1 l) (take-suc l 0 v k ∙ ap (λ x. x ∷ []) g ∙ sym (each_more f 0))

  -- all of the n entries
  pub filled_all : {n : ℕ} {before out : List A} → Filled f n before out → out ≡ over (each f n) before
  filled_all {n} {before} w = w.holds ∙ ap (λ k. each f n ++ drop k before) (sym (length-each f n))

  -- one of them
  pub filled_at : {n : ℕ} {before out : List A} (k : ℕ) (d : A) → Filled f n before out → k < n → get_or out k d ≡ f k
  filled_at {n} {before} k d w h =
      rw w.holds (get_or-append (each f n) (drop n before) d k (rw length-each h) ∙ get_or-each f n k d h)

  pub over_at : {n : ℕ} (k : ℕ) (d : A) (before : List A) → k < n → get_or (over (each f n) before) k d ≡ f k
  over_at {n} k d before h =
      get_or-append (each f n) (drop (length (each f n)) before) d k (rw length-each h) ∙ get_or-each f n k d h
