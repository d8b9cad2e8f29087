-- Shows: a part of a buffer that is filled with "unused", in its buffer; and that a buffer whose first entries are a list, with such a
-- part behind them, is what the rules write.
-- Assumes nothing.
use Prim.Native.Nat.{ℕ, ◌-◌, ◌≤◌}
use mathlib.Core.Path.{◌≡◌, sym, ◌∙◌, ap, ap₂}
use mathlib.Core.List.{List, ◌++◌, append_assoc}
use native.Mathlib.Omega.{arith}
use lib.ListN.{length, take, drop, replicate, length-append, length-replicate}
use borrow.Rule.Slice.PartMut.{mid_of, put_mid, mid_len, Post-is}
use Rattle.order.specs.Sizes.{unused}
use Rattle.order.specs.Written.{over, filled}

-- the part from entry k up to entry n, in its buffer
pub part_filled : (l : List ℕ) {part : List ℕ} (k n : ℕ) → k ≤ n → n ≤ length l → part ≡ replicate (length (mid_of k (n - k) l)) unused
    → put_mid k (n - k) l part ≡ take k l ++ (replicate (n - k) unused ++ drop n l)
part_filled l k n h g e = ap₂ (λ p d. take k l ++ (p ++ d)) (e ∙ ap (λ m. replicate m unused) (mid_len k n l g)) (Post-is k n l h)

-- the list, then "unused" up to entry n − 1, then the old content
pub filled-over : (l before : List ℕ) (n : ℕ) → length l ≤ n → over (filled l n) before ≡ l ++ (replicate (n - length l) unused ++ drop n before)
filled-over l before n h =
    ap (λ k. (l ++ replicate (n - length l) unused) ++ drop k before) long ∙ append_assoc l (replicate (n - length l) unused) (drop n before)
  where
    long : length (filled l n) ≡ n
    long = length-append l (replicate (n - length l) unused) ∙ rw length-replicate (omega arith)

-- a list in a buffer's first entries, filled up
pub written_out : (l before after : List ℕ) (k n : ℕ) {end : List ℕ} → take k after ≡ l → k ≡ length l → k ≤ n → drop n after ≡ drop n before
    → end ≡ take k after ++ (replicate (n - k) unused ++ drop n after) → end ≡ over (filled l n) before
written_out l before after k n e number h beyond w =
    w ∙ ap₂ (λ t d. t ++ (replicate (n - k) unused ++ d)) e beyond ∙ ap (λ j. l ++ (replicate (n - j) unused ++ drop n before)) number ∙
    sym (filled-over l before n (omega arith))
