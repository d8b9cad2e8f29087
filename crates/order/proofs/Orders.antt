-- Shows: samples are totally ordered by `le_z`; the three-way relation of two samples is told by the two tests `le_z a b` and
-- `le_z b a`, and so by the machine's `<`; two pairs of samples compare alike exactly if both tests are alike.
-- Assumes nothing.
use mathlib.Core.Path.{◌≡◌, refl, sym, ◌∙◌, ap}
use mathlib.Core.Bool.{Bool, true, false, not, cond}
use Prim.Native.Nat.{ℕ, ◌≤◌, ◌<◌}
use native.Mathlib.Omega.{arith}
use lib.Dec.{leb, ltb}
use lib.IntN.{ℤ, pos, negsuc}
use lib.Signed.{le_z, lt_z}
use borrow.Author.Tests.{leb-true, leb-false, le-leb, lt-ltb, le-ltb}
use Rattle.std.specs.declared.cmp.Ordering.{Ordering}
use Rattle.std.specs.declared.cmp.Ordering.TheVariants.{Less, Equal, Greater}
use Rattle.order.specs.Relations.{rel, alike}
use Rattle.order.proofs.Tests.{clash}

-- "below" is "not at least"
ltb-not-leb : (a b : ℕ) → ltb a b ≡ not (leb b a)
ltb-not-leb a b = go (leb b a) refl
  where
    go : (t : Bool) → leb b a ≡ t → ltb a b ≡ not t
    go true e = le-ltb a b (leb-true b a e)
    go false e = lt-ltb a b (leb-false b a e)

pub lt_z_not_le_z : (a b : ℤ) → lt_z a b ≡ not (le_z b a)
lt_z_not_le_z (pos a) (pos b) = ltb-not-leb a b
lt_z_not_le_z (pos a) (negsuc b) = refl
lt_z_not_le_z (negsuc a) (pos b) = refl
lt_z_not_le_z (negsuc a) (negsuc b) = ltb-not-leb b a

pub le_z_refl : (a : ℤ) → le_z a a ≡ true
le_z_refl (pos a) = le-leb a a (omega arith)
le_z_refl (negsuc a) = le-leb a a (omega arith)

leb_total : (a b : ℕ) → leb a b ≡ false → leb b a ≡ true
leb_total a b e = let h : b < a = leb-false a b e in le-leb b a (omega arith)

pub le_z_total : (a b : ℤ) → le_z a b ≡ false → le_z b a ≡ true
le_z_total (pos a) (pos b) e = leb_total a b e
le_z_total (pos a) (negsuc b) e = refl
le_z_total (negsuc a) (pos b) e = sym e
le_z_total (negsuc a) (negsuc b) e = leb_total b a e

leb_trans : (a b c : ℕ) → leb a b ≡ true → leb b c ≡ true → leb a c ≡ true
leb_trans a b c p q =
    let h : a ≤ b = leb-true a b p in
    let k : b ≤ c = leb-true b c q in
    le-leb a c (omega arith)

pub le_z_trans : (a b c : ℤ) → le_z a b ≡ true → le_z b c ≡ true → le_z a c ≡ true
le_z_trans (pos a) (pos b) (pos c) p q = leb_trans a b c p q
le_z_trans (pos a) (pos b) (negsuc c) p q = q
le_z_trans (pos a) (negsuc b) (pos c) p q = clash p refl
le_z_trans (pos a) (negsuc b) (negsuc c) p q = p
le_z_trans (negsuc a) (pos b) (pos c) p q = refl
le_z_trans (negsuc a) (pos b) (negsuc c) p q = clash q refl
le_z_trans (negsuc a) (negsuc b) (pos c) p q = refl
le_z_trans (negsuc a) (negsuc b) (negsuc c) p q = leb_trans c b a q p

-- the relation from the two tests
abbrev rel_told : Bool → Bool → Ordering
rel_told t s = cond t (cond s Equal Less) Greater

-- the relation from the machine's tests
pub rel_less : (a b : ℤ) → lt_z a b ≡ true → rel a b ≡ Less
unfolding rel
rel_less a b e = go (le_z b a) refl
  where
    go : (s : Bool) → le_z b a ≡ s → rel_told (le_z a b) (le_z b a) ≡ Less
    go true k = clash e (lt_z_not_le_z a b ∙ ap not k)
    go false k = rw (le_z_total b a k, k) refl

pub rel_greater : (a b : ℤ) → lt_z b a ≡ true → rel a b ≡ Greater
unfolding rel
rel_greater a b e = go (le_z a b) refl
  where
    go : (s : Bool) → le_z a b ≡ s → rel_told (le_z a b) (le_z b a) ≡ Greater
    go true k = clash e (lt_z_not_le_z b a ∙ ap not k)
    go false k = rw k refl

pub rel_equal : (a b : ℤ) → lt_z a b ≡ false → lt_z b a ≡ false → rel a b ≡ Equal
unfolding rel
rel_equal a b e f = go (le_z a b) (le_z b a) refl refl
  where
    go : (t s : Bool) → le_z a b ≡ t → le_z b a ≡ s → rel_told (le_z a b) (le_z b a) ≡ Equal
    go true true h k = rw (h, k) refl
    go true false h k = clash (lt_z_not_le_z a b ∙ ap not k) e
    go false s h k = clash (lt_z_not_le_z b a ∙ ap not h) f

-- alike is equality of relations
pub alike_same : (r s : Ordering) → alike r s ≡ true → r ≡ s
alike_same Less Less e = refl
alike_same Less Equal e = clash e refl
alike_same Less Greater e = clash e refl
alike_same Equal Less e = clash e refl
alike_same Equal Equal e = refl
alike_same Equal Greater e = clash e refl
alike_same Greater Less e = clash e refl
alike_same Greater Equal e = clash e refl
alike_same Greater Greater e = refl

pub alike_refl : (r : Ordering) → alike r r ≡ true
alike_refl Less = refl
alike_refl Equal = refl
alike_refl Greater = refl

-- two pairs of samples compare alike where both tests are alike
pub same_tests_alike : (a b c d : ℤ) → le_z a b ≡ le_z c d → le_z b a ≡ le_z d c → rel a b ≡ rel c d
unfolding rel
same_tests_alike a b c d p q = rw (p, q) refl

-- and only there
tests_of_lem : (t s t' s' : Bool) → (t ≡ false → s ≡ true) → (t' ≡ false → s' ≡ true) → rel_told t s ≡ rel_told t' s' → (t ≡ t') × (s ≡ s')
tests_of_lem true true true true f g e = (refl, refl)
tests_of_lem true true true false f g e = (refl, cc)
tests_of_lem true true false s' f g e = (cc, cc)
tests_of_lem true false true true f g e = (refl, cc)
tests_of_lem true false true false f g e = (refl, refl)
tests_of_lem true false false s' f g e = (cc, cc)
tests_of_lem false s true true f g e = (cc, cc)
tests_of_lem false s true false f g e = (cc, cc)
tests_of_lem false s false s' f g e = (refl, f refl ∙ sym (g refl))

pub alike-tests : (a b c d : ℤ) → rel a b ≡ rel c d → (le_z a b ≡ le_z c d) × (le_z b a ≡ le_z d c)
unfolding rel
alike-tests a b c d e = tests_of_lem (le_z a b) (le_z b a) (le_z c d) (le_z d c) (le_z_total a b) (le_z_total c d) e
