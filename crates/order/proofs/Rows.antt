-- Shows: a row of conditions either lets everything through to what follows it or refuses the same whatever follows; so rows may be
-- tried one after the other, in several functions.
-- Assumes nothing.
use Prim.Native.Nat.{ℕ}
use mathlib.Core.Path.{◌≡◌, refl, sym, ◌∙◌}
use mathlib.Core.Logic.{◌⊎◌, inl, inr}
use mathlib.Core.Bool.{Bool, true, false}
use Rattle.order.specs.declared.refusal.Refusal.{Refusal}
use Rattle.order.specs.Sizes.{Spot, none, place}
use Rattle.order.specs.Refusals.{Verdict, accepted, refused, refuse, refuse_at}

abbrev pub Passing : (Verdict → Verdict) → Type 0
Passing f = (next : Verdict) → f next ≡ next

abbrev pub Refusing : (Verdict → Verdict) → Refusal → Type 0
Refusing f why = (next : Verdict) → f next ≡ refused why

abbrev pub Row : (Verdict → Verdict) → Type 0
Row f = Passing f ⊎ ((why : Refusal) × Refusing f why)

-- ---- making rows

pub refuse_row : (b : Bool) (r : Refusal) → Row (refuse b r)
refuse_row true r = inr (r, λ next. refl)
refuse_row false r = inl (λ next. refl)

pub refuse_at_row : (s : Spot) (r : ℕ → Refusal) → Row (refuse_at s r)
refuse_at_row (place k) r = inr (r k, λ next. refl)
refuse_at_row none r = inl (λ next. refl)

pub then_row : (f g : Verdict → Verdict) → Row f → Row g → Row (λ n. f (g n))
then_row f g (inl p) (inl q) = inl (λ next. p (g next) ∙ q next)
then_row f g (inl p) (inr q) = inr (q.0, λ next. p (g next) ∙ q.1 next)
then_row f g (inr p) s = inr (p.0, λ next. p.1 (g next))

pub first_row : (b : Bool) (r : Refusal) (g : Verdict → Verdict) → Row g → Row (λ n. refuse b r (g n))
first_row b r g q = then_row (refuse b r) g (refuse_row b r) q

-- ---- what a row's own verdict tells

-- one that refuses nothing lets what follows through
pub row_passes : (f : Verdict → Verdict) → Row f → f accepted ≡ accepted → Passing f
row_passes f (inl p) e next = p next
row_passes f (inr q) e next = let d : accepted ≡ refused q.0 = sym e ∙ q.1 accepted in cc

-- and one that refuses does so whatever follows
pub row_refuses : (f : Verdict → Verdict) → Row f → {why : Refusal} → f accepted ≡ refused why → Refusing f why
row_refuses f (inl p) {why} e next = let d : accepted ≡ refused why = sym (p accepted) ∙ e in cc
row_refuses f (inr q) e next = q.1 next ∙ sym (q.1 accepted) ∙ e

-- a condition that is passed
pub passed : (b : Bool) (r : Refusal) (next : Verdict) → refuse b r next ≡ accepted → (b ≡ false) × (next ≡ accepted)
passed true r next e = (cc, cc)
passed false r next e = (refl, e)

pub passed_at : (s : Spot) (r : ℕ → Refusal) (next : Verdict) → refuse_at s r next ≡ accepted → (s ≡ none) × (next ≡ accepted)
passed_at (place k) r next e = (cc, cc)
passed_at none r next e = (refl, e)
