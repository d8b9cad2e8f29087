-- An equivalence of lists that parts inherit (Jargalsaikhan 2022, Definition 2.1), over lists of anything. What holds of
-- every such equivalence is shown once, and used for order isomorphism.
use Rattle.std.specs.Prelude.{ℕ, ◌-◌, ◌≡◌, List, length, take, drop}

pub record PartsInherit {A : Type 0} (R : List A → List A → Type 0) : Type 0 where
  pub lengths : {u v : List A} → R u v → length u ≡ length v
  pub reflexive : (u : List A) → R u u
  pub symmetric : {u v : List A} → R u v → R v u
  pub transitive : {u v w : List A} → R u v → R v w → R u w
  pub part : {u v : List A} (s n : ℕ) → R u v → R (take n (drop s u)) (take n (drop s v))

-- a list agrees with itself at a distance: less its last a values it is equivalent with itself less its first a.
-- At a distance of its length or more both are empty.
abbrev pub SelfAgree : {A : Type 0} (R : List A → List A → Type 0) → List A → ℕ → Type 0
SelfAgree R P a = R (take (length P - a) P) (drop a P)
