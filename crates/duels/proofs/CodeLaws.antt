-- Shows: relations kept as numbers tell what the relations tell, so that the codes of an offset tell whether its entries tell a witness,
-- and a duel by them is the rules' duel; and which tables can be fought with.
-- Assumes nothing.
use Prim.Native.Nat.{ℕ, zero, suc, ◌+◌, ◌≤◌, ◌<◌, max}
use mathlib.Core.Path.{◌≡◌, refl, sym, ◌∙◌, ap, ap₂}
use mathlib.Core.List.{List}
use mathlib.Core.Bool.{Bool, true, false, not, cond, ◌&&◌}
use native.Mathlib.Omega.{arith}
use Rattle.std.specs.Prelude.{None, Some}
use lib.Signed.{le_z, lt_z}
use mir.Syntax.{w32}
use mir.Val.{to_z, of_z, SFits, bool_byte}
use mir.Facts.{to_z-of_z}
use lib.Dec.{leb, ltb, eqb}
use lib.IntN.{ℤ}
use lib.ListN.{length, get_or}
use borrow.Author.Tests.{eq-eqb, ne_eqb, eqb-true, eqb-false, leb-true, leb-false, ltb-true, lt-ltb, le-ltb, not-true}
use Rattle.std.specs.declared.cmp.Ordering.{Ordering}
use Rattle.std.specs.declared.cmp.Ordering.TheVariants.{Less, Equal, Greater}
use Rattle.order.specs.declared.steps.Meeting.TheVariants.{NewerFalls, OlderFalls, BothFall}
use Rattle.order.specs.Sizes.{none, place, at, no_place, lowest, pattern_limit}
use Rattle.order.specs.Relations.{rel, alike}
use Rattle.order.specs.Duels.{fallen, duel}
use Rattle.duels.specs.DuelPromise.{tells_witness, untold_at}
use Rattle.duels.specs.Inside.Asked.{Duelable}
use Rattle.duels.specs.declared.answers.Unfought.TheVariants.{Untold}
use Rattle.duels.specs.declared.codes.Codes.{Codes}
use Rattle.duels.specs.Inside.Codes.{code, own_code_lem, start_code, CodesOf, Coded, Looked, Stopped, NoneBelow}
use Rattle.order.proofs.Tests.{clash, must_fail, and_first, and_second}
use Rattle.order.proofs.Lists.{finds_lowest}
use Rattle.order.proofs.Orders.{lt_z_not_le_z, le_z_total, alike_same, alike_refl}

-- ---- one relation

abbrev decode : ℕ → Ordering
decode zero = Less
decode (suc zero) = Equal
decode (suc (suc n)) = Greater

decode_code : (r : Ordering) → decode (code r) ≡ r
decode_code Less = refl
decode_code Equal = refl
decode_code Greater = refl

-- its number tells which it is
same_code : {r s : Ordering} → code r ≡ code s → r ≡ s
same_code {r} {s} e = sym (decode_code r) ∙ ap decode e ∙ decode_code s

unlike : (r s : Ordering) → (r ≡ s → ⊥) → alike r s ≡ false
unlike r s f = must_fail (alike r s) (λ e. f (alike_same r s e))

-- ---- the duel

module _ {P T : List ℤ} {y a i j : ℕ} {c : Codes} {seen : ℕ} (d : Duelable P T y a i j) (eo : c.older ≡ own_code_lem P a i j) (en : c.newer ≡ start_code P i j)
    (es : seen ≡ code (rel (at T (y + i)) (at T (y + j)))) where
  abbrev newer_stands : Bool
  newer_stands = alike (rel (at T (y + i)) (at T (y + j))) (rel (at P i) (at P j))

  abbrev older_stands : Bool
  older_stands = alike (rel (at T (y + i)) (at T (y + j))) (rel (at P (a + i)) (at P (a + j)))

  -- the older window stands, so the newer falls
  pub newer_falls : seen ≡ c.older → NewerFalls ≡ duel P T y a i j
  unfolding duel fallen
  newer_falls h = sym (ap₂ fallen struck stands)
    where
      same : rel (at T (y + i)) (at T (y + j)) ≡ rel (at P (a + i)) (at P (a + j))
      same = same_code (sym es ∙ h ∙ eo)

      stands : older_stands ≡ true
      stands = ap (λ r. alike r (rel (at P (a + i)) (at P (a + j)))) same ∙ alike_refl (rel (at P (a + i)) (at P (a + j)))

      struck : newer_stands ≡ false
      struck = unlike (rel (at T (y + i)) (at T (y + j))) (rel (at P i) (at P j)) (λ n. d.differs (sym n ∙ same))

  -- it falls, and the newer by its own comparison
  module _ (f : seen ≡ c.older → ⊥) where
    older_fell : older_stands ≡ false
    older_fell = unlike (rel (at T (y + i)) (at T (y + j))) (rel (at P (a + i)) (at P (a + j))) (λ q. f (es ∙ ap code q ∙ sym eo))

    pub older_alone_falls : seen ≡ c.newer → OlderFalls ≡ duel P T y a i j
    unfolding duel fallen
    older_alone_falls h =
        sym (ap₂ fallen (ap (λ r. alike r (rel (at P i) (at P j))) (same_code (sym es ∙ h ∙ en)) ∙ alike_refl (rel (at P i) (at P j))) older_fell)

    pub both_fall : (seen ≡ c.newer → ⊥) → BothFall ≡ duel P T y a i j
    unfolding duel fallen
    both_fall g =
        sym (ap₂ fallen (unlike (rel (at T (y + i)) (at T (y + j))) (rel (at P i) (at P j)) (λ q. g (es ∙ ap code q ∙ sym en))) older_fell)

-- ---- the codes of an offset

-- entries that tell a witness lie inside the pattern and compare otherwise a places on
pub witness_told : (P : List ℤ) (a i j : ℕ) → tells_witness P a i j ≡ true
    → (a + i < length P) × (a + j < length P) × (rel (at P i) (at P j) ≡ rel (at P (a + i)) (at P (a + j)) → ⊥)
unfolding tells_witness
witness_told P a i j e =
    let same = alike (rel (at P i) (at P j)) (rel (at P (a + i)) (at P (a + j))) in
    let rest = and_second (ltb (a + i) (length P)) (ltb (a + j) (length P) && not same) e in (
      ltb-true (a + i) (length P) (and_first (ltb (a + i) (length P)) (ltb (a + j) (length P) && not same) e),
      ltb-true (a + j) (length P) (and_first (ltb (a + j) (length P)) (not same) rest),
      λ q. clash (ap (λ r. alike r (rel (at P (a + i)) (at P (a + j)))) q ∙ alike_refl (rel (at P (a + i)) (at P (a + j)))) (not-true same (and_second (ltb (a + j) (length P)) (not same) rest)),
    )

-- a place that is not in the pattern, a places on: they tell none
outside_untold : (P : List ℤ) (a i j : ℕ) → length P ≤ max (a + i) (a + j) → tells_witness P a i j ≡ false
unfolding tells_witness
outside_untold P a i j h = go (leb (length P) (a + i)) refl
  where
    rest : Bool
    rest = not (alike (rel (at P i) (at P j)) (rel (at P (a + i)) (at P (a + j))))

    go : (t : Bool) → leb (length P) (a + i) ≡ t → (ltb (a + i) (length P) && (ltb (a + j) (length P) && rest)) ≡ false
    go true e = let k : length P ≤ a + i = leb-true (length P) (a + i) e in rw (le-ltb (a + i) (length P) k) refl
    go false e =
        let k : a + i < length P = leb-false (length P) (a + i) e in
        rw (lt-ltb (a + i) (length P) k, le-ltb (a + j) (length P) (omega arith)) refl

-- both are: they tell one exactly if they compare otherwise there
by_relations : (P : List ℤ) (a i j : ℕ) → a + i < length P → a + j < length P
    → tells_witness P a i j ≡ not (alike (rel (at P i) (at P j)) (rel (at P (a + i)) (at P (a + j))))
unfolding tells_witness
by_relations P a i j g h = rw (lt-ltb (a + i) (length P) g, lt-ltb (a + j) (length P) h) refl

pub inside-told : (P : List ℤ) (a i j : ℕ) → a + i < length P → a + j < length P → (rel (at P i) (at P j) ≡ rel (at P (a + i)) (at P (a + j)) → ⊥) → tells_witness P a i j ≡ true
inside-told P a i j g h d =
    by_relations P a i j g h ∙
    ap not (must_fail (alike (rel (at P i) (at P j)) (rel (at P (a + i)) (at P (a + j)))) (λ e. d (alike_same (rel (at P i) (at P j)) (rel (at P (a + i)) (at P (a + j))) e)))

-- what the code sees of an offset: a place outside
pub outside_looked : (P : List ℤ) (a i j : ℕ) → length P ≤ max (a + i) (a + j) → (i ≡ no_place → ⊥) → Looked P a i j None
outside_looked P a i j h f = (f, outside_untold P a i j h)

-- or two inside, which compare alike a places on
module _ (P : List ℤ) (a i j : ℕ) (l : length P ≤ pattern_limit) (g : a + i < length P) (h : a + j < length P) {older newer : ℕ} (eo : older ≡ own_code_lem P a i j)
    (en : newer ≡ start_code P i j) where
  pub alike-looked : older ≡ newer → Looked P a i j None
  alike-looked e = (
    λ n. omega arith,
    by_relations P a i j g h ∙ ap not (ap (λ r. alike r (rel (at P (a + i)) (at P (a + j)))) (same_code (sym en ∙ sym e ∙ eo)) ∙ alike_refl (rel (at P (a + i)) (at P (a + j)))),
  )

  -- or otherwise
  pub told-looked : (older ≡ newer → ⊥) → Looked P a i j (Some (record { older = older; newer = newer }))
  told-looked f =
      record {
        told = λ n. (by_relations P a i j g h ∙ ap not (unlike (rel (at P i) (at P j)) (rel (at P (a + i)) (at P (a + j))) (λ q. f (eo ∙ sym (ap code q) ∙ sym en))), eo, en);
      }

-- ---- tables that can be fought with

and-false : (b c : Bool) → c ≡ false → (b && c) ≡ false
and-false true c e = e
and-false false c e = refl

-- an entry of none, and entries that tell a witness, are not in the way
pub none_clear : (P : List ℤ) (wi wj : List ℕ) (a : ℕ) → get_or wi a 0 ≡ no_place → untold_at P wi wj a ≡ false
unfolding untold_at
none_clear P wi wj a e = rw (eq-eqb (get_or wi a 0) no_place e) refl

pub told-clear : (P : List ℤ) (wi wj : List ℕ) (a : ℕ) → tells_witness P a (get_or wi a 0) (get_or wj a 0) ≡ true → untold_at P wi wj a ≡ false
unfolding untold_at
told-clear P wi wj a e = and-false (not (eqb (get_or wi a 0) no_place)) (not (tells_witness P a (get_or wi a 0) (get_or wj a 0))) (ap not e)

coded-clear : (P : List ℤ) (wi wj : List ℕ) (a : ℕ) {c : Codes} → CodesOf P a (get_or wi a 0) (get_or wj a 0) c → untold_at P wi wj a ≡ false
coded-clear P wi wj a {c} d = go (eqb (get_or wi a 0) no_place) refl
  where
    go : (t : Bool) → eqb (get_or wi a 0) no_place ≡ t → untold_at P wi wj a ≡ false
    go true e = none_clear P wi wj a (eqb-true (get_or wi a 0) no_place e)
    go false e = told-clear P wi wj a (d.told (eqb-false (get_or wi a 0) no_place e)).0

-- the lowest that is
pub all_clear : (P : List ℤ) (wi wj : List ℕ) → ((a : ℕ) → a < length P → untold_at P wi wj a ≡ false) → lowest (untold_at P wi wj) (length P) ≡ none
all_clear P wi wj f = finds_lowest (untold_at P wi wj) (length P) none f

pub coded_all_clear : {P : List ℤ} {wi wj : List ℕ} {codes : List Codes} → Coded P wi wj codes (length P) → lowest (untold_at P wi wj) (length P) ≡ none
coded_all_clear {P} {wi} {wj} c = all_clear P wi wj (λ a h. coded-clear P wi wj a (c.each a h))

pub none_all_clear : (P : List ℤ) (wi wj : List ℕ) → NoneBelow wi (length P) → lowest (untold_at P wi wj) (length P) ≡ none
none_all_clear P wi wj n = all_clear P wi wj (λ a h. none_clear P wi wj a (n.none a h))

-- the first offset that tells none, behind others with codes
pub stopped_there : {P : List ℤ} {wi wj : List ℕ} {codes : List Codes} {a : ℕ} → Coded P wi wj codes a → a < length P → Looked P a (get_or wi a 0) (get_or wj a 0) None → Stopped P wi wj (Untold a)
unfolding untold_at
stopped_there {P} {wi} {wj} {a = a} c h n =
    record {
      a = a;
      is = refl;
      first = finds_lowest (untold_at P wi wj) (length P) (place a)
          (record { below = h; here = rw (ne_eqb (get_or wi a 0) no_place n.0, n.1) refl; earlier = λ i k. coded-clear P wi wj i (c.each i k) });
    }

-- ---- the machine's two tests

by_tests : (t s : Bool) → (t ≡ false → s ≡ true) → bool_byte s + bool_byte (not t) ≡ code (cond t (cond s Equal Less) Greater)
by_tests true true f = refl
by_tests true false f = refl
by_tests false true f = refl
by_tests false false f = clash (f refl) refl

-- they tell the relation's number
pub told_by_tests : {a b : ℤ} → SFits w32 a → SFits w32 b
    → bool_byte (le_z (to_z w32 (of_z w32 b)) (to_z w32 (of_z w32 a))) + bool_byte (lt_z (to_z w32 (of_z w32 b)) (to_z w32 (of_z w32 a))) ≡ code (rel a b)
unfolding rel
told_by_tests {a} {b} fa fb =
    ap₂ (λ x y. bool_byte (le_z y x) + bool_byte (lt_z y x)) (to_z-of_z fa) (to_z-of_z fb) ∙ ap (λ z. bool_byte (le_z b a) + bool_byte z) (lt_z_not_le_z b a) ∙
    by_tests (le_z a b) (le_z b a) (le_z_total a b)
