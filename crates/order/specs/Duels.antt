-- "Duels": the windows without a lost stitch come one after the other onto a stack. Each duels with the one on top, as long as it
-- stands and the two do not agree.
use Rattle.std.specs.Prelude.{ℕ, ◌+◌, ◌-◌, List, [], ◌∷◌, reverse, Bool, true, false, not, cond, ℤ, length}
use Rattle.order.specs.declared.steps.Meeting.{Meeting}
use Rattle.order.specs.declared.steps.Meeting.TheVariants.{Agree, OlderFalls, NewerFalls, BothFall}
use Rattle.order.specs.Sizes.{Spot, none, place, at, those, windows_of, window}
use Rattle.order.specs.Relations.{rel, alike}
use Rattle.order.specs.Lost.{holds_lost_lem}
use Rattle.order.specs.Witnesses.{witness_i_of, witness_j_of}
use Rattle.order.specs.Agree.{agree}

-- who falls, by whether the newer and the older stand. Both can't stand: a witness compares differently at its offset
-- (the law `not_both`).
unfoldable pub fallen : Bool → Bool → Meeting
fallen true true = Agree
fallen true false = OlderFalls
fallen false true = NewerFalls
fallen false false = BothFall

-- the duel of window y with the window a before it, by the witness (i, j): the one comparison T[y+i] against T[y+j]
unfoldable pub duel : List ℤ → List ℤ → ℕ → ℕ → ℕ → ℕ → Meeting
duel P T y a i j =
    fallen
    (alike (rel (at T (y + i)) (at T (y + j))) (rel (at P i) (at P j)))
    (alike (rel (at T (y + i)) (at T (y + j))) (rel (at P (a + i)) (at P (a + j))))

-- the duel by the witness of offset a; windows that do not agree have one
unfoldable pub by_witness : List ℤ → List ℤ → ℕ → ℕ → Spot → Spot → Meeting
by_witness P T y a none j = Agree
by_witness P T y a (place i) none = Agree
by_witness P T y a (place i) (place j) = duel P T y a i j

-- what becomes of the older window x and the newer y: they agree, or they duel
unfoldable pub meets : List ℤ → List ℤ → ℕ → ℕ → Meeting
meets P T x y = cond (agree P x y) Agree (by_witness P T y (y - x) (witness_i_of P (y - x)) (witness_j_of P (y - x)))

-- the kept windows, top first, and the duels fought so far
pub record Stack : Type 0 where
  pub kept : List ℕ
  pub fought : ℕ

abbrev pub stacked : List ℕ → ℕ → Stack
stacked xs d = record { kept = xs; fought = d }

-- what a meeting of y with the top x leaves; `next` is y's look at the new top
unfoldable pub after : Meeting → ℕ → ℕ → List ℕ → ℕ → Stack → Stack
after Agree y x xs d next = stacked (y ∷ x ∷ xs) d
after OlderFalls y x xs d next = next
after NewerFalls y x xs d next = stacked (x ∷ xs) (d + 1)
after BothFall y x xs d next = stacked xs (d + 1)

-- window y arrives
unfoldable pub arrive : (ℕ → ℕ → Meeting) → ℕ → List ℕ → ℕ → Stack
arrive meet y [] d = stacked (y ∷ []) d
arrive meet y (x ∷ xs) d = after (meet x y) y x xs d (arrive meet y xs (d + 1))

-- the windows ys arrive in order
unfoldable pub arrive_all_lem : (ℕ → ℕ → Meeting) → List ℕ → Stack → Stack
arrive_all_lem meet [] s = s
arrive_all_lem meet (y ∷ ys) s = arrive_all_lem meet ys (arrive meet y s.kept s.fought)

-- a window that holds a lost stitch is struck before the duels
unfoldable pub is_struck : List ℤ → List ℤ → ℕ → Bool
is_struck P T x = holds_lost_lem (window T x (length P))

-- how many are; and the windows that take part, ascending: all others
unfoldable pub struck : List ℤ → List ℤ → ℕ
struck P T = length (those (is_struck P T) (windows_of (length P) (length T)))

unfoldable pub entrants : List ℤ → List ℤ → List ℕ
entrants P T = those (λ x. not (is_struck P T x)) (windows_of (length P) (length T))

-- the stack after all of these have arrived; D; and the survivors, ascending
unfoldable pub duelled : List ℤ → List ℤ → Stack
duelled P T = arrive_all_lem (meets P T) (entrants P T) (stacked [] 0)

unfoldable pub duels : List ℤ → List ℤ → ℕ
duels P T = (duelled P T).fought

unfoldable pub survivors : List ℤ → List ℤ → List ℕ
survivors P T = reverse (duelled P T).kept
