-- Document 01, "The merger's steps", one at a time: the list of pieces, the place of A in it and A's corner i, and what one step makes
-- of them. `Merge` says what the steps end with.
use Rattle.std.specs.Prelude.{ℕ, zero, suc, ◌-◌, ◌*◌, ◌≤◌, ◌≡◌, cond, List, [], ◌∷◌, ◌++◌, ltb, length, get_or, take, set}
use Rattle.std.proofs.Math.Option.{Option, none, some, map}
use Rattle.algebra.specs.Lists.{first, count_from}
use Rattle.algebra.specs.Sums.{total, naturals}
use Rattle.algebra.specs.Rings.{begun_at, rotations}
use Rattle.rules.specs.Merge.{follows, JoinTest, joint}

pub record State : Type 0 where
  pub pieces : List (List ℕ)
  -- of A in the list
  pub place : ℕ
  -- i
  pub corner : ℕ

-- the pieces as given, in order; A is the first, and i is 0
abbrev pub begin : List (List ℕ) → State
begin pieces = record { pieces = pieces; place = 0; corner = 0 }

-- A's place is past the last piece: no A is left
abbrev pub finished : List (List ℕ) → State
finished pieces = record { pieces = pieces; place = length pieces; corner = 0 }

-- piece number j
abbrev pub piece_at : List (List ℕ) → ℕ → List ℕ
piece_at pieces j = get_or pieces j []

-- ---- the search

-- the reverse edge of s to e: B's place in the list, and B's corners after e and s
pub record Reverse : Type 0 where
  pub place : ℕ
  pub rest : List ℕ

-- in piece number j, from its corner 0, e directly followed by s
abbrev pub reverse_at : ℕ → ℕ → List (List ℕ) → ℕ → Option Reverse
reverse_at e s pieces j = map (λ rest. record { place = j; rest = rest }) (first (follows e s) (rotations (piece_at pieces j)))

-- through the pieces after A; the search stops at the first that holds the reverse edge
unfoldable pub reverse_edge : ℕ → ℕ → State → Option Reverse
unfolding first follows rotations
reverse_edge e s state = first (reverse_at e s state.pieces) (count_from (suc state.place) (length state.pieces - suc state.place))

-- ---- the step

-- next i
abbrev pub next_corner : State → State
next_corner state = record { pieces = state.pieces; place = state.place; corner = suc state.corner }

-- the next A
abbrev pub next_piece : State → State
next_piece state = record { pieces = state.pieces; place = suc state.place; corner = 0 }

-- the last piece of the list moves into place j
abbrev pub swap_remove : ℕ → List (List ℕ) → List (List ℕ)
swap_remove j pieces = take (length pieces - 1) (set pieces j (piece_at pieces (length pieces - 1)))

-- A becomes `piece`; the last piece of the list moves into B's place j; i starts again at 0
abbrev pub joined : State → List ℕ → ℕ → State
joined state piece j = record { pieces = swap_remove j (set state.pieces state.place piece); place = state.place; corner = 0 }

-- A, from corner i on, is s ∷ e ∷ rest_a. No reverse edge: next i. Otherwise B, from e on, is e ∷ s ∷ rest_b. If the join is refused, next i.
-- If joined, A becomes A's corners from e up to the one before s, then B's from s up to the one before e
abbrev pub join_or_next : JoinTest → State → ℕ → ℕ → List ℕ → Option Reverse → State
join_or_next may state s e rest_a none = next_corner state
join_or_next may state s e rest_a (some b) =
    cond (may (joint s e rest_a b.rest) (joint e s b.rest rest_a)) (joined state ((e ∷ rest_a) ++ (s ∷ b.rest)) b.place) (next_corner state)

-- at corner i of A, which is given from there on: edge s to e is from corner i to the next
unfoldable pub at_corner : JoinTest → State → List ℕ → State
unfolding reverse_edge
at_corner may state [] = next_corner state
at_corner may state (s ∷ []) = next_corner state
at_corner may state (s ∷ e ∷ rest_a) = join_or_next may state s e rest_a (reverse_edge e s state)

-- one step: at corner i of A; when i has passed the end, to the next A; where no A is left, none
unfoldable pub step : JoinTest → State → State
unfolding at_corner
step may state =
    let a = piece_at state.pieces state.place in
    cond (ltb state.place (length state.pieces))
    (cond (ltb state.corner (length a)) (at_corner may state (begun_at state.corner a)) (next_piece state))
    state

-- n steps
unfoldable pub run : JoinTest → ℕ → State → State
unfolding step
run may zero state = state
run may (suc n) state = run may n (step may state)

-- ---- the end

-- the steps from `state` end with `pieces`: after at most n of them no A is left and these are the pieces, and further ones change nothing
pub record Ends (may : JoinTest) (state : State) (n : ℕ) (pieces : List (List ℕ)) : Type 0 where
  pub steps : ℕ
  pub at_most : steps ≤ n
  pub ended : run may steps state ≡ finished pieces
  pub stays : (more : ℕ) → run may more (finished pieces) ≡ finished pieces

-- a number of steps that is enough: joins and steps to the next A are together as many as the pieces, and before each of them A's corners
-- are gone through once at most, which are at most all corners
abbrev pub enough_steps : List (List ℕ) → ℕ
enough_steps pieces = length pieces * suc (total naturals length pieces)
