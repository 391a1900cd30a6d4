-- Document 01, "The merger's steps". A piece is a ring of corner numbers. Where a corner of A fails, the steps only go on to
-- A's next corner; so A's next join is at its first corner that has one, and a piece with none is finished.
use Rattle.std.specs.Prelude.{ℕ, zero, suc, ◌-◌, Bool, cond, not, ◌&&◌, ◌||◌, List, [], ◌∷◌, ◌++◌, eqb, length}
use Rattle.std.proofs.Math.Option.{Option, none, some}
use Rattle.algebra.specs.Lists.{or_else, first}
use Rattle.algebra.specs.Rings.{Corner, last_of, first_of, begun_at, rotations}
use Rattle.rules.specs.Plane.{Pt, turns_right}

-- what follows in a ring that begins e, s
unfoldable pub follows : ℕ → ℕ → List ℕ → Option (List ℕ)
follows e s [] = none
follows e s (a ∷ []) = none
follows e s (a ∷ b ∷ rest) = cond (eqb a e && eqb b s) (some rest) none

-- a piece, or what is left of it, and the other pieces behind A
pub record Part : Type 0 where
  pub piece : List ℕ
  pub others : List (List ℕ)

abbrev pub with : Option (List ℕ) → List (List ℕ) → Option Part
with none others = none
with (some piece) others = some (record { piece = piece; others = others })

-- the last piece of the list moves to the front, as `swap_remove` fills a gap
abbrev pub last_first : List (List ℕ) → List (List ℕ)
last_first pieces = begun_at (length pieces - 1) pieces

-- the first later piece, each from its corner 0, in which s directly follows e: what follows them there, and the pieces without it
unfoldable pub mate : ℕ → ℕ → List (List ℕ) → List (List ℕ) → Option Part
unfolding first follows rotations
mate e s passed [] = none
mate e s passed (b ∷ more) = or_else (with (first (follows e s) (rotations b)) (passed ++ last_first more)) (mate e s (passed ++ b ∷ []) more)

-- A is s ∷ e ∷ rest_a and B is e ∷ s ∷ rest_b. The corner that their join makes at s: between A's corner before s and B's corner after s
abbrev pub joint : ℕ → ℕ → List ℕ → List ℕ → Corner ℕ
joint s e rest_a rest_b = record { before = last_of e rest_a; at = s; after = first_of e rest_b }

-- a test whether two pieces may be joined, by the corners that the join makes at s and at e
abbrev pub JoinTest : Type 0
JoinTest = Corner ℕ → Corner ℕ → Bool

abbrev pub bent : List Pt → Corner ℕ → Bool
bent ps c = turns_right ps c.before c.at c.after

-- the join is refused if one of the two turns right
unfoldable pub may_join : List Pt → JoinTest
may_join ps s e = not (bent ps s || bent ps e)

-- A's corners from e up to the one before s, then B's from s up to the one before e
unfoldable pub join_with : JoinTest → ℕ → ℕ → List ℕ → Option Part → Option Part
join_with may s e rest none = none
join_with may s e rest (some b) =
    cond (may (joint s e rest b.piece) (joint e s b.piece rest)) (some (record { piece = (e ∷ rest) ++ (s ∷ b.piece); others = b.others })) none

-- A, begun at its edge s to e, joined with the edge's mate
unfoldable pub join : JoinTest → List (List ℕ) → List ℕ → Option Part
unfolding join_with mate
join may later [] = none
join may later (s ∷ []) = none
join may later (s ∷ e ∷ rest) = join_with may s e rest (mate e s [] later)

-- the join at A's first corner that has one
unfoldable pub next_join : JoinTest → List ℕ → List (List ℕ) → Option Part
unfolding first rotations join
next_join may a later = first (join may later) (rotations a)

-- the steps go on with A joined, or, where A has no join, with the piece behind it
abbrev pub go_on : (List ℕ → List (List ℕ) → List (List ℕ)) → List ℕ → List (List ℕ) → Option Part → List (List ℕ)
go_on steps a later (some j) = steps j.piece j.others
go_on steps a [] none = a ∷ []
go_on steps a (b ∷ more) none = a ∷ steps b more

-- A and the pieces behind it, which are k: each join, and each step to the next piece, leaves one fewer
unfoldable pub merge_from : ℕ → JoinTest → List ℕ → List (List ℕ) → List (List ℕ)
unfolding next_join
merge_from zero may a later = a ∷ later
merge_from (suc k) may a later = go_on (merge_from k may) a later (next_join may a later)

unfoldable pub merge : JoinTest → List (List ℕ) → List (List ℕ)
unfolding merge_from
merge may [] = []
merge may (a ∷ later) = merge_from (length later) may a later
