-- The hull of a cloud in rounds, which is what the code computes. A ring of facets, each from one corner to the next. A round splits each facet
-- that a point sees at the farthest such point, and as many rounds as there are points leave none that is seen.
-- The crate looks through its facets in the order in which they were made: those of one round in ring order, then those of the next.
-- So its first facet that stays is, of the first round that has one, the first in ring order; there the ring is begun.
use Rattle.std.specs.Prelude.{ℕ, zero, suc, ◌≡◌, Bool, true, false, cond, List, [], ◌∷◌, ◌++◌, length}
use Rattle.algebra.specs.Lists.{count_from}
use Rattle.rules.specs.Plane.{Pt, point}
use Rattle.rules.specs.Hull.{normal, farthest, before, behind, support, rightward, leftward}

-- a facet, and the points that see it, in the crate's order
pub record Facet : Type 0 where
  pub from : ℕ
  pub to : ℕ
  pub seen : List ℕ

abbrev pub from_of : Facet → ℕ
from_of f = f.from

-- the facets go from corner a to corner b, each from where the one before it ends
pub data Way : ℕ → List Facet → ℕ → Type 0 where
  stay : {a b : ℕ} → a ≡ b → Way a [] b
  along : {a b : ℕ} {f : Facet} {ring : List Facet} → f.from ≡ a → Way f.to ring b → Way a (f ∷ ring) b

-- the facet split at w. Of the points that saw it, those that see neither part are dropped, w among them
abbrev pub first_part : List Pt → Facet → ℕ → Facet
first_part ps f w = record { from = f.from; to = w; seen = before ps f.from w f.seen }

abbrev pub second_part : List Pt → Facet → ℕ → Facet
second_part ps f w = record { from = w; to = f.to; seen = behind ps f.from w f.to f.seen }

abbrev pub split_at : List Pt → Facet → ℕ → List Facet
split_at ps f w = first_part ps f w ∷ second_part ps f w ∷ []

-- the facet split at its farthest point, or, where no point sees it, as it is
abbrev pub split_by : List Pt → Facet → List ℕ → List Facet
split_by ps f [] = f ∷ []
split_by ps f (i ∷ l) = split_at ps f (farthest ps (normal (point ps f.from) (point ps f.to)) i l)

-- each facet of the ring split
unfoldable pub round : List Pt → List Facet → List Facet
unfolding farthest
round ps [] = []
round ps (f ∷ ring) = split_by ps f f.seen ++ round ps ring

-- no point sees the facet
abbrev pub unseen : List ℕ → Bool
unseen [] = true
unseen (i ∷ l) = false

-- the ring begun at its first facet that no point sees, if there is one
unfoldable pub begun : List Facet → List Facet → List Facet
begun passed [] = passed
begun passed (f ∷ ring) = cond (unseen f.seen) ((f ∷ ring) ++ passed) (begun (passed ++ f ∷ []) ring)

-- k rounds. A facet's points become fewer in a round, so as many rounds as there are points leave no facet seen
unfoldable pub rounds : ℕ → List Pt → List Facet → List Facet
unfolding begun round
rounds zero ps ring = begun [] ring
rounds (suc k) ps ring = rounds k ps (round ps (begun [] ring))

-- two facets, there and back. A point on the line through both ends goes into no list: the crate keeps those beside, and none of them sees a
-- facet of any round
abbrev pub there : List Pt → ℕ → ℕ → List ℕ
there ps a b = before ps a b (count_from 0 (length ps))

abbrev pub back : List Pt → ℕ → ℕ → List ℕ
back ps a b = behind ps a b a (count_from 0 (length ps))

abbrev pub two_facets : List Pt → ℕ → ℕ → List Facet
two_facets ps a b = record { from = a; to = b; seen = there ps a b } ∷ record { from = b; to = a; seen = back ps a b } ∷ []

-- the ring at first, between the rightmost and the leftmost point
abbrev pub first_ring : List Pt → List Facet
first_ring ps = two_facets ps (support ps rightward) (support ps leftward)

-- the ring of the hull, after as many rounds as there are points
unfoldable pub last_ring : List Pt → List Facet
unfolding rounds support
last_ring ps = rounds (length ps) ps (first_ring ps)
