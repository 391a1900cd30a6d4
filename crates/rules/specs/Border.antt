-- Request M-106: where a point is. On the border of an outline comes first, and then the crossing parity of document 01's "Point tests" decides.
use Rattle.std.specs.Prelude.{ℕ, Bool, true, false, cond, ◌&&◌, ◌||◌, List, ℤ}
use Rattle.std.specs.Int.Signed.{le_z}
use Rattle.algebra.specs.Lists.{any}
use Rattle.algebra.specs.Rings.{edges}
use Rattle.rules.specs.Plane.{Pt, straight}
use Rattle.rules.specs.Crossing.{odd_crossings, inside_convex}

pub data Position : Type 0 where
  outside : Position
  inside : Position
  border : Position

abbrev pub is_inside : Position → Bool
is_inside outside = false
is_inside inside = true
is_inside border = false

-- the number that an answer is given as
abbrev pub position_number : Position → ℕ
position_number outside = 0
position_number inside = 1
position_number border = 2

-- c is from a up to b, both counted
abbrev pub from_to : ℤ → ℤ → ℤ → Bool
from_to a b c = le_z a c && le_z c b

-- c is between a and b, whichever of them is the lower
abbrev pub between : ℤ → ℤ → ℤ → Bool
between a b c = from_to a b c || from_to b a c

-- p is within the box of a and b
abbrev pub in_box : Pt → Pt → Pt → Bool
in_box a b p = between a.x b.x p.x && between a.y b.y p.y

-- p is on the edge a to b: the turn is straight, and p is within the edge's box
abbrev pub on_edge : Pt → Pt → Pt → Bool
on_edge p a b = straight a b p && in_box a b p

-- some edge has the point on it: of one corner that is the corner, of two the segment between them, and of none nothing
unfoldable pub on_border : Pt → List Pt → Bool
on_border p ring = any (λ e. on_edge p e.from e.to) (edges ring)

-- what the outline test answers: border if some edge has the point on it, else inside if an odd number of edges is crossed, else outside
unfoldable pub position : Pt → List Pt → Position
unfolding on_border odd_crossings
position p ring = cond (on_border p ring) border (cond (odd_crossings p ring) inside outside)

-- what the convex test answers: inside or outside, and never border
unfoldable pub convex_position : Pt → List Pt → Position
unfolding inside_convex
convex_position p ring = cond (inside_convex p ring) inside outside
