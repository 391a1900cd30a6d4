-- Document 01, "The cutter's steps", with request M-103: a corner is either no ear, or an ear that carries its pointiness.
use Rattle.std.specs.Prelude.{ℕ, Bool, cond, not, ◌&&◌, ◌||◌, List, Float}
use Rattle.algebra.specs.Lists.{any}
use Rattle.algebra.specs.Rings.{Corner}
use Rattle.rules.specs.Plane.{Pt, same, minus, in_triangle, point, turns_left}
use Rattle.rules.specs.Root.{pointiness}

pub data Ear : Type 0 where
  none : Ear
  pointed : Float → Ear

-- q is one of the points a, b and c, by its coordinates
abbrev pub at_corner : Pt → Pt → Pt → Pt → Bool
at_corner a b c q = same q a || (same q b || same q c)

-- q is in the triangle a, b, c, border included, and not at one of its corners (request M-103). Nothing is asked of its index, so a corner
-- that an outline passes twice does not block
unfoldable pub blocks : Pt → Pt → Pt → Pt → Bool
blocks a b c q = in_triangle a b c q && not (at_corner a b c q)

-- some point of the whole outline does, already cut ones included
unfoldable pub blocked : List Pt → Corner ℕ → Bool
unfolding blocks
blocked ps c = any (blocks (point ps c.before) (point ps c.at) (point ps c.after)) ps

-- the turn of (before, corner, after) is left and no point blocks that triangle
abbrev pub is_ear : List Pt → Corner ℕ → Bool
is_ear ps c = turns_left ps c.before c.at c.after && not (blocked ps c)

-- at a corner p with ring neighbours q (before) and s (after), from q - p and s - p
unfoldable pub pointiness_at : List Pt → Corner ℕ → Float
unfolding pointiness
pointiness_at ps c =
    let q = point ps c.before in
    let p = point ps c.at in
    let s = point ps c.after in
    pointiness (minus q p) (minus s p)

unfoldable pub ear : List Pt → Corner ℕ → Ear
unfolding blocked pointiness_at
ear ps c = cond (is_ear ps c) (pointed (pointiness_at ps c)) none
