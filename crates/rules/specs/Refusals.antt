-- Document 01, "What comes back instead": the refusals of each entry in their order. The first that applies is given, and 0 where none does.
use Rattle.std.specs.Prelude.{ℕ, ◌*◌, ◌-◌, ◌/◌, ◌%◌, Bool, true, false, cond, not, ◌||◌, List, [], ◌∷◌, ◌++◌, eqb, ltb, pos, length, Float}
use Rattle.std.specs.Int.Signed.{le_z}
use Rattle.algebra.specs.Lists.{any}
use Rattle.algebra.specs.Rings.{edges}
use Rattle.rules.specs.Limits.{most_points, most_triangles}
use Rattle.rules.specs.Plane.{Pt, same, left}
use Rattle.rules.specs.Grid.{on_grid, points_of}
use Rattle.rules.specs.Measure.{area2}
use Rattle.rules.specs.Cut.{Cut, stuck, done, cut}

infix 90 ◌gives◌
pub data Row : Type 0 where
  ◌gives◌ : Bool → ℕ → Row

unfoldable pub first_refusal : List Row → ℕ
first_refusal [] = 0
first_refusal (applies gives number ∷ rows) = cond applies number (first_refusal rows)

-- ---- the tests

unfoldable pub off_grid : List Float → Bool
off_grid cs = any (λ c. not (on_grid c)) cs

unfoldable pub equal_neighbours : List Pt → Bool
equal_neighbours ps = any (λ e. same e.from e.to) (edges ps)

-- request M-105: the outline goes clockwise, or has no area
unfoldable pub area_not_above_zero : List Pt → Bool
unfolding area2
area_not_above_zero ps = le_z (area2 ps) (pos 0)

abbrev pub is_stuck : Cut → Bool
is_stuck stuck = true
is_stuck (done ts) = false

-- a ring of four or more, met on the way, has no ear
unfoldable pub no_ear : List Pt → Bool
unfolding cut
no_ear ps = is_stuck (cut ps)

-- no three of the points turn; those that turn right turn left in another order
unfoldable pub on_one_line : List Pt → Bool
on_one_line ps = not (any (λ a. any (λ b. any (left a b) ps) ps) ps)

-- 3(n - 2) indices are needed for n corners
abbrev pub short_to_cut : List Pt → ℕ → Bool
short_to_cut ps room = ltb room (3 * (length ps - 2))

-- 3m indices and m lengths are needed for m triangles
abbrev pub short_to_merge : List ℕ → ℕ → ℕ → Bool
short_to_merge triangles room room_for_lengths = ltb room (length triangles) || ltb room_for_lengths (length triangles / 3)

-- an index is not below n
unfoldable pub out_of_range : ℕ → List ℕ → Bool
out_of_range n indices = any (λ i. not (ltb i n)) indices

-- ---- an outline of `least` to `most` points

-- what the number of its coordinates decides, two of which are a point
unfoldable pub count_checks : ℕ → ℕ → ℕ → List Row
count_checks least most coordinates =
    eqb (coordinates % 2) 1 gives 1
    ∷ ltb (coordinates / 2) least gives 2
    ∷ ltb most (coordinates / 2) gives 3
    ∷ []

unfoldable pub outline_checks : ℕ → ℕ → List Float → List Row
unfolding off_grid count_checks
outline_checks least most cs = count_checks least most (length cs) ++ (off_grid cs gives 4 ∷ [])

-- ---- the orders. Of the slices for output only the lengths are asked

-- of the ring of corners, and of room for what comes of it
abbrev pub ring_checks : List Pt → Bool → List Row
ring_checks ps short =
    equal_neighbours ps gives 5
    ∷ area_not_above_zero ps gives 13
    ∷ short gives 6
    ∷ []

-- the cutter's rows that need no cut
unfoldable pub before_cutting : List Float → ℕ → List Row
unfolding outline_checks equal_neighbours area_not_above_zero
before_cutting cs room = outline_checks 3 most_points cs ++ ring_checks (points_of cs) (short_to_cut (points_of cs) room)

unfoldable pub cutter_checks : List Float → ℕ → List Row
unfolding before_cutting no_ear
cutter_checks cs room = before_cutting cs room ++ (no_ear (points_of cs) gives 7 ∷ [])

-- what the number of a triangle list's indices decides
unfoldable pub list_checks : ℕ → List Row
list_checks indices =
    not (eqb (indices % 3) 0) gives 8
    ∷ ltb most_triangles (indices / 3) gives 10
    ∷ []

-- the merger's rows that need no look at the triangles. Of 0 points or more, 2 is never given
unfoldable pub before_triangles : List Float → ℕ → List Row
unfolding outline_checks list_checks
before_triangles cs indices = outline_checks 0 most_points cs ++ list_checks indices

-- of the triangles, and of room for them
abbrev pub triangle_checks : List Pt → List ℕ → ℕ → ℕ → List Row
triangle_checks ps triangles room room_for_lengths =
    out_of_range (length ps) triangles gives 9
    ∷ short_to_merge triangles room room_for_lengths gives 6
    ∷ []

unfoldable pub merger_checks : List Float → List ℕ → ℕ → ℕ → List Row
unfolding before_triangles out_of_range
merger_checks cs triangles room room_for_lengths = before_triangles cs (length triangles) ++ triangle_checks (points_of cs) triangles room room_for_lengths

unfoldable pub point_test_checks : Float → Float → List Float → List Row
unfolding outline_checks
point_test_checks x y cs = outline_checks 0 most_points cs ++ (off_grid (x ∷ y ∷ []) gives 4 ∷ [])

-- ---- request M-104: a cloud of two points or more, and one slot for each of them

-- of the cloud, and of room for its hull
abbrev pub cloud_checks : List Pt → ℕ → List Row
cloud_checks ps room =
    on_one_line ps gives 12
    ∷ ltb room (length ps) gives 6
    ∷ []

unfoldable pub hull_checks : List Float → ℕ → List Row
unfolding outline_checks on_one_line
hull_checks cs room = outline_checks 2 most_points cs ++ cloud_checks (points_of cs) room
