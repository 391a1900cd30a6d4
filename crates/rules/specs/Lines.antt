-- Request M-101: what reading a line, writing one, and filling one give back. A line that is not in form is refused by 11, before document
-- 01's refusals; what else comes back depends on its corners alone, of which a line has one list at most.
use Rattle.std.specs.Prelude.{ℕ, suc, ◌+◌, ◌*◌, ◌-◌, min, ◌≡◌, Bool, not, ◌||◌, List, [], ◌∷◌, ◌++◌, map, ltb, leb, ℤ, pos, negsuc, neg_ℤ, nat_abs, length, Float}
use Rattle.std.specs.Float.{binary32}
use Rattle.std.specs.Float.Ieee.{of_int}
use Rattle.algebra.specs.Lists.{any}
use Rattle.rules.specs.Limits.{grid_edge, most_points}
use Rattle.rules.specs.Plane.{Pt}
use Rattle.rules.specs.Grid.{points_of}
use Rattle.rules.specs.Merge.{may_join, merge}
use Rattle.rules.specs.Layout.{over}
use Rattle.rules.specs.Refusals.{Row, ◌gives◌, first_refusal, equal_neighbours, area_not_above_zero, no_ear, count_checks, outline_checks, ring_checks}
use Rattle.rules.specs.Entries.{unless, triangles_for}
use Rattle.rules.specs.Measure.{points}
use Rattle.rules.specs.Text.{InForm, NotInForm, polygon_line, multipolygon_line}

-- what comes back of a line: the answer for its corners, or what stands for 11
pub data Answers {R : Type 0} (line : List ℕ) (eleven : R) (answer : List Pt → R) (r : R) : Type 0 where
  in_form : {corners : List Pt} → InForm line corners → r ≡ answer corners → Answers line eleven answer r
  not_in_form : NotInForm line → r ≡ eleven → Answers line eleven answer r

-- ---- reading a POLYGON line

-- the nearest number from -1025 to 1025, the first off the grid
unfoldable pub clamped : ℤ → ℤ
clamped (pos n) = pos (min n (grid_edge + 1))
clamped (negsuc n) = neg_ℤ (pos (min (suc n) (grid_edge + 1)))

-- the f32 that a number is read as: its own on the grid, and off the grid one that is off the grid too
unfoldable pub coordinate : ℤ → Float
unfolding clamped
coordinate z = of_int binary32 (clamped z)

-- x and y in turn
unfoldable pub coordinates : List Pt → List Float
unfolding coordinate
coordinates [] = []
coordinates (p ∷ ps) = coordinate p.x ∷ coordinate p.y ∷ coordinates ps

pub record Reading : Type 0 where
  pub number : ℕ
  -- of corners
  pub count : ℕ
  pub coords : List Float

unfoldable pub reader_checks : List Pt → ℕ → List Row
reader_checks corners room =
    ltb most_points (length corners) gives 3
    ∷ ltb room (2 * length corners) gives 6
    ∷ []

unfoldable pub reader : List Float → List Pt → Reading
unfolding first_refusal reader_checks coordinates
reader coords corners =
    unless (first_refusal (reader_checks corners (length coords)))
    (λ n. record { number = n; count = 0; coords = coords })
    (record { number = 0; count = length corners; coords = over (coordinates corners) coords })

abbrev pub Reads : List ℕ → List Float → Reading → Type 0
Reads line coords = Answers line (record { number = 11; count = 0; coords = coords }) (reader coords)

-- ---- writing

pub record Writing : Type 0 where
  pub number : ℕ
  -- of bytes
  pub count : ℕ
  pub text : List ℕ

-- a line written to lent memory, where no row applies
unfoldable pub writing : List Row → List ℕ → List ℕ → Writing
unfolding first_refusal
writing rows line out =
    unless (first_refusal rows)
    (λ n. record { number = n; count = 0; text = out })
    (record { number = 0; count = length line; text = over line out })

-- enough for n corners on the grid as a POLYGON line: a point takes at most eleven bytes
abbrev pub polygon_room : ℕ → ℕ
polygon_room n = 23 + 13 * n

unfoldable pub polygon_checks : List Float → ℕ → List Row
unfolding outline_checks
polygon_checks cs room = outline_checks 1 most_points cs ++ (ltb room (polygon_room (length (points_of cs))) gives 6 ∷ [])

unfoldable pub polygon_writer : List Float → List ℕ → Writing
unfolding writing polygon_checks polygon_line
polygon_writer cs out = writing (polygon_checks cs (length out)) (polygon_line (points_of cs)) out

-- ---- filling

-- the areas of an outline: the merge of the cut
unfoldable pub areas_for : List Pt → List (List ℕ)
unfolding may_join merge triangles_for
areas_for ps = merge (may_join ps) (triangles_for ps)

-- a corner with a number that is not from -1024 to 1024
abbrev pub off_corner : Pt → Bool
off_corner p = not (leb (nat_abs p.x) grid_edge) || not (leb (nat_abs p.y) grid_edge)

unfoldable pub off_corners : List Pt → Bool
off_corners corners = any off_corner corners

-- enough for the n - 2 triangles of n corners on the grid as a MULTIPOLYGON line: a triangle takes at most 56 bytes, and areas take fewer
abbrev pub fill_room : ℕ → ℕ
fill_room n = 15 + 56 * (n - 2)

-- the rows before 5, on the numbers in the text. They stand in pairs, so 1 is never given
unfoldable pub before_ring : List Pt → List Row
unfolding count_checks off_corners
before_ring corners = count_checks 3 most_points (2 * length corners) ++ (off_corners corners gives 4 ∷ [])

unfoldable pub fill_checks : List Pt → ℕ → List Row
unfolding before_ring equal_neighbours area_not_above_zero no_ear
fill_checks corners room =
    before_ring corners
    ++ (ring_checks corners (ltb room (fill_room (length corners)))
    ++ (no_ear corners gives 7 ∷ []))

-- the plan, triangles or areas, as a MULTIPOLYGON line
unfoldable pub filler : (List Pt → List (List ℕ)) → List ℕ → List Pt → Writing
unfolding writing fill_checks multipolygon_line
filler plan out corners = writing (fill_checks corners (length out)) (multipolygon_line (map (points corners) (plan corners))) out

abbrev pub Fills : (List Pt → List (List ℕ)) → List ℕ → List ℕ → Writing → Type 0
Fills plan line out = Answers line (record { number = 11; count = 0; text = out }) (filler plan out)
