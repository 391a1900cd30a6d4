-- For each entry one function from what is lent to everything that comes back: the number, the count or answer, and every lent element afterwards.
-- A refusal reports a count of zero, or outside, and changes no lent element.
use Rattle.std.specs.Prelude.{ℕ, zero, suc, ◌*◌, List, [], map, length, take, Float}
use Rattle.algebra.specs.Rings.{Corner, ring_of}
use Rattle.rules.specs.Plane.{Pt}
use Rattle.rules.specs.Grid.{point_of, points_of}
use Rattle.rules.specs.Border.{Position, outside, position, convex_position}
use Rattle.rules.specs.Cut.{Cut, stuck, done, cut}
use Rattle.rules.specs.Merge.{may_join, merge}
use Rattle.rules.specs.Layout.{flatten, split, triples, over}
use Rattle.rules.specs.Hull.{hull}
use Rattle.rules.specs.Refusals.{first_refusal, cutter_checks, merger_checks, point_test_checks, hull_checks}

-- what is answered where no refusal applies, and what is refused by a number otherwise
abbrev pub unless : {R : Type 0} → ℕ → (ℕ → R) → R → R
unless zero refused answered = answered
unless (suc n) refused answered = refused (suc n)

-- ---- the cutter

pub record Cutting : Type 0 where
  pub number : ℕ
  -- of triangles
  pub count : ℕ
  pub indices : List ℕ

abbrev pub triangles_of : Cut → List (Corner ℕ)
triangles_of stuck = []
triangles_of (done ts) = ts

-- the triangles of an outline, three indices each
unfoldable pub triangles_for : List Pt → List (List ℕ)
unfolding cut
triangles_for ps = map ring_of (triangles_of (cut ps))

unfoldable pub cutter : List Float → List ℕ → Cutting
unfolding first_refusal cutter_checks triangles_for flatten
cutter cs indices =
    let triangles = triangles_for (points_of cs) in
    unless (first_refusal (cutter_checks cs (length indices)))
    (λ n. record { number = n; count = 0; indices = indices })
    (record { number = 0; count = length triangles; indices = over (flatten triangles) indices })

-- the triangles that a cut has written, read back
abbrev pub written_triangles : Cutting → List (List ℕ)
written_triangles r = triples (take (3 * r.count) r.indices)

-- ---- the merger

pub record Merging : Type 0 where
  pub number : ℕ
  -- of pieces
  pub count : ℕ
  pub indices : List ℕ
  pub lengths : List ℕ

unfoldable pub merger : List Float → List ℕ → List ℕ → List ℕ → Merging
unfolding first_refusal merger_checks may_join merge triples flatten
merger cs triangles indices lengths =
    let pieces = merge (may_join (points_of cs)) (triples triangles) in
    unless (first_refusal (merger_checks cs triangles (length indices) (length lengths)))
    (λ n. record { number = n; count = 0; indices = indices; lengths = lengths })
    (record { number = 0; count = length pieces; indices = over (flatten pieces) indices; lengths = over (map length pieces) lengths })

-- the pieces that a merge has written, read back
abbrev pub written_pieces : Merging → List (List ℕ)
written_pieces r = split (take r.count r.lengths) r.indices

-- ---- the point tests

pub record Asking : Type 0 where
  pub number : ℕ
  pub answer : Position

unfoldable pub asking : (Pt → List Pt → Position) → Float → Float → List Float → Asking
unfolding first_refusal point_test_checks
asking test x y cs =
    unless (first_refusal (point_test_checks x y cs))
    (λ n. record { number = n; answer = outside })
    (record { number = 0; answer = test (point_of x y) (points_of cs) })

abbrev pub point_in_poly2d : Float → Float → List Float → Asking
point_in_poly2d = asking position

abbrev pub point_in_convex_poly2d : Float → Float → List Float → Asking
point_in_convex_poly2d = asking convex_position

-- ---- the hull of a cloud

pub record Hulling : Type 0 where
  pub number : ℕ
  -- of corners
  pub count : ℕ
  pub indices : List ℕ

unfoldable pub huller : List Float → List ℕ → Hulling
unfolding first_refusal hull_checks hull
huller cs out =
    let corners = hull (points_of cs) in
    unless (first_refusal (hull_checks cs (length out)))
    (λ n. record { number = n; count = 0; indices = out })
    (record { number = 0; count = length corners; indices = over corners out })

-- the corners that were written, read back
abbrev pub written_corners : Hulling → List ℕ
written_corners r = take r.count r.indices
