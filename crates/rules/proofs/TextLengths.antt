-- How long a line can get: on the grid a number takes at most five bytes, so a POLYGON line takes at most 23 + 13 for each corner, and a
-- MULTIPOLYGON line at most 15 + 13 for each corner + 17 for each area.
use Prim.Native.Nat.{ℕ, zero, suc, ◌+◌, ◌*◌, ◌/◌, ◌%◌, ◌^◌, ◌≤◌, ◌<◌}
use native.Mathlib.Nat.{div-lt_iff_lt-mul, zero-lt-suc, pow-suc}
use native.Mathlib.Omega.{arith}
use mathlib.Core.Path.{◌≡◌, refl, ap}
use mathlib.Core.Bool.{Bool, true, false}
use mathlib.Core.List.{List, [], ◌∷◌, ◌++◌, map}
use lib.Dec.{ltb}
use lib.ListN.{length, length-append}
use lib.IntN.{ℤ, pos, negsuc, nat_abs}
use borrow.Author.Tests.{ltb-true, ltb-false}
use Rattle.algebra.specs.Lists.{Each, end, ◌&◌}
use Rattle.algebra.proofs.Lists.{each_++}
use Rattle.algebra.specs.Sums.{total, naturals}
use Rattle.rules.specs.Plane.{Pt}
use Rattle.rules.specs.Limits.{grid_edge}
use Rattle.rules.specs.Lines.{polygon_room}
use Rattle.rules.specs.Text.{natural, decimal, point_text, behind, parted, ring_text, area_text, polygon_line, multipolygon_line}
use Rattle.rules.proofs.GridSizes.{GridPoint}
use Rattle.rules.proofs.TextNumbers.{natural_one, natural-split}

pub natural-length : (k n : ℕ) → n < 10 ^ suc k → length (natural n) ≤ suc k
natural-length zero n h = omega (arith, ap length (natural_one n (omega arith)))
natural-length (suc k) n h = go (ltb n 10) refl (natural-length k (n / 10))
  where
    go : (t : Bool) → ltb n 10 ≡ t → (n / 10 < 10 ^ suc k → length (natural (n / 10)) ≤ suc k) → length (natural n) ≤ suc (suc k)
    go true e rec = omega (arith, ap length (natural_one n (ltb-true n 10 e)))
    go false e rec =
        let p : n / 10 < 10 ^ suc k = (div-lt_iff_lt-mul (zero-lt-suc 9)).1 (rw (pow-suc 10 (suc k)) at h) in
        omega (arith, ap length (natural-split n (ltb-false n 10 e)), length-append (natural (n / 10)) ((48 + n % 10) ∷ []), rec p)

number_short : (z : ℤ) → nat_abs z ≤ grid_edge → length (decimal z) ≤ 5
unfolding decimal
number_short (pos n) h = let s : length (natural n) ≤ 4 = natural-length 3 n (omega arith) in omega arith
number_short (negsuc n) h = let s : length (natural (suc n)) ≤ 4 = natural-length 3 (suc n) (omega arith) in omega arith

point-short : (p : Pt) → GridPoint p → length (point_text p) ≤ 11
unfolding point_text
point-short p h = omega (arith, length-append (decimal p.x) (32 ∷ decimal p.y), number_short p.x h.x-small, number_short p.y h.y-small)

behind-short : (ps : List Pt) → Each GridPoint ps → length (behind (map point_text ps)) ≤ 13 * length ps
unfolding behind
behind-short [] end = omega arith
behind-short (p ∷ ps) (h & hs) = omega (arith, length-append (point_text p) (behind (map point_text ps)), point-short p h, behind-short ps hs)

ring-short : (ps : List Pt) → Each GridPoint ps → length (ring_text ps) ≤ 13 * length ps + 13
unfolding ring_text parted
ring-short [] end = omega arith
ring-short (p ∷ ps) (h & hs) =
    omega (
      arith,
      length-append (point_text p ++ behind (map point_text (ps ++ (p ∷ [])))) (41 ∷ []),
      length-append (point_text p) (behind (map point_text (ps ++ (p ∷ [])))),
      point-short p h,
      behind-short (ps ++ (p ∷ [])) (each_++ hs (h & end)),
      length-append ps (p ∷ []),
    )

area_short : (ps : List Pt) → Each GridPoint ps → length (area_text ps) ≤ 13 * length ps + 15
unfolding area_text
area_short ps h = omega (arith, length-append (ring_text ps) (41 ∷ []), ring-short ps h)

-- enough room for a POLYGON line is asked
pub polygon-short : (ps : List Pt) → Each GridPoint ps → length (polygon_line ps) ≤ polygon_room (length ps)
unfolding polygon_line
polygon-short ps h = omega (arith, area_short ps h)

areas_short : (rs : List (List Pt)) → Each (Each GridPoint) rs → length (behind (map area_text rs)) ≤ 13 * total naturals length rs + 17 * length rs
unfolding behind
areas_short [] end = omega arith
areas_short (r ∷ rs) (h & hs) = omega (arith, length-append (area_text r) (behind (map area_text rs)), area_short r h, areas_short rs hs)

pub multipolygon_short : (rs : List (List Pt)) → Each (Each GridPoint) rs → length (multipolygon_line rs) ≤ 15 + 13 * total naturals length rs + 17 * length rs
unfolding multipolygon_line parted
multipolygon_short [] end = omega arith
multipolygon_short (r ∷ rs) (h & hs) =
    omega (arith, length-append (area_text r ++ behind (map area_text rs)) (41 ∷ []), length-append (area_text r) (behind (map area_text rs)), area_short r h, areas_short rs hs)
