-- The three turns of a point with an ear's sides, as the code computes them in floats.
use Rattle.std.specs.Prelude.{ℕ, Bool, false, not, ◌||◌, List, pos, take, drop, Float}
use Rattle.std.specs.Float.{fin, binary32}
use Rattle.std.specs.Float.Ieee.{add, sub, mul, lt}
use Rattle.algebra.specs.Lists.{any}
use Rattle.grid.specs.declared.point.Point.{Point}
use Rattle.blocking.specs.declared.sides.Sides.{Sides}

-- a x + b y
abbrev pub weighted : Float → Float → Float → Float → Float
weighted a b x y = add binary32 (mul binary32 a x) (mul binary32 b y)

-- the two sides that meet in p, and the turn of the three points
unfoldable pub sides_of : Point → Point → Point → Sides
sides_of p1 p p3 =
    let a1 = sub binary32 p1.y p.y in
    let b1 = sub binary32 p.x p1.x in
    let c1 = weighted a1 b1 p1.x p1.y in
    let a2 = sub binary32 p.y p3.y in
    let b2 = sub binary32 p3.x p.x in
    let c2 = weighted a2 b2 p.x p.y in
    record { a1 = a1; b1 = b1; c1 = c1; a2 = a2; b2 = b2; c2 = c2; d = sub binary32 (weighted a1 b1 p3.x p3.y) c1 }

abbrev pub beyond_of : Float → Float → Bool
beyond_of d e = lt e (fin false 0 (pos 0)) || not (lt e d)

-- the point p blocks
unfoldable pub blocks_of : Sides → Point → Bool
blocks_of t p =
    let e1 = sub binary32 (weighted t.a1 t.b1 p.x p.y) t.c1 in
    let e2 = sub binary32 (weighted t.a2 t.b2 p.x p.y) t.c2 in
    let e3 = sub binary32 (sub binary32 t.d e1) e2 in
    not (beyond_of t.d e1 || (beyond_of t.d e2 || beyond_of t.d e3))

-- one of the n points from number i on does
abbrev pub blocks_from : Sides → List Point → ℕ → ℕ → Bool
blocks_from t points i n = any (blocks_of t) (take n (drop i points))
