-- Strips of the grid, and which eights of points may have one there.
use Rattle.std.specs.Prelude.{ℕ, ◌/◌, ◌≤◌, ◌<◌, ◌≡◌, List, ℤ, pos, nat_abs, ◌-ℤ◌, length, get_or}
use Rattle.std.specs.Int.Bits.{bit_and, bit_or}
use Rattle.algebra.specs.Bits.{Has}
use Rattle.rules.specs.Plane.{Pt, point}
use Rattle.blocking.specs.declared.strips.Masks.{Masks}

-- the strip of a coordinate from the grid's edge at 1024; of a negated one, from the edge at -1024
abbrev pub from_edge : ℤ → ℕ
from_edge z = nat_abs (pos 1024 -ℤ z) / 32

-- the four coordinates of a point by which it is put into strips, and the mask of each
pub data Side : Type 0 where
  from_right from_left from_above from_below : Side

abbrev pub along : Side → Pt → ℤ
along from_right p = p.x
along from_left p = pos 0 -ℤ p.x
along from_above p = p.y
along from_below p = pos 0 -ℤ p.y

abbrev pub of_side : Side → Masks → ℕ
of_side from_right m = m.right
of_side from_left m = m.left
of_side from_above m = m.upper
of_side from_below m = m.lower

-- a point's own strip
abbrev pub own_strip : Side → Pt → ℕ
own_strip side p = from_edge (along side p)

abbrev pub no_points : Masks
no_points = record { right = 0; left = 0; upper = 0; lower = 0 }

abbrev pub mask : List Masks → Side → ℕ → ℕ
mask strips side s = of_side side (get_or strips s no_points)

abbrev pub both : Masks → Masks → Masks
both m n = record { right = bit_or m.right n.right; left = bit_or m.left n.left; upper = bit_or m.upper n.upper; lower = bit_or m.lower n.lower }

-- each bit of the masks before is one of those after, and a point of eight number g is put to its own strips
pub record Marked (before : List Masks) (p : Pt) (g : ℕ) (after : List Masks) : Type 0 where
  pub long : length after ≡ 65
  pub kept : (side : Side) (s h : ℕ) → Has (mask before side s) h → Has (mask after side s) h
  pub there : (side : Side) → Has (mask after side (own_strip side p)) g

-- the first n points are in the masks of their own strips
pub record MarkedUpTo (ps : List Pt) (n : ℕ) (strips : List Masks) : Type 0 where
  pub long : length strips ≡ 65
  pub each : (side : Side) (k : ℕ) → k < n → Has (mask strips side (own_strip side (point ps k))) (k / 8)

-- all points are in the masks of their own strips and of those behind them
pub record Stripped (ps : List Pt) (strips : List Masks) : Type 0 where
  pub each : (side : Side) (k s : ℕ) → k < length ps → from_edge (along side (point ps k)) ≤ s → s < 65 → Has (mask strips side s) (k / 8)

abbrev pub any_of : List Masks → Side → ℕ → ℕ → ℕ → ℕ
any_of strips side i j k = bit_or (bit_or (mask strips side i) (mask strips side j)) (mask strips side k)

-- the eights with a point in the strips of one of three points, or nearer to the edge
abbrev pub reached : List Masks → Side → Pt → Pt → Pt → ℕ
reached strips side a b c = any_of strips side (own_strip side a) (own_strip side b) (own_strip side c)

unfoldable pub candidates_of : List Masks → Pt → Pt → Pt → ℕ
candidates_of strips a b c =
    bit_and (bit_and (bit_and (reached strips from_right a b c) (reached strips from_left a b c)) (reached strips from_above a b c)) (reached strips from_below a b c)
