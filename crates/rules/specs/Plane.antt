-- Document 01, "Points and the grid": points, turns, and the triangle test.
use Rattle.std.specs.Prelude.{ℕ, Bool, ◌&&◌, ◌||◌, not, List, ℤ, pos, ◌-ℤ◌, ◌*ℤ◌, get_or}
use Rattle.std.specs.Int.Signed.{lt_z, le_z}

-- a point, or the vector from one point to another
pub record Pt : Type 0 where
  pub x : ℤ
  pub y : ℤ

-- equal points
abbrev pub same : Pt → Pt → Bool
same a b = le_z a.x b.x && le_z b.x a.x && (le_z a.y b.y && le_z b.y a.y)

-- b - a
abbrev pub minus : Pt → Pt → Pt
minus b a = record { x = b.x -ℤ a.x; y = b.y -ℤ a.y }

-- u x v is ux*vy - uy*vx
abbrev pub cross : Pt → Pt → ℤ
cross u v = u.x *ℤ v.y -ℤ u.y *ℤ v.x

-- (b - a) x (c - a): plus is left, minus is right, zero is straight
abbrev pub turn : Pt → Pt → Pt → ℤ
turn a b c = cross (minus b a) (minus c a)

abbrev pub left : Pt → Pt → Pt → Bool
left a b c = lt_z (pos 0) (turn a b c)

abbrev pub right : Pt → Pt → Pt → Bool
right a b c = lt_z (turn a b c) (pos 0)

abbrev pub straight : Pt → Pt → Pt → Bool
straight a b c = not (left a b c || right a b c)

-- p is in the triangle unless its three turns with the sides contain both a left and a right
abbrev pub in_triangle : Pt → Pt → Pt → Pt → Bool
in_triangle a b c p = not ((left a b p || left b c p || left c a p) && (right a b p || right b c p || right c a p))

-- ---- by number

-- point number i of an outline. No rule asks for one past the end, where it would be (0, 0)
abbrev pub point : List Pt → ℕ → Pt
point ps i = get_or ps i (record { x = pos 0; y = pos 0 })

-- the turn at three corner numbers
abbrev pub turns_left : List Pt → ℕ → ℕ → ℕ → Bool
turns_left ps a b c = left (point ps a) (point ps b) (point ps c)

abbrev pub turns_right : List Pt → ℕ → ℕ → ℕ → Bool
turns_right ps a b c = right (point ps a) (point ps b) (point ps c)
