-- What blocks an ear by the three turns of a point with the triangle's sides, and which points lie apart from the triangle.
use Rattle.std.specs.Prelude.{Bool, not, ◌||◌, ℤ, pos, ◌<ℤ◌}
use Rattle.std.specs.Int.Signed.{lt_z}
use Rattle.rules.specs.Plane.{Pt, turn}

-- a turn with a side is below zero, or d and more
abbrev pub beyond : ℤ → ℤ → Bool
beyond d e = lt_z e (pos 0) || not (lt_z e d)

-- the three turns of q are at least zero and below the triangle's own
unfoldable pub blocks_by_turns : Pt → Pt → Pt → Pt → Bool
blocks_by_turns a b c q = let d = turn a b c in not (beyond d (turn a b q) || (beyond d (turn b c q) || beyond d (turn c a q)))

-- q lies on one side of the triangle's box: left of it, right of it, under it or over it
pub data Apart (a b c q : Pt) : Type 0 where
  left_of : q.x <ℤ a.x → q.x <ℤ b.x → q.x <ℤ c.x → Apart a b c q
  right_of : a.x <ℤ q.x → b.x <ℤ q.x → c.x <ℤ q.x → Apart a b c q
  under : q.y <ℤ a.y → q.y <ℤ b.y → q.y <ℤ c.y → Apart a b c q
  over : a.y <ℤ q.y → b.y <ℤ q.y → c.y <ℤ q.y → Apart a b c q
