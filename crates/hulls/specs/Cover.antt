-- Request M-104's promise of a hull, and what it is to be on one line.
use Rattle.std.specs.Prelude.{ℕ, ◌<◌, ◌≡◌, false, List, length, pos}
use Rattle.algebra.specs.Lists.{Each, Distinct}
use Rattle.algebra.specs.Rings.{Edge, edges}
use Rattle.rules.specs.Plane.{Pt, turn, point, turns_right}
use Rattle.rules.specs.Measure.{NoneRight}

-- every given point is on or left of the edge
abbrev pub AllLeft : List Pt → Edge ℕ → Type 0
AllLeft ps e = (i : ℕ) → i < length ps → turns_right ps e.from e.to i ≡ false

-- all points are on one line: every three turn straight
abbrev pub OneLine : List Pt → Type 0
OneLine ps = (i j k : ℕ) → i < length ps → j < length ps → k < length ps → turn (point ps i) (point ps j) (point ps k) ≡ pos 0

-- indices distinct and in range, no corner turns right, and every given point is on or left of every edge
pub record Promised (ps : List Pt) (h : List ℕ) : Type 0 where
  pub distinct : Distinct h
  pub in_range : Each (λ i. i < length ps) h
  pub none_right : NoneRight ps h
  pub all_left : Each (AllLeft ps) (edges h)
