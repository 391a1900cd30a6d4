-- The points that were passed are on the line through both ends.
use Prim.Native.Nat.{ℕ, ◌<◌}
use mathlib.Core.Path.{◌≡◌}
use lib.IntN.{pos}
use Rattle.rules.specs.Plane.{point, turn}
use Rattle.grid.specs.Listed.{listed}
use Rattle.seeing.proofs.on_one_line.Given as goal

abbrev pub invariant-loop-i : goal.invariant-loop-i
invariant-loop-i l = let ps = listed l.points in (k : ℕ) → k < l.i → turn (point ps l.right) (point ps l.left) (point ps k) ≡ pos 0
