-- The invariant: what was added and what is left make up the area, and the sum is at most 2^21 for each edge that was passed.
use Rattle.grid.specs.Listed.{listed}
use Rattle.grid.proofs.Areas.{Summed}
use Rattle.grid.proofs.points.Points.area2.Given as goal

abbrev pub invariant-loop-i : goal.invariant-loop-i
invariant-loop-i l = Summed (listed l.self) l.a l.sum l.i
