-- `cut_outline` meets its contract. The invariant: the cut is what is written, and the cut of the ring that is left.
use Rattle.grid.specs.Listed.{listed}
use Rattle.ear_clipping.proofs.Clips.{Inv}
use Rattle.ear_clipping.proofs.cut_outline.Given as goal

abbrev pub invariant-loop-k : goal.invariant-loop-k
invariant-loop-k l = Inv (listed l.fn.outline.points.now) l.k l.triangles l.vertices
