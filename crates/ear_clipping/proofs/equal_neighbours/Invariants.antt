-- `equal_neighbours` meets its contract. The invariant: no edge that was passed has equal ends.
use Rattle.grid.specs.Listed.{listed}
use Rattle.grid.proofs.Walks.{Walk}
use Rattle.ear_clipping.proofs.Neighbours.{Apart}
use Rattle.ear_clipping.proofs.equal_neighbours.Given as goal

abbrev pub invariant-loop-i : goal.invariant-loop-i
invariant-loop-i l = Walk (listed l.points) (Apart (listed l.points)) l.a l.i
