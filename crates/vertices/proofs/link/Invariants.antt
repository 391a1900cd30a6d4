-- `link` meets its contract. The invariant: the corners below i are in the ring.
use Rattle.grid.specs.Listed.{listed}
use Rattle.vertices.specs.Vertices.{Begun}
use Rattle.vertices.proofs.link.Given as goal

abbrev pub invariant-loop-i : goal.invariant-loop-i
invariant-loop-i l = Begun (listed l.points) l.i l.ring
