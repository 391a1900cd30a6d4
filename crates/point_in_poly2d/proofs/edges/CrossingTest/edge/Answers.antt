use lib.Ieee.{of_bits}
use Rattle.point_in_poly2d.proofs.Shown.{crossing_shown}
use Rattle.point_in_poly2d.proofs.edges.CrossingTest.edge.Goals as goal

pub returns : goal.returns
unfolding of_bits
returns c = λ p a b u v. rw c.crosses.ensures (crossing_shown u v c.perp_dot-turn.ensures c.dot-beyond.ensures)
