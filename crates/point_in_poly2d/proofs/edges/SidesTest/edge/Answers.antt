use lib.Ieee.{of_bits}
use Rattle.point_in_poly2d.proofs.Shown.{sides_shown}
use Rattle.point_in_poly2d.proofs.edges.SidesTest.edge.Goals as goal

pub returns : goal.returns
unfolding of_bits
returns c = λ p a b u v. sides_shown u v c.perp_dot-turn.ensures
