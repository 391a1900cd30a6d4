use lib.Ieee.{of_bits}
use Rattle.seeing.proofs.leftmost.Goals as goal

pub returns : goal.returns
unfolding of_bits
returns c = c.farthest_of_all.ensures
