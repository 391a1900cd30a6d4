-- `Sides::blocks` meets its contract.
use Rattle.blocking.specs.InFloats.{blocks_of}
use Rattle.blocking.proofs.sides.Sides.blocks.Goals as goal

pub returns : goal.returns
unfolding blocks_of
returns c = rw (c.is_beyond.ensures, c.is_beyond-2.ensures, c.is_beyond-3.ensures)
