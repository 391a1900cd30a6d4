-- `Vertices::unlink` meets its contract.
use Rattle.vertices.proofs.Steps.{taken_out}
use Rattle.vertices.proofs.Vertices.unlink.Goals as goal

pub returns-clause-taken_out : goal.returns-clause-taken_out
returns-clause-taken_out c = taken_out _ _ c.requires.long c.requires.in_bounds c.requires.neighbours.0 c.requires.neighbours.1 _ _ c.from.ensures c.from-2.ensures
