use native.Mathlib.Omega.{arith}
use Rattle.pieces.proofs.Reading.{read_more}
use Rattle.pieces.proofs.Pieces.read.Goals as goal

pub loop-k-preserved : goal.loop-k-preserved
loop-k-preserved c =
    rw (c.put.ensures.edges, c.put.ensures.eights, c.edge.ensures, c.edge-in-loop-k.ensures, c.edge-in-loop-k-2.ensures)
    (read_more _ _ _ _ c.loop-k.invariant (omega arith) c.requires.below (omega arith))
