-- `read` meets its contract. The invariant: k triangles are read.
use Rattle.pieces.proofs.Reading.{Read}
use Rattle.pieces.proofs.Pieces.read.Given as goal

abbrev pub invariant-loop-k : goal.invariant-loop-k
invariant-loop-k l = Read l.triangles l.self-inside.store.edges l.self-inside.store.eights l.k
