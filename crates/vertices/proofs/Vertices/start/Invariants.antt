-- `Vertices::start` meets its contract. The invariant: the ring is whole, and the leaves below i hold what they do first.
use Rattle.vertices.proofs.Starts.{Starting}
use Rattle.vertices.proofs.Vertices.start.Given as goal

abbrev pub invariant-loop-i : goal.invariant-loop-i
invariant-loop-i l = Starting l.fn.self.outline.now l.fn.self.winners.leaves l.i l.self
