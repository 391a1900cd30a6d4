-- `Strips::fill` meets its contract. The invariant: the points below k are in the masks of their own strips.
use Rattle.grid.specs.Listed.{listed}
use Rattle.blocking.specs.Strips.{MarkedUpTo}
use Rattle.blocking.proofs.strips.Strips.fill.Given as goal

abbrev pub invariant-loop-k : goal.invariant-loop-k
invariant-loop-k l = MarkedUpTo (listed l.points) l.k l.self.masks
