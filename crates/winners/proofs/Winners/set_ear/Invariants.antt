-- `Winners::set_ear` meets its contract. The invariant: only the parent of k may be wrong, and the best so far is what node k holds.
use mathlib.Core.Path.{◌≡◌}
use Rattle.winners.specs.Keys.{node}
use Rattle.winners.proofs.Nodes.{Climb}
use Rattle.winners.proofs.Winners.set_ear.Given as goal

abbrev pub invariant-loop-k : goal.invariant-loop-k
invariant-loop-k l = Climb l.initial.self l.self l.k × (l.best ≡ node l.self l.k)

abbrev pub decreases-loop-k : goal.decreases-loop-k
decreases-loop-k l = l.k
