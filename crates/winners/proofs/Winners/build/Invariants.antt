-- `Winners::build` meets its contract. The invariant: the nodes from k on are right.
use Rattle.winners.proofs.Nodes.{Built}
use Rattle.winners.proofs.Winners.build.Given as goal

abbrev pub invariant-loop-k : goal.invariant-loop-k
invariant-loop-k l = Built l.initial.self l.self l.k
