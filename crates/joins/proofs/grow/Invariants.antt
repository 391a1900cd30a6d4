-- `grow` meets its contract. The invariant: the merge of the pieces is that of A, joined so far, and the later pieces; and the queue holds the places that still may have a join.
use Prim.Native.Nat.{◌+◌, ◌-◌, ◌*◌}
use lib.ListN.{length}
use Rattle.rules.specs.Merge.{may_join}
use Rattle.grid.specs.Listed.{listed}
use Rattle.joins.proofs.Growing.{Growing}
use Rattle.joins.proofs.grow.Given as goal

abbrev pub invariant-loop-refused : goal.invariant-loop-refused
invariant-loop-refused l = Growing (may_join (listed l.points)) (length (listed l.points)) l.fn.first l.initial.later l.later l.ring l.queue l.refused

abbrev pub decreases-loop-refused : goal.decreases-loop-refused
decreases-loop-refused l = length l.later * 1024 + (length l.queue - l.refused)
