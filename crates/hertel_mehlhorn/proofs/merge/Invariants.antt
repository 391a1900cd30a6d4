-- `merge` meets its contract. The invariant: the finished pieces are written, and the merge is what they are and the merge of the later ones.
use lib.ListN.{length}
use Rattle.rules.specs.Merge.{may_join}
use Rattle.rules.specs.Layout.{triples}
use Rattle.grid.specs.Listed.{listed}
use Rattle.hertel_mehlhorn.proofs.Merging.{Work}
use Rattle.hertel_mehlhorn.proofs.merge.Given as goal

abbrev pub invariant-loop-first : goal.invariant-loop-first
invariant-loop-first l = Work (may_join (listed l.points)) (length (listed l.points)) (triples l.triangles) (length l.triangles) l.initial.indices l.initial.lengths l.later l.indices l.lengths l.count l.end

abbrev pub decreases-loop-first : goal.decreases-loop-first
decreases-loop-first l = length l.later
