-- Of the points that were passed, `best` is the farthest.
use Rattle.rules.specs.Hull.{normal}
use Rattle.grid.specs.Listed.{listed}
use Rattle.grid.specs.Points.{pt_of}
use Rattle.seeing.proofs.Scans.{Best}
use Rattle.seeing.proofs.chosen.Chosen.farthest.Given as goal

abbrev pub invariant-loop-i : goal.invariant-loop-i
invariant-loop-i l = Best (listed l.self.points) (normal (pt_of l.fn.facet.from) (pt_of l.fn.facet.to)) l.self.list.now l.best l.most l.i
