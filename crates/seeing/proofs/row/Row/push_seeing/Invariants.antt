-- Of the points that were passed, those that see the facet are written.
use mathlib.Core.Path.{◌≡◌}
use lib.ListN.{length}
use Rattle.grid.specs.Listed.{listed}
use Rattle.grid.specs.Points.{pt_of}
use Rattle.seeing.proofs.Scans.{Kept}
use Rattle.seeing.proofs.row.Row.push_seeing.Given as goal

abbrev pub invariant-loop-i : goal.invariant-loop-i
invariant-loop-i l =
    (length l.self-inside.places ≡ 513)
    × Kept (listed l.chosen.points) (pt_of l.fn.facet.from) (pt_of l.fn.facet.to) l.chosen.list.now l.fn.self l.self-inside.places l.end l.i
