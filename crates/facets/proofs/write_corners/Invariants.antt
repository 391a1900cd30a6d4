-- The corners in front of place i are written.
use mathlib.Core.Path.{◌≡◌}
use mathlib.Core.List.{◌++◌, map}
use lib.ListN.{take, drop}
use Rattle.facets.specs.Laid.{corner_of}
use Rattle.facets.proofs.write_corners.Given as goal

abbrev pub invariant-loop-i : goal.invariant-loop-i
invariant-loop-i l = l.indices ≡ take l.i (map corner_of l.ring) ++ drop l.i l.initial.indices
