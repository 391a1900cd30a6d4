-- The invariant: the whole slice is off the grid where a coordinate passed is, or the rest.
use mathlib.Core.Path.{◌≡◌}
use mathlib.Core.Bool.{◌||◌}
use lib.ListN.{drop}
use Rattle.rules.specs.Refusals.{off_grid}
use Rattle.grid.proofs.off_grid.Given as goal

abbrev pub invariant-loop-c : goal.invariant-loop-c
invariant-loop-c l = off_grid l.coords ≡ (l.off || off_grid (drop l.c-index l.coords))
