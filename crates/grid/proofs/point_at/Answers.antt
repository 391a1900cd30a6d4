-- `point_at` meets its contract.
use native.Mathlib.Omega.{arith}
use Rattle.rules.proofs.Coordinates.{point_is, grid_at}
use Rattle.grid.proofs.point_at.Goals as goal

pub invariant_of-result : goal.invariant_of-result
invariant_of-result c = record {
  x_on_grid = grid_at c.args.coords.now _ c.requires.on_grid (omega (arith, c.requires.in_bounds));
  y_on_grid = grid_at c.args.coords.now _ c.requires.on_grid c.requires.in_bounds;
}

pub returns : goal.returns
returns c = point_is _ _ c.requires.in_bounds
