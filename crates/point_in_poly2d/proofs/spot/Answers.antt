use mathlib.Core.Path.{refl}
use Rattle.point_in_poly2d.proofs.Spots.{spot_off, spot_on}
use Rattle.point_in_poly2d.proofs.spot.Goals as goal

pub returns-then-on_grid-clause-number : goal.returns-then-on_grid-clause-number
returns-then-on_grid-clause-number c = spot_on c.args.x c.args.y c.on_grid.ensures c.on_grid-2.ensures c.if-on_grid.true

pub returns-then-on_grid-clause-point : goal.returns-then-on_grid-clause-point
returns-then-on_grid-clause-point c = (refl, refl)

pub returns-clause-number : goal.returns-clause-number
returns-clause-number c = spot_off c.args.x c.args.y c.on_grid.ensures c.on_grid-2.ensures c.if-on_grid.false
