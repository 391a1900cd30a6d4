-- `bits_on_grid` meets its contract.
use mathlib.Core.Path.{sym, ap}
use native.Mathlib.Omega.{arith}
use Rattle.rules.specs.Grid.{on_grid}
use Rattle.words.proofs.Nans.{is_nan, is_number}
use Rattle.point_in_poly2d.proofs.bytes.bits_on_grid.Goals as goal

pub returns-then-bits-gt2139095040 : goal.returns-then-bits-gt2139095040
returns-then-bits-gt2139095040 c = sym (ap on_grid (is_nan _ (omega (arith, c.if-bits-gt2139095040.true))))

pub float_from_bits-bits : goal.float_from_bits-bits
float_from_bits-bits c = is_number _ (omega (arith, c.if-bits-gt2139095040.false))
