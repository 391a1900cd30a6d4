-- `coordinate` meets its contract.
use Rattle.point_in_poly2d.proofs.Words.{grid_number}
use Rattle.point_in_poly2d.proofs.bytes.coordinate.Goals as goal

pub float_from_bits-result : goal.float_from_bits-result
float_from_bits-result c = grid_number _ c.requires
