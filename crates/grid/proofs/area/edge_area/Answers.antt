-- `edge_area` meets its contract.
use mathlib.Core.Path.{◌≡◌}
use lib.Ieee.{of_bits, binary32, sub, mul}
use Rattle.grid.proofs.Areas.{edge_whole, edge_is, edge_low}
use Rattle.grid.proofs.area.edge_area.Goals as goal

pub float_to_int-result : goal.float_to_int-result
unfolding of_bits
float_to_int-result c =
    let product : c.perp_dot-product.result ≡ sub binary32 (mul binary32 c.args.a.x c.args.b.y) (mul binary32 c.args.a.y c.args.b.x) = cc in edge_whole c.args.a c.args.b product

pub returns : goal.returns
unfolding of_bits
returns c =
    let product : c.perp_dot-product.result ≡ sub binary32 (mul binary32 c.args.a.x c.args.b.y) (mul binary32 c.args.a.y c.args.b.x) = cc in
    record { value = edge_is c.args.a c.args.b product; bound = edge_low c.args.a c.args.b product }
