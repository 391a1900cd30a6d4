-- `side_from` meets its contract.
use lib.Ieee.{of_bits}
use Rattle.grid.proofs.OnGrid.{is_on}
use Rattle.grid.proofs.Turn.{pt_within}
use Rattle.grid.proofs.Sides.{diff}
use Rattle.grid.proofs.point.Point.side_from.Goals as goal

pub returns : goal.returns
unfolding of_bits
returns c =
    let p = pt_within c.args.self (is_on c.args.self) in
    let o = pt_within c.args.o (is_on c.args.o) in
    record { x = diff p.0 o.0; y = diff p.1 o.1 }
