-- `reciprocal` meets its contract: the square of the length is a whole number, and so its root is the rules'.
use Rattle.std.proofs.Common.{ap, ◌∙◌}
use lib.Ieee.{of_bits}
use Rattle.rules.specs.Plane.{minus}
use Rattle.rules.specs.Root.{root as root_of}
use Rattle.grid.specs.Points.{pt_of}
use Rattle.root.proofs.Length.{radicand_small, radicand_back, reciprocal_of}
use Rattle.root.proofs.reciprocal.Goals as goal

pub float_to_int-square : goal.float_to_int-square
float_to_int-square c =
    (radicand_back c.args.q c.args.p c.side_from-d.ensures.x c.side_from-d.ensures.y c.dot-square.ensures).0

pub root-requires : goal.root-requires
root-requires c =
    rw (radicand_back c.args.q c.args.p c.side_from-d.ensures.x c.side_from-d.ensures.y c.dot-square.ensures).1
    (radicand_small c.args.q c.args.p)

pub returns : goal.returns
unfolding of_bits
returns c =
    let cast = radicand_back c.args.q c.args.p c.side_from-d.ensures.x c.side_from-d.ensures.y c.dot-square.ensures in
    reciprocal_of (minus (pt_of c.args.q) (pt_of c.args.p)) (c.root.ensures ∙ ap root_of cast.1)
