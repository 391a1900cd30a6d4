-- `Strips::mark` meets its contract.
use Rattle.algebra.proofs.Bits.{one_shifted}
use Rattle.blocking.specs.Strips.{from_right, from_left, from_above, from_below}
use Rattle.blocking.proofs.Stripping.{is_put, is_marked}
use Rattle.blocking.proofs.strips.Strips.mark.Goals as goal

pub returns : goal.returns
returns c =
    let eight = one_shifted c.args.g c.requires.eight in
    let right = is_put from_right _ _ _ c.args.g _ c.requires.long c.from_upper.ensures.strip c.from_upper.ensures.bound eight in
    let left = is_put from_left _ _ _ c.args.g _ right.long c.from_lower.ensures.strip c.from_lower.ensures.bound eight in
    let above = is_put from_above _ _ _ c.args.g _ left.long c.from_upper-2.ensures.strip c.from_upper-2.ensures.bound eight in
    let below = is_put from_below _ _ _ c.args.g _ above.long c.from_lower-2.ensures.strip c.from_lower-2.ensures.bound eight in
    is_marked _ _ _ _ _ _ _ right left above below
