-- `root` meets its contract.
use Rattle.std.proofs.Common.{sym, ap, ◌∙◌, arith}
use lib.Ieee.{of_bits}
use Rattle.rules.specs.Root.{root as root_of}
use Rattle.rules.proofs.Root.{root_zero}
use Rattle.root.proofs.Pattern.{parts, power_small, bits_no_nan, pattern}
use Rattle.root.proofs.root.Goals as goal

pub returns-then-m-eq0 : goal.returns-then-m-eq0
unfolding of_bits
returns-then-m-eq0 c = sym (ap root_of c.if-m-eq0.true ∙ root_zero)

pub overflow_sub-result : goal.overflow_sub-result
overflow_sub-result c = omega (arith, power_small (parts c.if-m-eq0.false c.requires c.new-radicand.ensures.scaled c.new-radicand.ensures.value c.nearest_root-k.ensures))

pub float_from_bits-result : goal.float_from_bits-result
float_from_bits-result c = bits_no_nan (parts c.if-m-eq0.false c.requires c.new-radicand.ensures.scaled c.new-radicand.ensures.value c.nearest_root-k.ensures)

pub returns : goal.returns
returns c = pattern (parts c.if-m-eq0.false c.requires c.new-radicand.ensures.scaled c.new-radicand.ensures.value c.nearest_root-k.ensures)
