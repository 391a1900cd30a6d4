-- `from_lower` meets its contract.
use native.Mathlib.Omega.{arith}
use lib.Ieee.{of_bits}
use Rattle.blocking.proofs.Stripping.{strip_back}
use Rattle.blocking.proofs.strips.from_lower.Goals as goal

pub float_to_int-result : goal.float_to_int-result
unfolding of_bits
float_to_int-result c = (strip_back c.args.v c.requires).0

pub overflow_cast-result : goal.overflow_cast-result
unfolding of_bits
overflow_cast-result c = omega (arith, strip_back c.args.v c.requires)

pub returns : goal.returns
unfolding of_bits
returns c = let s = strip_back c.args.v c.requires in record { strip = s.1; bound = rw s.1 s.2 }
