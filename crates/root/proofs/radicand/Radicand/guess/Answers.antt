-- `Radicand::guess` meets its contract: the hyperbola's value is a number.
use lib.Ieee.{binary64}
use Rattle.root.proofs.Numbers.{whole-number, hyperbola_number}
use Rattle.root.proofs.radicand.Radicand.guess.Goals as goal

pub float_to_bits-result : goal.float_to_bits-result
float_to_bits-result c =
    hyperbola_number binary64 c.hyperbola_at-level.result.0 c.hyperbola_at-level.result.1 c.hyperbola_at-level.result.2 _ c.hyperbola_at-level.ensures.level c.hyperbola_at-level.ensures.fall c.hyperbola_at-level.ensures.ahead (whole-number binary64 c.args.self.n)
