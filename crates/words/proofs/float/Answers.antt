-- `float` meets its contract.
use mathlib.Core.Path.{sym}
use lib.Ieee.{div, of_bits}
use Rattle.words.proofs.Nans.{is_nan, is_number}
use Rattle.words.proofs.float.Goals as goal

pub returns-then-bits-gt2139095040 : goal.returns-then-bits-gt2139095040
unfolding div of_bits
returns-then-bits-gt2139095040 c = sym (is_nan _ c.if-bits-gt2139095040.true)

pub float_from_bits-result : goal.float_from_bits-result
float_from_bits-result c = is_number _ c.if-bits-gt2139095040.false
