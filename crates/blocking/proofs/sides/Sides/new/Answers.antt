-- `Sides::new` meets its contract.
use mathlib.Core.Path.{refl}
use Rattle.blocking.specs.InFloats.{sides_of}
use Rattle.blocking.proofs.sides.Sides.new.Goals as goal

pub returns : goal.returns
unfolding sides_of
returns c = refl
