-- `read` meets its contract.
use native.Mathlib.Omega.{arith}
use Rattle.words.proofs.Words.{as_floats, floats-length, floats_read, floats_many}
use Rattle.hasplight.proofs.read.Goals as goal

pub read-requires : goal.read-requires
read-requires c = omega (arith, c.requires.few, c.requires.room, floats-length c.args.coords.now)

pub slice_bounds-result-end : goal.slice_bounds-result-end
slice_bounds-result-end c = floats_many _ _ _ (as_floats c.args.coords.now _ c.read.ensures)

pub returns : goal.returns
returns c = floats_read _ _ _ (as_floats c.args.coords.now _ c.read.ensures)
