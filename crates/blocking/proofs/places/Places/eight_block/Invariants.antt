-- `Places::eight_block` meets its contract. The invariant: the eight are the hit so far, or one of those from p-index on.
use mathlib.Core.Path.{◌≡◌}
use mathlib.Core.Bool.{◌||◌}
use lib.ListN.{drop}
use Rattle.algebra.specs.Lists.{any}
use Rattle.blocking.specs.InFloats.{blocks_of}
use Rattle.blocking.proofs.places.Places.eight_block.Given as goal

abbrev pub invariant-loop-p : goal.invariant-loop-p
invariant-loop-p l = any (blocks_of l.sides) l.p-items ≡ (l.hit || any (blocks_of l.sides) (drop l.p-index l.p-items))
