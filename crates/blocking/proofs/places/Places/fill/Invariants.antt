-- `Places::fill` meets its contract. The invariant: the points below k stand there.
use mathlib.Core.Path.{◌≡◌}
use lib.ListN.{length}
use Rattle.grid.specs.Listed.{listed}
use Rattle.blocking.specs.Outlined.{Flat}
use Rattle.blocking.proofs.places.Places.fill.Given as goal

abbrev pub invariant-loop-k : goal.invariant-loop-k
invariant-loop-k l = record { flat : Flat (listed l.points) l.k l.self.points; strips : length l.self.strips.masks ≡ 65 }
