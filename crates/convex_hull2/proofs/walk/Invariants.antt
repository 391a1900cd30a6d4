-- What is laid is the ring after some rounds, and as many more as are left make it the last.
use Prim.Native.Nat.{◌-◌}
use lib.ListN.{length}
use Rattle.grid.specs.Listed.{listed}
use Rattle.convex_hull2.proofs.Walking.{Going}
use Rattle.convex_hull2.proofs.walk.Given as goal

abbrev pub invariant-loop : goal.invariant-loop
invariant-loop l = Going (listed l.cloud.points) l.ring (length l.all - l.counter)
