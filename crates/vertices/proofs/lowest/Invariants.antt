-- `lowest` meets its contract. The invariant: the numbers before i are not active.
use Prim.Native.Nat.{◌-◌}
use mathlib.Core.Path.{◌≡◌}
use Rattle.vertices.specs.Vertices.{active_of, lowest_from}
use Rattle.vertices.proofs.lowest.Given as goal

abbrev pub invariant-loop-i : goal.invariant-loop-i
invariant-loop-i l = lowest_from (active_of l.ring) 0 l.n ≡ lowest_from (active_of l.ring) l.i (l.n - l.i)
