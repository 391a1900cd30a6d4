-- Whatever facets the ring is laid of, those in front of place p are swept.
use Prim.Native.Nat.{◌-◌}
use mathlib.Core.List.{List}
use lib.ListN.{length}
use Rattle.hulls.specs.Rounds.{Facet}
use Rattle.grid.specs.Listed.{listed}
use Rattle.facets.specs.Laid.{Held}
use Rattle.facets.proofs.Sweeping.{Sweeping}
use Rattle.facets.proofs.sweep.Given as goal

abbrev pub invariant-loop-p : goal.invariant-loop-p
invariant-loop-p l =
    let ps = listed l.cloud.points in
    (facets : List Facet) (h : Held ps l.ring facets) → Sweeping ps l.cloud.few l.ring facets h l.out l.p

abbrev pub decreases-loop-p : goal.decreases-loop-p
decreases-loop-p l = length l.ring - l.p
