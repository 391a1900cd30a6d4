-- Whatever facets the ring is laid of, those in front of place p are seen.
use Prim.Native.Nat.{◌-◌}
use mathlib.Core.Path.{◌≡◌}
use mathlib.Core.List.{List}
use lib.ListN.{length}
use Rattle.hulls.specs.Rounds.{Facet}
use Rattle.facets.specs.Laid.{laid}
use Rattle.facets.proofs.Facets.{Low}
use Rattle.facets.proofs.Firsts.{Passing}
use Rattle.facets.proofs.first_unseen.Given as goal

abbrev pub invariant-loop-p : goal.invariant-loop-p
invariant-loop-p l = (facets : List Facet) → Low facets → l.ring ≡ laid facets → Passing facets l.p

abbrev pub decreases-loop-p : goal.decreases-loop-p
decreases-loop-p l = length l.ring - l.p
