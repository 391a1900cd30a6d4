use native.Mathlib.Omega.{arith}
use Rattle.algebra.proofs.Lists.{each_imp}
use Rattle.hertel_mehlhorn.proofs.Merging.{work_first, work_next, work_done}
use Rattle.hertel_mehlhorn.proofs.merge.Goals as goal

pub read-requires-clause-below : goal.read-requires-clause-below
read-requires-clause-below c = each_imp (λ i h. omega (arith, h, c.requires.points)) c.requires.below

pub loop-first-init : goal.loop-first-init
loop-first-init c = rw c.read.ensures (work_first _ _ _ _ _ c.requires.below c.requires.whole)

pub loop-first-preserved : goal.loop-first-preserved
loop-first-preserved c = work_next c.loop-first.invariant c.requires.room c.requires.places c.in-Some.ensures c.grow.ensures _ c.write.ensures

pub returns-clause-written : goal.returns-clause-written
returns-clause-written c = work_done c.loop-first.invariant c.requires.room c.requires.places c.in_default.ensures.0
