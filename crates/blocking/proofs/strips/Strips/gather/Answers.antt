use native.Mathlib.Omega.{arith}
use Rattle.blocking.proofs.Stripping.{gathered_first, gathered_more}
use Rattle.blocking.proofs.strips.Strips.gather.Goals as goal

pub loop-s-init : goal.loop-s-init
loop-s-init c = gathered_first _ c.requires

pub loop-s-preserved : goal.loop-s-preserved
loop-s-preserved c = rw c.with.ensures (gathered_more _ _ _ c.loop-s.auto.s c.loop-s-test.true c.loop-s.invariant)

pub returns : goal.returns
returns c = λ side s d g h p. c.loop-s.invariant.done side s d g (omega arith) p
