-- `Places::blocked` meets its contract. The invariant: the eights that are no longer in the mask were looked at.
use Rattle.blocking.proofs.Answers.{Looked}
use Rattle.blocking.proofs.places.Places.blocked.Given as goal

abbrev pub invariant-loop-mask : goal.invariant-loop-mask
invariant-loop-mask l = Looked l.sides l.self.points l.initial.mask l.mask

abbrev pub decreases-loop-mask : goal.decreases-loop-mask
decreases-loop-mask l = l.mask
