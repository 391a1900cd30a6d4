-- `Strips::gather` meets its contract. The invariant: the masks of the strips below s are gathered.
use Rattle.blocking.proofs.Stripping.{Gathered}
use Rattle.blocking.proofs.strips.Strips.gather.Given as goal

abbrev pub invariant-loop-s : goal.invariant-loop-s
invariant-loop-s l = Gathered l.initial.self.masks l.s l.self.masks
