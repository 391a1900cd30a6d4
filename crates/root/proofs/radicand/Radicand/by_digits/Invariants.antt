-- `Radicand::by_digits` meets its contract. The loop's invariant: k holds the root's digits from the place b on.
use Rattle.root.proofs.Digits.{Found}
use Rattle.root.proofs.radicand.Radicand.by_digits.Given as goal

abbrev pub invariant-loop-b : goal.invariant-loop-b
invariant-loop-b l = Found l.self.n l.k l.b
