-- `read_natural` meets its contract. The invariant: the digits up to the rest are those of a number above zero.
use Rattle.std.proofs.Common.{length}
use Rattle.decimals.proofs.Digits.{Sofar}
use Rattle.decimals.proofs.read.read_natural.Given as goal

abbrev pub invariant-loop-digit : goal.invariant-loop-digit
invariant-loop-digit l = Sofar l.text l.value l.rest

abbrev pub decreases-loop-digit : goal.decreases-loop-digit
decreases-loop-digit l = length l.rest
