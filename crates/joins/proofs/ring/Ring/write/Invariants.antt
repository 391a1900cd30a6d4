-- `write` meets its contract. The invariant: i corners are written.
use Rattle.joins.proofs.Writing.{Writing}
use Rattle.joins.proofs.ring.Ring.write.Given as goal

abbrev pub invariant-loop-i : goal.invariant-loop-i
invariant-loop-i l = Writing l.self.corners l.self.next l.self.start l.self.len l.initial.out l.out l.place l.i
