-- `read_ring` meets its contract. The invariant: the points that were read, and their coordinates as far as there is room.
use Rattle.std.proofs.Common.{length}
use Rattle.wkt.specs.Reads.{Passed}
use Rattle.wkt.proofs.read.read_ring.Given as goal

abbrev pub invariant-loop-behind : goal.invariant-loop-behind
invariant-loop-behind l = Passed l.text l.first.written.now l.last.written.now l.last.rest.now l.count l.coords

abbrev pub decreases-loop-behind : goal.decreases-loop-behind
decreases-loop-behind l = length l.last.rest.now
