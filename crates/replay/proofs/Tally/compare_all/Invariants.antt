-- Each record takes bytes off the block.
use Rattle.std.proofs.Common.{◌+◌, ◌≤◌, length}
use Rattle.replay.proofs.Tally.compare_all.Given as goal

abbrev pub invariant-loop-record : goal.invariant-loop-record
invariant-loop-record l = record {
  records : l.self.records + length l.rest ≤ l.fn.self.records + length l.block;
  rest : length l.rest ≤ length l.block;
}

abbrev pub decreases-loop-record : goal.decreases-loop-record
decreases-loop-record l = length l.rest
