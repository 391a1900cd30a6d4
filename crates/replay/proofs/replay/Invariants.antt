-- What is read at once holds at most 65536 records.
use Rattle.std.proofs.Common.{◌≤◌, ◌*◌, length}
use Rattle.replay.proofs.replay.Given as goal

abbrev pub invariant-loop : goal.invariant-loop
invariant-loop g l = record {
  left : l.left ≤ length l.list;
  records : l.tally.records ≤ 65536 * l.counter;
}
