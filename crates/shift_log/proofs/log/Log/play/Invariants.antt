-- `play` meets its contract. The loop's invariant: the lines in front of the rest were played.
use Rattle.std.proofs.Common.{length}
use Rattle.shift_log.proofs.PlayingReads.{Playing}
use Rattle.shift_log.proofs.log.Log.play.Given as goal

abbrev pub invariant-loop-piece : goal.invariant-loop-piece
invariant-loop-piece l = Playing l.bytes l.initial.self l.self l.initial.text l.text l.rest

abbrev pub decreases-loop-piece : goal.decreases-loop-piece
decreases-loop-piece l = length l.rest
