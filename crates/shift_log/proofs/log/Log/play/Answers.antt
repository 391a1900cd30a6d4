use Rattle.std.proofs.Common.{arith, refl, rules}
use Rattle.shift_log.proofs.PlayingReads.{playing_none, room_for_one, playing_more, playing_done}
use Rattle.shift_log.proofs.log.Log.play.Goals as goal

pub loop-piece-init : goal.loop-piece-init
loop-piece-init c = playing_none _ _ _ c.requires.carried_len (omega arith)

pub answer_line-requires-clause-room : goal.answer_line-requires-clause-room
answer_line-requires-clause-room c = room_for_one c.loop-piece.invariant _ _ c.in-Some.ensures.line c.in-Some.ensures.parts (omega (arith, c.requires.room))

pub answer_line-requires-clause-coords_len : goal.answer_line-requires-clause-coords_len
answer_line-requires-clause-coords_len c = omega (arith, c.requires.coords_len, c.loop-piece.invariant.lent.coords_len)

pub loop-piece-preserved : goal.loop-piece-preserved
loop-piece-preserved c = playing_more c.loop-piece.invariant _ _ c.in-Some.ensures.line c.in-Some.ensures.parts c.answer_line.ensures

pub returns-clause-play : goal.returns-clause-play
returns-clause-play c = playing_done c.loop-piece.invariant refl c.in_default.ensures.no_newline c.keep.ensures (search rules)
